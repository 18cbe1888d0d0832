use Rattle.std.proofs.Common.{rules}
use Rattle.i64_split.proofs.Pool.local.Goals as goal

pub returns-in-I64 : goal.returns-in-I64
returns-in-I64 c = search rules
