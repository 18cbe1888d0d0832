use Rattle.std.proofs.Common.{rules}
use Rattle.run_store.proofs.functions.same_func_type.Goals as goal

pub returns-then-same_types : goal.returns-then-same_types
returns-then-same_types c = search rules
