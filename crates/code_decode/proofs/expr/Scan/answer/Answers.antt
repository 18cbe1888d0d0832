use Rattle.std.proofs.Common.{rules}
use Rattle.code_decode.proofs.expr.Scan.answer.Goals as goal

pub returns-then-self-bound-clause-built : goal.returns-then-self-bound-clause-built
returns-then-self-bound-clause-built c = search rules
