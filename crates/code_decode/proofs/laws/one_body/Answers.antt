use Rattle.leb_binary.proofs.Fronts.{front_one}
use Rattle.module_ast.specs.Binary.{IsBody, IsExpr}
use Rattle.code_decode.proofs.Items.{one_body, whole_one}
use Rattle.code_decode.proofs.Unique.{one_expr}
use Rattle.code_decode.proofs.laws.one_body.Goals as goal

pub returns-clause-bodies : goal.returns-clause-bodies
returns-clause-bodies c = whole_one IsBody one_body

pub returns-clause-expressions : goal.returns-clause-expressions
returns-clause-expressions c = front_one IsExpr one_expr
