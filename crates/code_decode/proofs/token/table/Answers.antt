use Rattle.std.proofs.Common.{ℕ, List}
use Rattle.module_ast.specs.Binary.{IsU32, IsVec}
use Rattle.leb_binary.proofs.Fronts.{one_unsigned}
use Rattle.module_ast.proofs.Compose.{both_none_first, both_none_second, both_some, one_vec}
use Rattle.code_decode.proofs.Faults.{passed_on}
use Rattle.code_decode.proofs.token.table.Goals as goal

labels : List ℕ × ℕ → List ℕ
labels p = p.0

last : List ℕ × ℕ → ℕ
last p = p.1

pub returns-in_err-labels-clause-malformed : goal.returns-in_err-labels-clause-malformed
unfolding labels last
returns-in_err-labels-clause-malformed c = λ e. both_none_first (IsVec IsU32) IsU32 labels last _ (c.in_err-labels.ensures.malformed (passed_on _ _ _ c.from_residual.ensures.1 e))

pub returns-in_err-last-clause-malformed : goal.returns-in_err-last-clause-malformed
unfolding labels last
returns-in_err-last-clause-malformed c = λ e.
    both_none_second (IsVec IsU32) IsU32 labels last _ _ _ (one_vec IsU32 (one_unsigned 32)) c.in_ok-labels.ensures.ok c.in_err-last.ensures.bad.1

pub returns-clause-ok : goal.returns-clause-ok
returns-clause-ok c = both_some (IsVec IsU32) IsU32 _ _ _ _ _ c.in_ok-labels.ensures.ok c.in_ok-last.ensures.ok.1
