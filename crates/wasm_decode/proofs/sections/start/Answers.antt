use Rattle.std.proofs.Common.{arith}
use Rattle.leb_binary.proofs.Fronts.{one_unsigned}
use Rattle.module_ast.specs.Binary.{IsU32}
use Rattle.wasm_decode.proofs.Fronts.{whole_left, whole_fills, whole_lacks}
use Rattle.wasm_decode.proofs.sections.start.Goals as goal

pub returns-in_err-index-clause-malformed : goal.returns-in_err-index-clause-malformed
returns-in_err-index-clause-malformed c = λ e x p. whole_lacks IsU32 _ _ c.new-cursor.ensures.left c.in_err-index.ensures.bad.1 x p

pub returns-then-left-ne0-clause-malformed : goal.returns-then-left-ne0-clause-malformed
returns-then-left-ne0-clause-malformed c = λ e x p.
    whole_left IsU32 _ _ c.new-cursor.ensures.left (one_unsigned 32) _ _ c.in_ok-index.ensures.ok.1 (λ z. omega (arith, z)) x p

pub returns-clause-ok : goal.returns-clause-ok
returns-clause-ok c = whole_fills IsU32 _ _ c.new-cursor.ensures.left _ _ c.in_ok-index.ensures.ok.1 (omega arith)
