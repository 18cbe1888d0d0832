use Rattle.std.proofs.Common.{ap}
use Rattle.std.specs.Prelude.{Bool}
use Rattle.module_ast.specs.Binary.{GlobalTypeNode, NumberType, IsValType, IsMutability}
use Rattle.module_ast.proofs.Compose.{both_none_first, both_none_second, both_some}
use Rattle.module_ast.proofs.Tokens.{one_val_type}
use Rattle.code_decode.proofs.Faults.{on_err}
use Rattle.wasm_decode.proofs.types.global_type.Goals as goal

abbrev global_type_by : NumberType → Bool → GlobalTypeNode
global_type_by t m = record { ty = t; mutable = m }

pub returns-in_err-ty-clause-bad : goal.returns-in_err-ty-clause-bad
returns-in_err-ty-clause-bad c =
    on_err c.from_residual.result (both_none_first IsValType IsMutability (λ (g : GlobalTypeNode). g.ty) (λ (g : GlobalTypeNode). g.mutable) _ c.in_err-ty.ensures.bad)

pub returns-in_err-mutable-clause-bad : goal.returns-in_err-mutable-clause-bad
returns-in_err-mutable-clause-bad c =
    on_err c.from_residual-in_err-mutable.result (both_none_second IsValType IsMutability (λ (g : GlobalTypeNode). g.ty) (λ (g : GlobalTypeNode). g.mutable) _ _ _ one_val_type c.in_ok-ty.ensures.ok.1 c.in_err-mutable.ensures.bad)

pub returns-in-Some-clause-ok : goal.returns-in-Some-clause-ok
returns-in-Some-clause-ok c =
    let r = rw c.in-Some.is at c.in_ok-ty.ensures.ok in
    (global_type_by r.0 c.in_ok-mutable.mutable, both_some IsValType IsMutability _ _ _ _ _ r.1 c.in_ok-mutable.ensures.ok, ap (λ t. global_type_by t c.in_ok-mutable.mutable) r.2)

pub returns-in-None-clause-ok : goal.returns-in-None-clause-ok
returns-in-None-clause-ok c =
    let r = rw c.in-None.is at c.in_ok-ty.ensures.ok in
    (global_type_by r.0 c.in_ok-mutable.mutable, both_some IsValType IsMutability _ _ _ _ _ r.1 c.in_ok-mutable.ensures.ok, r.2)
