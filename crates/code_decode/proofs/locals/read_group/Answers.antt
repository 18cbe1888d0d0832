use Rattle.std.proofs.Common.{ℕ, refl}
use Rattle.leb_binary.proofs.Fronts.{one_unsigned}
use Rattle.module_ast.specs.Binary.{IsU32, IsValType, GroupNode, NumberType}
use Rattle.module_ast.proofs.Compose.{both_none_first, both_none_second, both_some}
use Rattle.code_decode.proofs.locals.read_group.Goals as goal

count : GroupNode → ℕ
count g = g.count

ty : GroupNode → NumberType
ty g = g.ty

pub returns-in_default-clause-bad : goal.returns-in_default-clause-bad
unfolding count ty
returns-in_default-clause-bad c = both_none_first IsU32 IsValType count ty _ c.in_default.ensures.bad.1

pub returns-in_default-val_type-clause-bad : goal.returns-in_default-val_type-clause-bad
unfolding count ty
returns-in_default-val_type-clause-bad c =
    both_none_second IsU32 IsValType count ty _ _ _ (one_unsigned 32) c.in-Ok.ensures.ok.1 c.in_default-val_type.ensures.bad

pub returns-clause-ok : goal.returns-clause-ok
returns-clause-ok c =
    let t = c.in-Ok-val_type.ensures.ok in
    (record { count = c.in-Ok.count; ty = t.0 }, both_some IsU32 IsValType _ _ _ _ _ c.in-Ok.ensures.ok.1 t.1, refl, t.2)
