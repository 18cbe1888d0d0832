use Rattle.std.proofs.Common.{◌<◌, length}
use Rattle.wasm_valid.proofs.Each.{each_func}
use Rattle.wasm_valid.proofs.rules.keeps_import_types.Goals as goal

pub returns : goal.returns
returns c =
    let m = c.args.m.now in
    let each = each_func (λ ty. ty < length m.types) m.imports in
    let tested = rw (c.as_slice.ensures, c.as_slice-2.ensures) at c.name_types.ensures in
    (λ t. each.0 (tested.0 t), λ h. tested.1 (each.1 h))
