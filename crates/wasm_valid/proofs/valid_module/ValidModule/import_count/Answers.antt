use Rattle.std.proofs.Common.{◌∙◌, ap, arith}
use Rattle.module_ast.specs.declared.spaces.Counts.{Counts}
use Rattle.module_ast.specs.Structure.{SpaceTable}
use Rattle.code_valid.proofs.Few.{entries_fit, imported_few}
use Rattle.wasm_valid.proofs.valid_module.ValidModule.import_count.Goals as goal

pub overflow_cast-result : goal.overflow_cast-result
overflow_cast-result c =
    let m = c.self.inside.module in
    let counted = ap (λ (n : Counts). n.funcs) (c.imported.ensures ∙ ap (λ (s : SpaceTable). s.imported) c.self.invariant.2) in
    omega (arith, counted, imported_few m.imports, entries_fit m c.self.invariant.0.whole)
