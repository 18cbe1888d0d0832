use Rattle.std.proofs.Common.{List, ◌==◌, position, length, ap, ◌∙◌}
use Rattle.wasm_sem.specs.Types.{ValType, FuncType}
use Rattle.instrument.specs.Output.{find_type}
use Rattle.instrument.proofs.DistinctTypes.{type_by_width}
use Rattle.instrument.proofs.hook_types.HookTypes.find.Goals as goal

pub returns : goal.returns
returns c =
    let widths = c.self.inside.lengths.keys in
    c.get_index_of.ensures.index ∙ ap (λ (ts : List ValType). position (λ n. length ts == n) widths) c.as_slice.ensures
    ∙ type_by_width c.self.inside.types.items widths c.args.ty.now c.self.invariant
    ∙ ap (λ (ts : List FuncType). find_type ts c.args.ty.now) c.self.view_is
