use Rattle.std.proofs.Common.{◌∙◌, length, ap, arith}
use Rattle.module_ast.specs.Validation.{push}
use Rattle.wasm_sem.specs.Execution.{values_of}
use Rattle.run_stack.specs.Flat.{Flat}
use Rattle.wasm_run.proofs.Begun.{numbers_pushed, alone_on}
use Rattle.wasm_run.proofs.call.enter_alone.Goals as goal

pub enter-requires-clause-params : goal.enter-requires-clause-params
enter-requires-clause-params c =
    omega (arith, ap (λ (f : Flat). length f.values) c.push_values.ensures, numbers_pushed c.as_slice-params.result.now c.args.numbers.now c.make_room.new.self.values)

pub returns-clause-ok : goal.returns-clause-ok
returns-clause-ok c =
    let had = c.in_ok-make_room.ensures.same in
    alone_on c.enter.result c.args.ty.now c.args.body.now c.args.numbers.now c.as_slice-params.result.now c.as_slice.result.now c.args.size.height c.args.size.nesting c.push_values.new.stack c.enter.new.self
    c.as_slice-params.ensures c.as_slice.ensures
    (ap (λ (f : Flat). f.values) c.push_values.ensures ∙ ap (push (values_of c.as_slice-params.result.now c.args.numbers.now)) (had.values ∙ ap (λ (f : Flat). f.values) c.clear.ensures))
    (ap (λ (f : Flat). f.spots) c.push_values.ensures ∙ had.spots ∙ ap (λ (f : Flat). f.spots) c.clear.ensures)
    (ap (λ (f : Flat). f.bases) c.push_values.ensures ∙ had.bases ∙ ap (λ (f : Flat). f.bases) c.clear.ensures)
    c.enter.ensures.ok
