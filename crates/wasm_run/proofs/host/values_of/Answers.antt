use Rattle.std.proofs.Common.{◌≡◌, ◌++◌, ◌∙◌, List, [], drop, ap, sym, append-nil}
use Rattle.std.proofs.lemmas.List.{drop_all}
use Rattle.wasm_sem.specs.Types.{ValType}
use Rattle.wasm_sem.specs.Execution.{values_of}
use Rattle.wasm_run.proofs.host.values_of.Goals as goal

pub returns : goal.returns
returns c =
    let none : drop c.loop-place.place c.args.types.now ≡ [] = drop_all c.loop-place.place c.args.types.now c.loop-place-test.false in
    sym (append-nil c.loop-place.values) ∙ ap (λ (ts : List ValType). c.loop-place.values ++ values_of ts (drop c.loop-place.place c.args.numbers.now)) (sym none) ∙ c.loop-place.invariant
