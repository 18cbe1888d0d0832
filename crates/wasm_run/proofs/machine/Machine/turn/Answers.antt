use Rattle.std.proofs.Common.{◌∙◌, false, sym, ap, subst}
use Rattle.wasm_sem.specs.Execution.{turn_by, hook_in, instance, items}
use Rattle.wasm_run.specs.Moves.{MayWant}
use Rattle.wasm_run.specs.Running.{Run, configuration_of}
use Rattle.wasm_run.specs.Turns.{next_turn}
use Rattle.wasm_run.proofs.Hooks.{on_err}
use Rattle.wasm_run.proofs.NextCalls.{inside_goes}
use Rattle.wasm_run.proofs.machine.Machine.turn.Goals as goal

pub returns-then-is_inside-clause-turn : goal.returns-then-is_inside-clause-turn
returns-then-is_inside-clause-turn g c =
    let r : Run = c.self.inside.running in
    c.turn_with.ensures ∙ ap (turn_by false) c.in_ok-hook_called.ensures.hook
    ∙ ap (λ b. turn_by b (hook_in (items (instance r.module r.script) (configuration_of r)))) (sym (inside_goes r.module r.script c.self.invariant.0.linked r.made c.if-is_inside.ensures))
    ∙ ap next_turn c.self.view_is

pub returns-in_err-hook_called-clause-err : goal.returns-in_err-hook_called-clause-err
returns-in_err-hook_called-clause-err g c = on_err c.from_residual.result (subst (λ (r : Run). MayWant (configuration_of r)) c.self.view_is c.in_err-hook_called.ensures.err)
