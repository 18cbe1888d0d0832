use Rattle.std.proofs.Common.{◌≡◌, ◌∙◌, [], length, true, false, sym, ap, subst, arith}
use Rattle.wasm_sem.specs.Execution.{is_over}
use Rattle.wasm_run.specs.Moves.{env_beside, MayWant}
use Rattle.wasm_run.specs.Noting.{next_outside}
use Rattle.wasm_run.specs.Progress.{IsStage}
use Rattle.wasm_run.specs.Running.{Run, one_more, configuration_of}
use Rattle.wasm_run.proofs.NextCalls.{number_within, inside_goes}
use Rattle.wasm_run.proofs.Progressing.{moved_answers, wanted}
use Rattle.wasm_run.proofs.machine.Machine.go_on.Goals as goal

pub step_inside-requires-clause-awaits : goal.step_inside-requires-clause-awaits
step_inside-requires-clause-awaits g c = record {
  room = c.self.invariant.0.room c.if-is_inside.ensures;
  number = λ n at.
      let r : Run = c.self.inside.running in
      let here = subst (λ st. IsStage r.module st (env_beside (configuration_of r)).phase) at c.self.invariant.0.tells.stage in
      let within = number_within r.module r.script c.self.invariant.0.linked c.self.inside.functions.items r.made n c.self.invariant.0.functions_are here in
      omega (arith, within, c.len.ensures, c.self.inside.functions.ok.0);
}

pub returns-in_err-step_inside : goal.returns-in_err-step_inside
returns-in_err-step_inside g c =
    let r : Run = c.self.inside.running in
    wanted c.from_residual.result c.args.self.now c.step_inside.new.self c.from_residual.ensures.0 (c.in_err-step_inside.ensures.0.0 ∙ c.self.view_is)
    (subst (λ (r : Run). MayWant (configuration_of r)) c.self.view_is c.in_err-step_inside.ensures.0.1)
    (subst (λ (r : Run). is_over (configuration_of r) ≡ false) c.self.view_is (inside_goes r.module r.script c.self.invariant.0.linked r.made c.if-is_inside.ensures))

pub invariant_of-self-then-is_inside : goal.invariant_of-self-then-is_inside
invariant_of-self-then-is_inside g c =
    let fs = c.self.inside.functions in
    let count : length fs.items ≡ c.len.result = omega (arith, c.len.ensures, fs.ok.0) in
    let made = c.in_ok-step_inside.ensures in (
      moved_answers c.self.inside.running c.step_inside.new.self c.self.inside.progress c.step_inside.new.told fs.items made.0 c.self.invariant.0 (c.self.invariant.0.room c.if-is_inside.ensures) made.1.0 made.1.1
          (λ m inst e counts. made.2.tells m inst e (counts ∙ count)) made.2.same,
      subst (g.N.Notes.are_of c.self.inside.notes) (sym made.1.0) (g.met.N.Notes.goes_on c.self.inside.notes c.self.inside.running
          (subst (λ (r : Run). g.N.Notes.KEEPS ≡ true → next_outside r ≡ []) (sym c.self.view_is) c.in_default.ensures) c.self.invariant.1),
    )

pub returns-then-is_inside : goal.returns-then-is_inside
returns-then-is_inside g c =
    let r : Run = c.self.inside.running in (
      c.in_ok-step_inside.ensures.1.0 ∙ ap one_more c.self.view_is,
      subst (λ (r : Run). is_over (configuration_of r) ≡ false) c.self.view_is (inside_goes r.module r.script c.self.invariant.0.linked r.made c.if-is_inside.ensures),
    )
