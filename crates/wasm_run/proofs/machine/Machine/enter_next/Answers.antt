use Rattle.std.proofs.Common.{◌≡◌, ◌<◌, ◌∙◌, length, Some, false, refl, sym, ap, subst, arith, vec_capacity}
use Rattle.std.specs.Prelude.{MatchOption}
use Rattle.wasm_run.specs.declared.note.Note.{Note}
use Rattle.wasm_run.specs.Noting.{noted_items, next_outside}
use Rattle.wasm_sem.specs.Execution.{instance}
use Rattle.wasm_run.specs.declared.progress.Progress.{Progress}
use Rattle.wasm_run.specs.Moves.{env_beside, MovesBy}
use Rattle.wasm_run.specs.Progress.{IsStage, KeepsAnswers}
use Rattle.wasm_run.specs.Running.{Run, one_more, configuration_of}
use Rattle.wasm_run.proofs.NextCalls.{number_within}
use Rattle.wasm_run.proofs.Progressing.{with_room, moved_answers}
use Rattle.wasm_run.proofs.machine.Machine.enter_next.Goals as goal

pub end-requires : goal.end-requires
end-requires g c = record {
  room = omega (arith, c.in_ok-reserve.ensures.ok, c.reserve.new.self.ok.0);
  number = λ n at.
      let r : Run = c.self.inside.running in
      let here = subst (λ st. IsStage r.module st (env_beside (configuration_of r)).phase) at c.self.invariant.0.tells.stage in
      let within = number_within r.module r.script c.self.invariant.0.linked c.self.inside.functions.items r.made n c.self.invariant.0.functions_are here in
      omega (arith, within, c.len.ensures, c.self.inside.functions.ok.0);
}

pub invariant_of-self-in-Some-ended : goal.invariant_of-self-in-Some-ended
invariant_of-self-in-Some-ended g c =
    let r : Run = c.self.inside.running in
    let p : Progress = c.self.inside.progress in
    let q : Progress = record p { answers = c.reserve.new.self } in
    let fs = c.self.inside.functions in
    let count : length fs.items ≡ c.len.result = omega (arith, c.len.ensures, fs.ok.0) in
    let room : length q.answers.items < vec_capacity q.answers = omega (arith, c.in_ok-reserve.ensures.ok, c.reserve.new.self.ok.0) in
    let had : KeepsAnswers r q fs.items = record {
      linked = c.self.invariant.0.linked;
      tells = with_room r.module (env_beside (configuration_of r)) p q refl refl c.reserve.ensures.items c.self.invariant.0.tells;
      room = λ _. room;
      functions_are = c.self.invariant.0.functions_are;
    } in (
      moved_answers r c.enter.new.self q c.end.new.self fs.items (Some c.in-Some-ended.answer) had room c.in_ok-ended.ensures.0
          (subst (λ a. MovesBy (instance r.module r.script) a (configuration_of r) (configuration_of (one_more r))) c.in-Some-ended.is c.in_ok-ended.ensures.1)
          (λ m inst e counts. c.end.ensures.tells m inst e (counts ∙ count)) c.end.ensures.same,
      subst (g.N.Notes.are_of c.put.new.self) (sym c.in_ok-ended.ensures.0)
          (c.put.ensures r c.self.invariant.1 (c.made.ensures ∙ ap (λ (r : Run). r.made) c.in_ok-ended.ensures.0)
          (subst (λ (r : Run). MatchOption c.in_ok-note.note (g.N.Notes.KEEPS ≡ false) (λ (n : Note). noted_items n ≡ next_outside r)) (sym c.self.view_is) c.in_ok-note.ensures.note)),
    )
