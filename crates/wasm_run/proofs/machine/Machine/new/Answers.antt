use Rattle.std.proofs.Common.{◌≡◌, ◌∙◌, None, length, refl, sym, ap, subst, arith}
use Rattle.wasm_sem.specs.Types.{Module}
use Rattle.wasm_sem.specs.Execution.{instance, first_phase, call_from}
use Rattle.wasm_run.specs.declared.progress.Progress.{Progress}
use Rattle.wasm_run.specs.Progress.{IsStage, AreCalled, KeepsAnswers}
use Rattle.wasm_run.specs.Running.{Run}
use Rattle.wasm_run.proofs.NextCalls.{calls_count}
use Rattle.wasm_run.proofs.Progressing.{opening_tells, opened_start, opened_call}
use Rattle.wasm_run.proofs.machine.Machine.new.Goals as goal
use Rattle.wasm_run.proofs.machine.Machine.new.Goals.{in-Some, in-None}

pub invariant_of-result : goal.invariant_of-result
invariant_of-result g c =
    let m : Module = c.args.valid.now in
    let s = c.args.script.now in
    let q : Progress = record { stage = c.match-module.stage; started = None; answers = c.new-2.result } in
    let functions_are : AreCalled m s c.in_ok-functions.functions.items = subst (λ (m : Module). AreCalled m s c.in_ok-functions.functions.items) c.module-module.ensures.module c.in_ok-functions.ensures in
    let stage : IsStage m c.match-module.stage (first_phase (instance m s) m.start) = elim c.match-module.branch [
      | in-Some w ↦ opened_start m s c.match-module.stage w.in-Some.func w.stage-is (ap (λ (m : Module). m.start) (sym c.module-module.ensures.module) ∙ w.in-Some.is)
      | in-None w ↦
          let fs = c.in_ok-functions.functions in
          let count : length fs.items ≡ w.len.result = omega (arith, w.len.ensures, fs.ok.0) in
          opened_call m s c.match-module.stage (ap (λ (m : Module). m.start) (sym c.module-module.ensures.module) ∙ w.in-None.is)
          (subst (λ st. IsStage m st (call_from (instance m s) 0)) (sym w.stage-is) (w.call_from-stage.ensures m (instance m s) (calls_count m s fs.items functions_are ∙ count)))
    ] in (
      subst (λ (r : Run). KeepsAnswers r q c.in_ok-functions.functions.items) (sym c.in_ok-running.ensures) (record {
        linked = record { valid = c.module-module.ensures.valid; complete = c.module-module.ensures.complete; range = c.requires.range; links = c.requires.links };
        tells = opening_tells m s q stage refl c.new-2.ensures.items;
        room = λ inside. absurd inside;
        functions_are = functions_are;
      }),
      c.none.ensures c.in_ok-running.running (ap (λ (r : Run). r.made) c.in_ok-running.ensures),
    )
