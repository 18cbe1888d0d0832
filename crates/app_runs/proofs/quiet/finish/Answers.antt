-- All steps that were left, or fewer to the end, behind which all of the script's steps tell no more.
use Rattle.std.proofs.Common.{◌≡◌, ℕ, ◌+◌, ◌-◌, ◌≤◌, Ok, true, sym, ap, ◌∙◌, arith}
use Rattle.std.proofs.lemmas.Result.{IfOk-weaker}
use Rattle.wasm_sem.specs.declared.Stop.{Stop}
use Rattle.wasm_sem.specs.declared.Stop.TheVariants as stops
use Rattle.wasm_sem.specs.Execution.{summary, is_over, run_of}
use Rattle.wasm_sem.proofs.Ended.{stays_over}
use Rattle.wasm_run.specs.Running.{Run, configuration_of}
use Rattle.wasm_run.specs.Turns.{more_steps, RunsFor}
use Rattle.app_runs.proofs.quiet.finish.Goals as goal

-- at the end, so many steps after the first
at_end : (r : Run) (n left : ℕ) → n ≤ left → is_over (configuration_of (more_steps n r)) ≡ true → configuration_of (more_steps n r) ≡ run_of r.module r.script (r.made + left)
at_end r n left few over =
    let sum : r.made + n + (left - n) ≡ r.made + left = omega (arith, few) in
    sym (stays_over r.module r.script (r.made + n) (left - n) over) ∙ ap (run_of r.module r.script) sum

ran_out : (stop : Stop) (left : ℕ) (old new : Run) → RunsFor left (Ok stop) old new → configuration_of new ≡ run_of old.module old.script (old.made + left)
ran_out stops.OutOfSteps left old new h = ap configuration_of h.0
ran_out stops.Over left old new h =
    ap configuration_of h.0.further
    ∙ at_end old h.0.steps left h.0.few (sym (ap (λ (r : Run). is_over (configuration_of r)) h.0.further) ∙ h.1)

pub returns : goal.returns
returns c =
    let r = c.args.session in
    let all : r.made + (r.script.steps - r.made) ≡ r.script.steps = omega (arith, c.requires) in
    let ended = ap summary (ran_out c.in_ok-run.field-0 (r.script.steps - r.made) r c.run.new.self c.in_ok-run.ensures.ran ∙ ap (run_of r.module r.script) all) in
    IfOk-weaker c.finish.result _ _ (λ o e. e ∙ ended) c.finish.ensures.outcome
