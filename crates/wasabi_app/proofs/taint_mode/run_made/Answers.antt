-- Memory ended, or what came of the run.
use Rattle.std.proofs.Common.{◌∙◌, ◌≤◌, ℕ, List, length, subst, sym, Some}
use Rattle.module_ast.specs.Validation.Limits.{longest_file}
use Rattle.app_load.proofs.Going.{no_memory}
use Rattle.wasabi_app.specs.Modes.Taint.{ran_plan}
use Rattle.wasabi_app.specs.Warning.{watch_in}
use Rattle.wasabi_app.proofs.TaintRuns.{paired}
use Rattle.wasabi_app.proofs.taint_mode.run_made.Goals as goal

pub read_output-requires-clause-short : goal.read_output-requires-clause-short
read_output-requires-clause-short g c = λ _ _. subst (λ (b : List ℕ). length b ≤ longest_file) (sym (c.as_slice.ensures.value ∙ c.requires.made.written)) c.requires.few

pub returns-in_default : goal.returns-in_default
returns-in_default g c = record {
  ended = λ at tools. no_memory (Some (ran_plan (watch_in c.args.watched.now) c.args.m.now c.args.script)) at tools;
}

pub run_output-requires-clause-paired : goal.run_output-requires-clause-paired
run_output-requires-clause-paired g c =
    paired c.args.m.now c.requires.followable c.requires.free c.args.hooked.now.bytes.items c.args.hooked.now.info c.in-Ok.output c.requires.made c.requires.few
    (rw c.as_slice.ensures.value at c.in-Ok.ensures)
