-- The numbers of the script are in range.
use Rattle.std.proofs.Common.{subst, sym}
use Rattle.wasm_sem.specs.Execution.{IsScriptInRange}
use Rattle.wasabi_app.proofs.TrialLinks.{trial_in_range}
use Rattle.wasabi_app.proofs.trial_mode.original_text.Goals as goal

pub run_script-requires : goal.run_script-requires
run_script-requires c = record { range = subst IsScriptInRange (sym c.in_ok-script.ensures) (trial_in_range c.args.number c.args.steps c.requires.0 c.requires.1) }
