-- The session stands at its opening.
use Rattle.std.proofs.Common.{◌∙◌, ap₂, sym, subst}
use Rattle.wasm_sem.specs.Types.{Module}
use Rattle.wasm_run.specs.Running.{Run}
use Rattle.wasm_sem.specs.declared.Script.{Script}
use Rattle.wasm_sem.specs.Execution.{IsScriptInRange}
use Rattle.run_session.specs.Sessions.{opened_run}
use Rattle.static_info.specs.Belongs.{Belongs}
use Rattle.app_tests.proofs.Stored.{once_in_range}
use Rattle.app_tests.proofs.following.linked_byte.Goals as goal

pub link-requires : goal.link-requires
link-requires c = record { range = subst IsScriptInRange (sym c.requires.script) once_in_range }

pub followed_byte-requires-clause-opened : goal.followed_byte-requires-clause-opened
followed_byte-requires-clause-opened c = c.in-Ok.ensures.1 ∙ ap₂ (λ (m : Module) (s : Script). opened_run m s) c.requires.output c.requires.script

pub followed_byte-requires-clause-belongs : goal.followed_byte-requires-clause-belongs
followed_byte-requires-clause-belongs c = subst (λ (r : Run). Belongs c.args.info.now r.module) (sym c.in-Ok.ensures.1) c.requires.belongs
