-- How the making of an output ends.
use Rattle.std.specs.Prelude.{◌≡◌, ◌≢◌, ◌≤◌, ℕ, List, length, Some, None, Err}
use Rattle.wasm_sem.specs.Types.{Module, Selection}
use Rattle.wasm_sem.specs.Execution.{IsFree}
use Rattle.name_map.specs.declared.Names.{Names}
use Rattle.analyses.specs.Tools.{ToolState}
use Rattle.wasabi_app.specs.Making.{hook_count, named_length, information_text}
use Rattle.outside_io.specs.Outside.{ShelfState}
use Rattle.wasabi_app.specs.KeptNames.{named_output}
use Rattle.wasabi_app.specs.Texts.{wrote_text}
use Rattle.app_load.specs.declared.printing.Refusal.{Refusal}
use Rattle.wasabi_app.specs.Modes.Instrument.{hooked, found}
use Rattle.wasabi_app.specs.Selecting.{selected_by}
use Rattle.app_load.specs.Outcomes.{Yields}
use Rattle.app_load.specs.Plans.{Plan}
use Rattle.wasabi_app.specs.Words.{Given}

-- A module gets no hooks, and the refusal is that of every plan that follows. `output_length` is the length of its
-- output in bytes.
abbrev pub GetsNone : (subject : List ℕ) → Module → (output_length bound : ℕ) → Refusal → Type 0
GetsNone subject m long bound refusal =
    (plan : Plan) (at : ShelfState) (tools : List ToolState) → Yields (Some (hooked subject m long bound plan)) at at tools tools (Err refusal)

-- No hooks are selected of a module with these names, and the refusal is that of every plan that follows.
abbrev pub IsUnselected : Given → Module → Names → Refusal → Type 0
IsUnselected g m names refusal =
    (plan : Selection → Plan) (at : ShelfState) (tools : List ToolState)
    → Yields (Some (found (selected_by g.hooks g.functions g.except m names) plan)) at at tools tools (Err refusal)

-- the output with its names, the information if the words ask for it, and the line that tells of the output
pub record IsOutputMade (g : Given) (m : Module) (hooks : Selection) (names : Names) (output info text : List ℕ) : Type 0 where
  pub free : IsFree m
  pub within : named_length m hooks names ≤ g.bound
  pub written : output ≡ named_output m hooks names
  pub informs : g.info ≢ None → info ≡ information_text m hooks
  pub says : text ≡ wrote_text (length output) (hook_count m hooks)
