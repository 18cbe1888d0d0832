-- The modes, and the plan of the words of a command.
pub mod Check
pub mod Instrument
pub mod Run
pub mod Report
pub mod Record
pub mod Replay
pub mod Tree
pub mod Trial
pub mod Taint
use Rattle.std.specs.Prelude.{ℕ, List, [], ◌∷◌, bytes_eq, find, Option, option_and_then}
use Rattle.app_load.specs.Plans.{Plan}
use Rattle.wasabi_app.specs.Words.{Given, given}
use Rattle.wasabi_app.specs.Mode.{Mode}
use Rattle.wasabi_app.specs.Modes.Check.{check_mode}
use Rattle.wasabi_app.specs.Modes.Instrument.{instrument_mode}
use Rattle.wasabi_app.specs.Modes.Run.{run_mode}
use Rattle.wasabi_app.specs.Modes.Report.{report_mode}
use Rattle.wasabi_app.specs.Modes.Record.{record_mode}
use Rattle.wasabi_app.specs.Modes.Replay.{replay_mode}
use Rattle.wasabi_app.specs.Modes.Tree.{tree_mode}
use Rattle.wasabi_app.specs.Modes.Trial.{trial_mode}
use Rattle.wasabi_app.specs.Modes.Taint.{taint_mode}

abbrev pub modes : List Mode
modes = check_mode ∷ instrument_mode ∷ run_mode ∷ report_mode ∷ record_mode ∷ replay_mode ∷ tree_mode ∷ trial_mode ∷ taint_mode ∷ []

-- the plan of the mode with this name
abbrev pub plan_in : (mode : List ℕ) → Given → Option Plan
plan_in mode g = option_and_then (λ (m : Mode). m.plan g) (find (λ (m : Mode). bytes_eq m.name mode) modes)

-- the plan of the words, or `None` if they are no command
abbrev pub plan_of : List (List ℕ) → Option Plan
plan_of words = option_and_then (λ (g : Given). plan_in g.mode g) (given words)
