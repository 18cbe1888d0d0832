-- The mode `trial`: a module is made of a number, and runs with its output by one script.
use Rattle.std.specs.Prelude.{ℕ, ◌%◌, ◌^◌, pos, List, [], ◌∷◌, length, codes, decimal, nat_le, nat_lt, ◌&&◌, true, cond, Option, Some, None, option_map}
use Rattle.std.specs.Str.Parse.{digits_value}
use Rattle.clap.specs.ValueTests.{is_numeral}
use Rattle.wasm_sem.specs.Types.{Module, Event, Selection}
use Rattle.hook_select.specs.Selections.{everywhere}
use Rattle.module_ast.specs.Binary.{module_bytes}
use Rattle.module_ast.specs.Structure.{funcs_of}
use Rattle.module_ast.specs.Validation.Limits.{longest_file}
use Rattle.hook_select.specs.Groups.{hooks_of}
use Rattle.wasm_sem.specs.declared.Call.{Call}
use Rattle.wasm_sem.specs.declared.Script.{Script}
use Rattle.wasm_sem.specs.Execution.{summary_of}
use Rattle.static_info.specs.Info.{info_of}
use Rattle.instrument.specs.Output.{output}
use Rattle.module_gen.specs.Made.{main_text, made}
use Rattle.report.specs.Text.{events_line}
use Rattle.app_load.specs.Kinds.{all_reports}
use Rattle.app_load.specs.Plans.{Finish, Effect, does, Plan, ends}
use Rattle.app_load.specs.Texts.{concat_texts}
use Rattle.app_runs.specs.Reporting.{events_told}
use Rattle.app_runs.specs.RunTexts.{run_text}
use Rattle.wasabi_app.specs.Making.{hook_count, output_length}
use Rattle.wasabi_app.specs.Playing.{finish_of}
use Rattle.wasabi_app.specs.Modes.Instrument.{bounded}
use Rattle.wasabi_app.specs.Words.{Given}
use Rattle.wasabi_app.specs.Mode.{Mode}

-- the number that a text writes in digits alone, if it is a number of 64 bits
abbrev pub trial_number : (text : List ℕ) → Option ℕ
trial_number text = cond (is_numeral text && nat_lt (digits_value 10 text) (2 ^ 64)) (Some (digits_value 10 text)) None

abbrev pub all_hooks : Selection
all_hooks = everywhere (hooks_of (λ group. true))

-- ---- the script

-- The export `main` is called with the number modulo 2 ^ 32, no host answers, and there are at most 4 pages.
abbrev pub main_call : (number : ℕ) → Call
main_call number = record { export = main_text; args = pos (number % 2 ^ 32) ∷ [] }

abbrev pub trial_script : (number steps : ℕ) → Script
trial_script number steps =
    record { calls = main_call number ∷ []; hosts = []; globals = []; pages = 4; depth = 10000; steps = steps }

-- The most steps that the original's run may take, and those that the output's run may take. The output takes more
-- steps for the same.
abbrev pub first_steps : ℕ
first_steps = 10000000

abbrev pub second_steps : ℕ
second_steps = 1000000000

-- ---- the text

-- how large a module and its output are
abbrev pub sizes_text : (number bytes functions output hooks : ℕ) → List ℕ
sizes_text number bytes functions output hooks =
    concat_texts (codes "trial " ∷ decimal number ∷ codes "\nmodule " ∷ decimal bytes ∷ codes " bytes, " ∷ decimal functions ∷ codes " functions\noutput "
    ∷ decimal output ∷ codes " bytes, " ∷ decimal hooks ∷ codes " hooks\n" ∷ [])

-- the sizes, and after them the text of the original's run
abbrev pub front_text : (sizes original : List ℕ) → List ℕ
front_text sizes original = concat_texts (sizes ∷ codes "original:\n" ∷ original ∷ [])

-- after that, the text of the output's run and the number of events
abbrev pub runs_text : (front output events : List ℕ) → List ℕ
runs_text front output events = concat_texts (front ∷ codes "output:\n" ∷ output ∷ events ∷ [])

-- the text of a run by the script for `steps` steps
abbrev pub told_of_run : (number steps : ℕ) → Module → List ℕ
told_of_run number steps m = run_text (main_call number ∷ []) (summary_of m (trial_script number steps) steps)

-- ---- a module and its output with all hooks, tried by the script of a number, for `first` and `second` steps

-- the events that the hook calls of the output are read as, and how the run of the output ends
abbrev pub pair_events : (number second : ℕ) → Module → List Event
pair_events number second m = events_told (info_of m all_hooks) (output m all_hooks) (trial_script number second) second

abbrev pub pair_finish : (number second : ℕ) → Module → Finish
pair_finish number second m = finish_of (summary_of (output m all_hooks) (trial_script number second) second)

abbrev pub pair_front : (number first : ℕ) → Module → List ℕ
pair_front number first m =
    front_text (sizes_text number (length (module_bytes m)) (length (funcs_of m)) (output_length m all_hooks) (hook_count m all_hooks)) (told_of_run number first m)

abbrev pub pair_text : (number first second : ℕ) → Module → List ℕ
pair_text number first second m =
    runs_text (pair_front number first m) (told_of_run number second (output m all_hooks)) (events_line (pair_events number second m))

-- the analyses take the events of the output's run, and a summary is printed
abbrev pub pair_effect : (number first second : ℕ) → Module → Effect
pair_effect number first second m = record {
  kinds = all_reports;
  events = pair_events number second m;
  files = [];
  text = pair_text number first second m;
  finish = pair_finish number second m;
}

-- this plan, if the output is no longer than any that is written; otherwise the refusal of status 9
abbrev pub pair_plan : (number first second : ℕ) → Module → Plan
pair_plan number first second m =
    bounded (nat_le (output_length m all_hooks) longest_file) (output_length m all_hooks) (ends (does (pair_effect number first second m)))

-- ---- the mode

-- the module is the one that is made of the number
abbrev pub trial_plan : (number : ℕ) → Plan
trial_plan number = pair_plan number first_steps second_steps (made number)

-- the mode needs no option
abbrev pub trial_mode : Mode
trial_mode = record { name = codes "trial"; plan = λ (g : Given). option_map trial_plan (trial_number g.subject) }

-- ---- what a trial tells of

abbrev pub trial_output : (number : ℕ) → Module
trial_output number = output (made number) all_hooks

abbrev pub trial_events : (number : ℕ) → List Event
trial_events number = pair_events number second_steps (made number)
