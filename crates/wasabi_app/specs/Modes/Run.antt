-- The mode `run`.
use Rattle.std.specs.Prelude.{ℕ, List, codes, option_map}
use Rattle.wasm_sem.specs.Types.{Module}
use Rattle.module_ast.specs.Validation.{wide, longest_file}
use Rattle.app_load.specs.Wants.{module_read, script_read}
use Rattle.app_load.specs.Plans.{Plan, reads, printing}
use Rattle.wasabi_app.specs.Playing.{played, ending_text, ending_finish}
use Rattle.wasabi_app.specs.Words.{Given}
use Rattle.wasabi_app.specs.Mode.{Mode}

-- a module is run by the script
abbrev pub script_plan : (script : List ℕ) → Module → Plan
script_plan script m = reads (script_read script) (λ s. played m s (printing (ending_text m s) (ending_finish m s)))

abbrev pub run_plan : (subject script : List ℕ) → Plan
run_plan subject script = reads (module_read subject longest_file wide) (script_plan script)

-- the mode needs the script
abbrev pub run_mode : Mode
run_mode = record { name = codes "run"; plan = λ (g : Given). option_map (run_plan g.subject) g.script }
