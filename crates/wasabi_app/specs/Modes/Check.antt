-- The mode `check`.
use Rattle.std.specs.Prelude.{ℕ, List, codes, Some}
use Rattle.module_ast.specs.Validation.{wide, longest_file}
use Rattle.app_runs.specs.Texts.{ok_text, counts_of}
use Rattle.app_load.specs.Wants.{module_read}
use Rattle.app_load.specs.Plans.{done, Plan, reads, printing}
use Rattle.wasabi_app.specs.Words.{Given}
use Rattle.wasabi_app.specs.Mode.{Mode}

-- the text of a valid subject is the line of its counts
abbrev pub check_plan : (subject : List ℕ) → Plan
check_plan subject = reads (module_read subject longest_file wide) (λ m. printing (ok_text (counts_of m)) done)

-- the mode needs no option
abbrev pub check_mode : Mode
check_mode = record { name = codes "check"; plan = λ (g : Given). Some (check_plan g.subject) }
