-- That each mode that reads an output reads what `instrument` wrote.
use Rattle.std.specs.Prelude.{◌≡◌, ◌≢◌, ℕ, ◌≤◌, List, length, Bool, Option, Some}
use Rattle.outside_io.specs.Outside.{Contents, Holds}
use Rattle.wasm_sem.specs.Types.{Module, Selection}
use Rattle.module_ast.specs.Validation.{wide, longest_file}
use Rattle.name_map.specs.declared.Names.{Names}
use Rattle.static_info.specs.Info.{info_of}
use Rattle.static_info.specs.Json.{HoldInfo}
use Rattle.analyses.specs.Tools.{ToolState}
use Rattle.app_load.specs.declared.kinds.Kinds.{Kinds}
use Rattle.app_load.specs.Ends.{Ends, IsBad}
use Rattle.app_load.specs.Plans.{done, prints, Plan, ComesTo}
use Rattle.outside_io.specs.Outside.{ShelfState, PrintState}
use Rattle.app_load.specs.Wants.{Read, module_read, named_read, info_read, script_read, Gives}
use Rattle.app_runs.specs.Texts.{ok_text, counts_of}
use Rattle.wasabi_app.specs.KeptNames.{IsOutput}
use Rattle.wasabi_app.specs.Modes.Check.{check_plan}
use Rattle.wasabi_app.specs.Modes.Record.{record_plan}
use Rattle.wasabi_app.specs.Modes.Report.{report_plan}
use Rattle.wasabi_app.specs.Modes.Run.{run_plan}
use Rattle.wasabi_app.specs.Modes.Tree.{tree_plan}
use Rattle.wasabi_app.specs.Replaying.{LeadsOnlyTo}

-- of the reads that a plan comes to, none is bad except this one
abbrev pub OnlyBad : Contents → Plan → Read → Type 0
OnlyBad contents plan last = (read : Read) (status : ℕ) → ComesTo (Some contents) plan read → IsBad contents read status → read ≡ last

-- ---- the output

-- Wherever the bytes of the output are found, they are read as this module, with names or without. If the contents of
-- the shelf are known, `check` tells the counts of the output, and `run` comes to no bad read except that of the
-- script.
pub record OutputIsRead (written : List ℕ) (result : Module) : Type 0 where
  pub plain : (held : Option Contents) (name : List ℕ) → Holds held name written → Gives held (module_read name longest_file wide) result
  pub named : (keeps : Bool) → (names : Names)
      × ((held : Option Contents) (name : List ℕ) → Holds held name written → Gives held (named_read name longest_file wide keeps) (result, names))
  pub checked : (contents : Contents) (subject : List ℕ) → contents subject ≡ Some written
      → LeadsOnlyTo (Some contents) (check_plan subject) (prints (ok_text (counts_of result)) done)
  pub run_by : (contents : Contents) (subject script : List ℕ) → contents subject ≡ Some written
      → OnlyBad contents (run_plan subject script) (script_read script)

-- ---- and its information

-- the modes that read both the output and its information come to no bad read except that of the script
pub record AreTaken (contents : Contents) (subject info script : List ℕ) : Type 0 where
  pub reported : (kinds : Kinds) (keeps : Bool) → OnlyBad contents (report_plan subject info script kinds keeps) (script_read script)
  pub recorded : (target : List ℕ) (bound : ℕ) → OnlyBad contents (record_plan subject target info script bound) (script_read script)
  pub treed : OnlyBad contents (tree_plan subject info script) (script_read script)

-- Wherever the bytes of the information are found, they are read as information that belongs to the output. If the
-- contents of the shelf are known, and both are there, both are taken.
pub record InfoIsRead (written told : List ℕ) (original : Module) (hooks : Selection) (result : Module) : Type 0 where
  pub informed : (held : Option Contents) (name : List ℕ) → Holds held name told → Gives held (info_read name result) (info_of original hooks)
  pub taken : (contents : Contents) (subject info script : List ℕ) → contents subject ≡ Some written → contents info ≡ Some told
      → AreTaken contents subject info script

-- All this holds for each accepted file, its output, and bytes that hold the information on the original, if there are
-- no more of these bytes than are read.
abbrev pub OutputsAreRead : Type 0
OutputsAreRead =
    (file : List ℕ) (hooks : Selection) (keeps : Bool) (written : List ℕ) (has : IsOutput file hooks keeps written)
    → (result : Module) × OutputIsRead written result
    × ((told : List ℕ) → HoldInfo told (info_of has.original hooks) → length told ≤ longest_file → InfoIsRead written told has.original hooks result)

-- ---- so no status is that of an output, or of its information, that is not what it must be

-- The status 3 is that of the script, if it comes.
pub record IsOfScript (contents : Contents) (script : List ℕ) (status : ℕ) : Type 0 where
  pub unread : status ≡ 3 → IsBad contents (script_read script) 3
  pub not_malformed : status ≢ 6
  pub not_unfit : status ≢ 7
  pub not_invalid : status ≢ 8
  pub not_foreign : status ≢ 16

-- however a plan ends: if no read is bad except that of the script, the status is such
abbrev pub OnlyScriptsAreRefused : Type 0
OnlyScriptsAreRefused =
    (contents : Contents) (plan : Plan) (script : List ℕ) → OnlyBad contents plan (script_read script)
    → (old new : ShelfState) (was is : List ToolState) (before after : PrintState) (status : ℕ) → old.contents ≡ Some contents
    → Ends (Some plan) old new was is before after status → IsOfScript contents script status
