-- What is written for a module whose names are kept.
use Rattle.std.specs.Prelude.{◌≡◌, ◌≢◌, ◌⊎◌, ℕ, List, [], ◌∷◌, ◌++◌, length, Bool, false, codes}
use Rattle.leb_binary.specs.Texts.{Text}
use Rattle.wasm_sem.specs.Types.{Module, Selection}
use Rattle.module_ast.specs.Structure.{funcs_of}
use Rattle.hook_mono.specs.Needed.{needed_keys}
use Rattle.index_remap.specs.declared.Remap.{Remap}
use Rattle.static_info.specs.Info.{info_of}
use Rattle.name_map.specs.declared.Names.{Names}
use Rattle.name_map.specs.Laws.{Follow}
use Rattle.name_map.specs.Names.{no_names, map_names}
use Rattle.name_map.specs.Sections.{AreNames}
use Rattle.name_map.specs.Written.{name_section_bytes}
use Rattle.instrument.specs.Accepted.{IsAccepted, IsInstrumented}
use Rattle.instrument.specs.Output.{hook_remap, output_bytes}
use Rattle.instrument.specs.Made.{IsSound}
use Rattle.app_load.specs.Wants.{AreKept}

-- the names of a module's functions and locals, at their indices in its output
abbrev pub output_names : Module → Selection → Names → Names
output_names m hooks names = map_names (hook_remap m (needed_keys m hooks)) names

-- the output, and after that the section of these names, if there are any
abbrev pub named_output : Module → Selection → Names → List ℕ
named_output m hooks names = output_bytes m hooks ++ name_section_bytes (output_names m hooks names)

-- one custom section `name` if there are names, and no custom section if there are none
abbrev pub HasNameSection : Names → (customs : List Text) → Type 0
HasNameSection names customs =
    ((names ≡ no_names) × (customs ≡ []))
    ⊎ ((names ≢ no_names) × ((name : Text) × (name.bytes ≡ codes "name") × (customs ≡ name ∷ [])))

-- The bytes of this module carry these names of functions and locals, each at the index that it has by the remap, and no
-- other names. The module has no custom section but the one of names, and it has that one if there are names.
pub record CarriesNames (names : Names) (r : Remap) (bytes : List ℕ) (result : Module) : Type 0 where
  pub customs : HasNameSection names result.customs
  pub carries : AreNames bytes (length (funcs_of result)) (map_names r names)
  pub follow : Follow r (map_names r names) names

-- This was written for the file of an accepted module: its output, and after that the section of its names if they are
-- kept. Under every script, all of it does what the original does, and its hook calls read as the original's selected
-- events.
pub record IsOutput (file : List ℕ) (hooks : Selection) (keeps : Bool) (written : List ℕ) : Type 0 where
  pub original : Module
  pub accepted : IsAccepted file original
  pub names : Names
  pub kept : AreKept keeps file original names
  pub output : written ≡ named_output original hooks names
  pub sound : IsSound (info_of original hooks) original hooks written
  pub named : CarriesNames names (hook_remap original (needed_keys original hooks)) written sound.result

-- if names are dropped, what is written is the output alone
abbrev pub DroppedNamesLeaveNothing : Type 0
DroppedNamesLeaveNothing = (file : List ℕ) (hooks : Selection) (written : List ℕ) → IsOutput file hooks false written → IsInstrumented file hooks written
