-- What is made of a module that gets hooks.
use Rattle.std.specs.Prelude.{◌≡◌, ℕ, List, length}
use Rattle.wasm_sem.specs.Types.{Module, Selection}
use Rattle.hook_mono.specs.Needed.{needed_keys}
use Rattle.static_info.specs.declared.Info.{Info}
use Rattle.static_info.specs.Form.{IsWellFormed}
use Rattle.static_info.specs.Info.{info_of}
use Rattle.static_info.specs.Json.{info_text}
use Rattle.name_map.specs.declared.Names.{Names}
use Rattle.instrument.specs.Output.{output_bytes}
use Rattle.wasabi_app.specs.KeptNames.{named_output}

-- how many hooks the output of a module has
abbrev pub hook_count : Module → Selection → ℕ
hook_count m hooks = length (needed_keys m hooks)

-- how many bytes the output has
abbrev pub output_length : Module → Selection → ℕ
output_length m hooks = length (output_bytes m hooks)

-- how many bytes the output has with the section of these names after it
abbrev pub named_length : Module → Selection → Names → ℕ
named_length m hooks names = length (named_output m hooks names)

-- the text of the information on a module
abbrev pub information_text : Module → Selection → List ℕ
information_text m hooks = info_text (info_of m hooks)

-- the bytes of the output with these names, and the information on the module
pub record IsNamedMade (m : Module) (hooks : Selection) (names : Names) (bytes : List ℕ) (info : Info) : Type 0 where
  pub written : bytes ≡ named_output m hooks names
  pub information : info ≡ info_of m hooks
  pub form : IsWellFormed info
