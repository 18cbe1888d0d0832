-- The mode `instrument`.
use Rattle.std.specs.Prelude.{ℕ, List, [], ◌∷◌, codes, Bool, true, false, cond, bytes_eq, nat_le, Option, Some, None, option_map, option_and_then}
use Rattle.std.specs.List.{list_any}
use Rattle.wasm_sem.specs.Types.{Module, Selection}
use Rattle.module_ast.specs.Validation.{narrow, longest_narrow_file}
use Rattle.wasm_sem.specs.Execution.{is_hook}
use Rattle.name_map.specs.declared.Names.{Names}
use Rattle.app_load.specs.Kinds.{no_kinds}
use Rattle.wasabi_app.specs.Making.{hook_count, named_length, information_text}
use Rattle.wasabi_app.specs.KeptNames.{named_output}
use Rattle.wasabi_app.specs.Selecting.{Selected, selects, finds_no, selected_by, reads_names, names_kept}
use Rattle.wasabi_app.specs.Texts.{taken_text, too_large_text, no_function_text, wrote_text}
use Rattle.app_load.specs.Wants.{Read, named_read}
use Rattle.app_load.specs.Plans.{no_output, no_function, done, File, file, Effect, does, Plan, reads, ends, refusing}
use Rattle.wasabi_app.specs.Words.{Given}
use Rattle.wasabi_app.specs.Mode.{Mode}

-- some import names the module of the hooks
abbrev pub names_hooks : Module → Bool
names_hooks m = list_any is_hook m.imports

-- the information is a file if it has a name
abbrev pub info_files : Option (List ℕ) → (text : List ℕ) → List File
info_files None text = []
info_files (Some name) text = file name text ∷ []

-- the output is written with its names after it, and then the information
abbrev pub output_effect : Given → (target : List ℕ) → Module → Selection → Names → Effect
output_effect g target m hooks names = record {
  kinds = no_kinds;
  events = [];
  files = file target (named_output m hooks names) ∷ info_files g.info (information_text m hooks);
  text = wrote_text (named_length m hooks names) (hook_count m hooks);
  finish = done;
}

-- this plan, if the output is within the bound; otherwise the refusal of status 9
abbrev pub bounded : (is_within : Bool) → (long : ℕ) → Plan → Plan
bounded true long plan = plan
bounded false long plan = refusing no_output (too_large_text long)

-- this plan, if no import names the module of the hooks; otherwise the refusal of status 9
abbrev pub untaken : (names_hooks : Bool) → (subject : List ℕ) → Plan → Plan
untaken true subject plan = refusing no_output (taken_text subject)
untaken false subject plan = plan

-- this plan, if no import names the module of the hooks and the output is no longer than the bound
abbrev pub hooked : (subject : List ℕ) → Module → (output_length bound : ℕ) → Plan → Plan
hooked subject m long bound plan = untaken (names_hooks m) subject (bounded (nat_le long bound) long plan)

-- the output of a module with these hooks and names is made and written
abbrev pub output_plan : Given → (target : List ℕ) → Module → Selection → Names → Plan
output_plan g target m hooks names = hooked g.subject m (named_length m hooks names) g.bound (ends (does (output_effect g target m hooks names)))

-- the plan of the hooks that are selected; or the refusal of status 23, if a piece of a list means no function with a body
abbrev pub found : Selected → (Selection → Plan) → Plan
found (selects hooks) plan = plan hooks
found (finds_no piece) plan = refusing no_function (no_function_text piece)

-- the hooks are selected of a module with these names, and its output is made and written with the names that are kept
abbrev pub selected_plan : Given → (target : List ℕ) → Module → Names → Plan
selected_plan g target m names =
    found (selected_by g.hooks g.functions g.except m names) (λ hooks. output_plan g target m hooks (names_kept g.keeps names))

-- the read of the subject, with its names if they are kept or if there is a list of functions
abbrev pub subject_read : Given → Read
subject_read g = named_read g.subject longest_narrow_file narrow (reads_names g.keeps g.functions g.except)

abbrev pub instrument_plan : Given → (target : List ℕ) → Plan
instrument_plan g target = reads (subject_read g) (λ named. selected_plan g target named.0 named.1)

-- the mode needs a target, and the target is not the name of the information
abbrev pub is_name : Option (List ℕ) → List ℕ → Bool
is_name None name = false
is_name (Some given) name = bytes_eq given name

abbrev pub target_of : Given → Option (List ℕ)
target_of g = option_and_then (λ target. cond (is_name g.info target) None (Some target)) g.target

abbrev pub instrument_mode : Mode
instrument_mode = record { name = codes "instrument"; plan = λ (g : Given). option_map (instrument_plan g) (target_of g) }
