-- Which hooks words select of a module.
use Rattle.std.specs.Prelude.{◌≡◌, List, length, Bool, cond, Option, Some, None, is_some, ◌||◌}
use Rattle.std.specs.Option.{option_or}
use Rattle.clap.specs.Words.{Text}
use Rattle.wasm_sem.specs.Types.{Module, Hooks, Selection}
use Rattle.hook_select.specs.Selections.{everywhere}
use Rattle.module_ast.specs.Structure.{funcs_of}
use Rattle.name_map.specs.declared.Names.{Names}
use Rattle.name_map.specs.Names.{no_names}
use Rattle.name_map.specs.Sections.{AreNames}
use Rattle.function_list.specs.Choices.{chosen, first_unknown, listed}

-- the hooks that words select; or the first piece of their lists that means no function with a body
pub data Selected : Type 0 where
  selects : Selection → Selected
  finds_no : (piece : Text) → Selected

-- the flags of the functions that get hooks; none if there is no list, and all functions get hooks
abbrev pub flags_by : (functions except : Option Text) → Module → Names → Option (List Bool)
flags_by None None m names = None
flags_by functions except m names = Some (chosen m names functions except)

-- the first piece that means no function with a body: of `functions`, and then of `except`
abbrev pub unknown_piece : (functions except : Option Text) → Module → Names → Option Text
unknown_piece functions except m names = option_or (first_unknown m names (listed functions)) (first_unknown m names (listed except))

abbrev pub selected_unless : (unknown : Option Text) → Selection → Selected
selected_unless None hooks = selects hooks
selected_unless (Some piece) hooks = finds_no piece

-- what groups and two lists select of a module with these names
abbrev pub selected_by : Hooks → (functions except : Option Text) → Module → Names → Selected
selected_by groups functions except m names =
    selected_unless (unknown_piece functions except m names) (record { groups = groups; functions = flags_by functions except m names })

-- This is selected of the module of a file. If there is a list, the names are those that the file carries, whether they are kept
-- or not.
abbrev pub IsSelected : Hooks → (functions except : Option Text) → (file : Text) → Module → Selection → Type 0
IsSelected groups None None file m hooks = hooks ≡ everywhere groups
IsSelected groups functions except file m hooks =
    (names : Names) × AreNames file (length (funcs_of m)) names × (selected_by groups functions except m names ≡ selects hooks)

-- whether names are read: if they are kept, or if there is a list
abbrev pub reads_names : (keeps : Bool) → (functions except : Option Text) → Bool
reads_names keeps functions except = keeps || (is_some functions || is_some except)

-- the names that the output keeps
abbrev pub names_kept : (keeps : Bool) → Names → Names
names_kept keeps names = cond keeps names no_names
