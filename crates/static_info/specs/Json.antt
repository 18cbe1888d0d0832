-- The JSON value of information.
use Rattle.std.specs.Prelude.{◌≡◌, ℕ, ℤ, List, [], ◌∷◌, map, Bool, true, false, codes}
use Rattle.wasm_sem.specs.Types.{ValType, GroupName, Hooks, HookKey}
use Rattle.serde_json.specs.Data.{Data, number, string, array, object, unsigned, no_members, member}
use Rattle.serde_json.specs.Find.{of_integer}
use Rattle.serde_json.specs.View.{items_of}
use Rattle.serde_json.specs.Written.{compact_text}
use Rattle.leb_binary.specs.Texts.{Text}
use Rattle.hook_select.specs.Groups.{groups_in, group_name}
use Rattle.wasm_num.specs.Kinds.{kind_number}
use Rattle.hook_mono.specs.Names.{name_of, letters}
use Rattle.json_form.specs.Text.{IsText}
use Rattle.branch_resolve.specs.declared.Block.{Block}
use Rattle.static_info.specs.declared.TableInfo.{TableInfo}
use Rattle.static_info.specs.declared.FuncInfo.{FuncInfo}
use Rattle.static_info.specs.declared.Info.{Info}
use Rattle.static_info.specs.Form.{IsWellFormed}

abbrev pub list_of : List Data → Data
list_of ds = array (items_of ds)

abbrev pub count_data : ℕ → Data
count_data n = number (unsigned n)

abbrev pub number_data : ℤ → Data
number_data z = number (of_integer z)

abbrev pub text_data : Text → Data
text_data t = string t.bytes

-- a text with a letter for each type
abbrev pub types_data : List ValType → Data
types_data ts = string (letters ts)

-- a list of kind, begin, end and target
abbrev pub block_data : Block → Data
block_data b = list_of (count_data (kind_number b.kind) ∷ number_data b.begin ∷ number_data b.end ∷ number_data b.target ∷ [])

-- a list of position and labels
abbrev pub table_data : TableInfo → Data
table_data t = list_of (number_data t.pos ∷ list_of (map count_data t.labels) ∷ [])

abbrev pub body_data : Bool → FuncInfo → List Data
body_data false f = []
body_data true f = list_of (map block_data f.blocks) ∷ list_of (map table_data f.tables) ∷ []

-- a list of parameters and results, and of blocks and br_tables if the function is defined
abbrev pub func_data : FuncInfo → Data
func_data f = list_of (types_data f.params ∷ types_data f.results ∷ body_data f.defined f)

abbrev pub group_data : GroupName → Data
group_data g = string (group_name g)

-- a list of the names of the groups of a set, in their fixed order
abbrev pub groups_data : Hooks → Data
groups_data hooks = list_of (map group_data (groups_in hooks))

abbrev pub hook_data : HookKey → Data
hook_data key = string (name_of key)

-- the keys are in ascending order as texts
abbrev pub info_data : Info → Data
info_data info = object
    (member (codes "dropped") (list_of (map text_data info.dropped))
    (member (codes "functions") (list_of (map func_data info.functions))
    (member (codes "groups") (groups_data info.groups)
    (member (codes "hooks") (list_of (map hook_data info.hooks))
    (member (codes "imports") (count_data info.imports)
    (member (codes "version") (count_data 1) no_members))))))

-- the compact text, without spaces between its parts
abbrev pub info_text : Info → List ℕ
info_text info = compact_text (info_data info)

-- the value is that of the information, which has the form of information
abbrev pub IsInfo : Data → Info → Type 0
IsInfo d info = IsWellFormed info × (info_data info ≡ d)

-- the bytes hold the information: they are a JSON text of its value
abbrev pub HoldInfo : (bytes : List ℕ) → Info → Type 0
HoldInfo bytes info = (d : Data) × IsText bytes d × IsInfo d info

-- the bytes are a JSON text of a value that is not that of any information
abbrev pub HoldNoInfo : (bytes : List ℕ) → Type 0
HoldNoInfo bytes = (d : Data) × IsText bytes d × ((info : Info) → IsInfo d info → ⊥)

-- the text of information of the right form holds it
abbrev pub TextsHoldInfos : Type 0
TextsHoldInfos = (info : Info) → IsWellFormed info → HoldInfo (info_text info) info

-- bytes hold at most one `Info`
abbrev pub InfosAreUnique : Type 0
InfosAreUnique = (bytes : List ℕ) (a b : Info) → HoldInfo bytes a → HoldInfo bytes b → a ≡ b
