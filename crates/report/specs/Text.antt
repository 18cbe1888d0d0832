-- The text of a report.
use Rattle.std.specs.Prelude.{ℕ, zero, suc, ℤ, List, [], ◌∷◌, ◌++◌, length, flat_map, filter, Bool, Option, option_map, unwrap_or, is_none, is_some, codes, decimal}
use Rattle.std.specs.Fmt.{signed_decimal}
use Rattle.std.specs.List.{join_with_byte}
use Rattle.module_ast.specs.Binary.{load_of_opcode, store_of_opcode, load_name, store_name}
use Rattle.hook_select.specs.declared.Event.{Event}
use Rattle.hook_select.specs.Events.{group_of}
use Rattle.wasm_num.specs.Kinds.{kind_of_number, kind_name}
use Rattle.analyses.specs.declared.Kind.{Kind}
use Rattle.analyses.specs.declared.Kind.TheVariants.{Blocks, Branches, Calls, Memory}
use Rattle.analyses.specs.declared.Row.{Row}

-- the line of these words: a space between each two, and a line feed at the end
abbrev pub line : List (List ℕ) → List ℕ
line words = join_with_byte 32 words ++ 10 ∷ []

abbrev pub kind_text : Kind → List ℕ
kind_text Blocks = codes "blocks"
kind_text Branches = codes "branches"
kind_text Calls = codes "calls"
kind_text Memory = codes "memory"

-- the function and the position, with a colon between them
abbrev pub location : ℕ → ℤ → List ℕ
location func instr = decimal func ++ 58 ∷ signed_decimal instr

-- the words for tags
abbrev pub part_name : (tag : ℕ) → List ℕ
part_name tag = unwrap_or (option_map kind_name (kind_of_number tag)) []

abbrev pub branch_name : (tag : ℕ) → List ℕ
branch_name zero = codes "if"
branch_name (suc zero) = codes "br"
branch_name (suc (suc zero)) = codes "br_if"
branch_name (suc (suc (suc n))) = codes "br_table"

abbrev pub load_named : (opcode : ℕ) → Option (List ℕ)
load_named n = option_map load_name (load_of_opcode n)

abbrev pub store_named : (opcode : ℕ) → Option (List ℕ)
store_named n = option_map store_name (store_of_opcode n)

abbrev pub access_name : (opcode : ℕ) → List ℕ
access_name n = unwrap_or (load_named n) (unwrap_or (store_named n) [])

abbrev pub callee_text : (other : ℕ) → List ℕ
callee_text zero = codes "none"
callee_text (suc f) = decimal f

-- the line of a row
abbrev pub row_line : Kind → Row → List ℕ
row_line Blocks r = line (codes "block" ∷ location r.func r.instr ∷ part_name r.tag ∷ decimal r.count ∷ [])
row_line Branches r = line (codes "branch" ∷ location r.func r.instr ∷ branch_name r.tag ∷ decimal r.other ∷ decimal r.count ∷ [])
row_line Calls r = line (codes "call" ∷ decimal r.func ∷ callee_text r.other ∷ decimal r.count ∷ [])
row_line Memory r =
    line (codes "memory" ∷ location r.func r.instr ∷ access_name r.tag ∷ decimal r.count ∷ decimal r.least ∷ decimal r.greatest ∷ [])

-- the first line: the kind and the number of rows
abbrev pub head_line : Kind → (rows : ℕ) → List ℕ
head_line kind rows = line (codes "report" ∷ kind_text kind ∷ decimal rows ∷ [])

-- the first line, and the line of each row
abbrev pub report_text : Kind → List Row → List ℕ
report_text kind rows = head_line kind (length rows) ++ flat_map (row_line kind) rows

-- the last line: the number of events that are no strays, and the number of strays
abbrev pub events_text : (events strays : ℕ) → List ℕ
events_text events strays = line (codes "events" ∷ decimal events ∷ codes "stray" ∷ decimal strays ∷ [])

abbrev pub is_stray : Event → Bool
is_stray e = is_none (group_of e)

-- the last line for these events
abbrev pub events_line : List Event → List ℕ
events_line es = events_text (length (filter (λ e. is_some (group_of e)) es)) (length (filter is_stray es))
