-- The groups that are a key by themselves.
use Rattle.std.specs.Prelude.{ℕ, List, [], ◌∷◌, Bool, Option, Some, None, codes, filter, is_some}
use Rattle.std.specs.Option.{option_map_or}
use Rattle.wasm_num.specs.declared.ValType.{ValType}
use Rattle.wasm_num.specs.declared.ValType.TheVariants.{I32}
use Rattle.hook_select.specs.declared.GroupName.{GroupName}
use Rattle.hook_select.specs.declared.GroupName.TheVariants as groups
use Rattle.hook_select.specs.Groups.{groups as all_groups}

-- The hook of each group that is a key by itself: its name, and the types of the values that follow the function and the
-- position. A br_table tells its index alone: the label that it chooses and where this label leads follow from the information.
abbrev pub plain_hook : GroupName → Option (List ℕ × List ValType)
plain_hook groups.Start = Some (codes "start", [])
plain_hook groups.Nop = Some (codes "nop", [])
plain_hook groups.Unreachable = Some (codes "unreachable", [])
plain_hook groups.If = Some (codes "if", I32 ∷ [])
plain_hook groups.Br = Some (codes "br", I32 ∷ I32 ∷ [])
plain_hook groups.BrIf = Some (codes "br_if", I32 ∷ I32 ∷ I32 ∷ [])
plain_hook groups.BrTable = Some (codes "br_table", I32 ∷ [])
plain_hook groups.MemorySize = Some (codes "memory.size", I32 ∷ [])
plain_hook groups.MemoryGrow = Some (codes "memory.grow", I32 ∷ I32 ∷ [])
plain_hook _ = None

abbrev pub is_plain : GroupName → Bool
is_plain g = is_some (plain_hook g)

-- these groups, in their order
abbrev pub plain_groups : List GroupName
plain_groups = filter is_plain all_groups

abbrev pub plain_name : GroupName → List ℕ
plain_name g = option_map_or (λ hook. hook.0) (plain_hook g) []

abbrev pub plain_values : GroupName → List ValType
plain_values g = option_map_or (λ hook. hook.1) (plain_hook g) []
