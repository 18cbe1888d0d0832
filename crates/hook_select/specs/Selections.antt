-- Which hooks are selected: groups, and the functions that get their hooks. Functions have their indices in the original.
use Rattle.std.specs.Prelude.{ℕ, List, get_or, Bool, true, false, cond, Option, Some, None}
use Rattle.hook_select.specs.declared.GroupName.{GroupName}
use Rattle.hook_select.specs.declared.Hooks.{Hooks}
use Rattle.hook_select.specs.declared.Event.{Event}
use Rattle.hook_select.specs.Groups.{has, hooks_of}
use Rattle.hook_select.specs.declared.Event.TheVariants.{Start, Nop, Unreachable, If, Br, BrIf, BrTable, Begin, End, Const, Unary, Binary, Drop, Select, Local, Global, Load, Store, MemorySize, MemoryGrow, CallPre, IndirectPre, CallPost, Return, Stray}
use Rattle.hook_select.specs.Events.{group_of}

-- the groups, and a flag for each function, whether it gets their hooks; none, if all functions get them
pub record Selection : Type 0 where
  pub groups : Hooks
  pub functions : Option (List Bool)

-- no group
abbrev pub no_hooks : Hooks
no_hooks = hooks_of (λ g. false)

-- these groups in all functions
abbrev pub everywhere : Hooks → Selection
everywhere hooks = record { groups = hooks; functions = None }

-- whether a function gets its hooks; one without a flag does not
abbrev pub covers : Option (List Bool) → (func : ℕ) → Bool
covers None f = true
covers (Some flags) f = get_or flags f false

-- the groups of one function
abbrev pub hooks_at : Selection → (func : ℕ) → Hooks
hooks_at s f = cond (covers s.functions f) s.groups no_hooks

-- ---- events

-- the function that an event is of; 0 for a hook call that the information does not explain
abbrev pub func_of : Event → ℕ
func_of (Start loc) = loc.func
func_of (Nop loc) = loc.func
func_of (Unreachable loc) = loc.func
func_of (If loc cond) = loc.func
func_of (Br loc label target) = loc.func
func_of (BrIf loc label target cond) = loc.func
func_of (BrTable loc index label target) = loc.func
func_of (Begin loc kind) = loc.func
func_of (End loc kind begin) = loc.func
func_of (Const loc v) = loc.func
func_of (Unary loc op a result) = loc.func
func_of (Binary loc op a b result) = loc.func
func_of (Drop loc v) = loc.func
func_of (Select loc first second cond) = loc.func
func_of (Local loc op index v) = loc.func
func_of (Global loc op index v) = loc.func
func_of (Load loc op offset address v) = loc.func
func_of (Store loc op offset address v) = loc.func
func_of (MemorySize loc pages) = loc.func
func_of (MemoryGrow loc by previous) = loc.func
func_of (CallPre loc func args) = loc.func
func_of (IndirectPre loc ty slot func args) = loc.func
func_of (CallPost loc results) = loc.func
func_of (Return loc results) = loc.func
func_of (Stray hook) = 0

-- whether a group is selected; an event without a group is not
abbrev pub has_group : (GroupName → Bool) → Option GroupName → Bool
has_group selected None = false
has_group selected (Some g) = selected g

-- whether an event is selected: its group is one of its function
abbrev pub chooses : Selection → Event → Bool
chooses s e = has_group (has (hooks_at s (func_of e))) (group_of e)
