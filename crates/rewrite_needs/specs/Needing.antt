-- Needed keys place by place: a branch needs the ends of the open blocks that no branch before it has left.
use Rattle.std.specs.Prelude.{ℕ, ◌+◌, ◌-◌, ℤ, nat_abs, List, [], ◌∷◌, ◌++◌, Option, None, Some, cond, fold, leb}
use Rattle.wasm_sem.specs.Types.{BlockKind, Instr, Hooks, HookKey}
use Rattle.wasm_num.specs.declared.BlockKind.TheVariants as kinds
use Rattle.module_ast.specs.Lists.{when}
use Rattle.module_ast.specs.Structure.{plain_of, Plain, br, br_if, return_}
use Rattle.branch_resolve.specs.declared.place.Place.{Place}
use Rattle.branch_resolve.specs.declared.place.Opcode.{Opcode}
use Rattle.branch_resolve.specs.declared.place.Opcode.TheVariants.{Enters, Acts, Opens, Alternates, Closes}
use Rattle.hook_select.specs.declared.GroupName.TheVariants as groups
use Rattle.hook_mono.specs.declared.HookKey.TheVariants as keys
use Rattle.hook_mono.specs.Keys.{is_wanted, with_key}
use Rattle.hook_mono.specs.Needed.{Site, plain_keys, open_keys, close_keys}
use Rattle.rewrite_needs.specs.declared.needs.OpenBlock.{OpenBlock}
use Rattle.rewrite_needs.specs.declared.needs.Needs.{Needs}
use Rattle.rewrite_needs.specs.declared.watching.Watch.{Watch}
use Rattle.rewrite_needs.specs.Watching.{watch, or_none}

-- the keys with one more, if its hook is called
abbrev pub with_wanted : Hooks → List HookKey → HookKey → List HookKey
with_wanted hooks table key = cond (is_wanted hooks key) (with_key table key) table

-- the keys with each of these, if its hook is called
abbrev pub with_each_wanted : Hooks → List HookKey → List HookKey → List HookKey
with_each_wanted hooks table more = fold (with_wanted hooks) table more

abbrev pub with_needed : Needs → List HookKey → Needs
with_needed n more = record n { table = with_each_wanted n.hooks n.table more }

-- ---- the keys of a place, without the ends that a branch passes

abbrev pub own_keys : Site → (p : ℕ) → Option Plain → List HookKey
own_keys s p o = or_none (plain_keys s [] p) o

abbrev pub instr_keys : Site → (p : ℕ) → Instr → List HookKey
instr_keys s p i = own_keys s p (plain_of i)

-- these keys, if the instruction has no row in Watching, so that it branches or calls
abbrev pub keys_unless : Option Watch → List HookKey → List HookKey
keys_unless None keys = keys
keys_unless (Some x) keys = []

abbrev pub branch_keys : Site → (p : ℕ) → Option Plain → List HookKey
branch_keys s p o = or_none (λ i. keys_unless (watch s p i) (plain_keys s [] p i)) o

abbrev pub told_keys : Site → (p : ℤ) → Opcode → List HookKey
told_keys s p Enters = when s.starts (keys.Plain groups.Start ∷ []) ++ keys.Begin kinds.Function ∷ []
told_keys s p (Acts i) = instr_keys s (nat_abs p) i.now
told_keys s p (Opens b) = open_keys b.kind
told_keys s p (Alternates a b then_live) = when then_live (keys.End a.kind ∷ []) ++ keys.Begin b.kind ∷ []
told_keys s p (Closes b) = close_keys s b.kind

-- ---- the blocks that a branch leaves

-- how many of the blocks around an instruction it does not leave
abbrev pub blocks_kept : (depth : ℕ) → Option Plain → ℕ
blocks_kept depth None = depth
blocks_kept depth (Some (br l)) = depth - (l + 1)
blocks_kept depth (Some (br_if l)) = depth - (l + 1)
blocks_kept depth (Some return_) = 0
blocks_kept depth (Some i) = depth

abbrev pub blocks_kept_by : (depth : ℕ) → Instr → ℕ
blocks_kept_by depth i = blocks_kept depth (plain_of i)

abbrev pub blocks_kept_at : (depth : ℕ) → Opcode → ℕ
blocks_kept_at depth (Acts i) = blocks_kept_by depth i.now
blocks_kept_at depth _ = depth

-- the innermost open block, and the open blocks around it, if at least `kept` blocks are around it
abbrev pub first_left : (kept : ℕ) → List OpenBlock → Option BlockKind
first_left kept [] = None
first_left kept (b ∷ bs) = cond (leb kept b.around) (Some b.kind) None

abbrev pub rest_left : (kept : ℕ) → List OpenBlock → List OpenBlock
rest_left kept [] = []
rest_left kept (b ∷ bs) = cond (leb kept b.around) bs (b ∷ bs)

-- the open blocks without the inner ones that have at least `kept` blocks around them
abbrev pub all_left : (kept : ℕ) → List OpenBlock → List OpenBlock
all_left kept [] = []
all_left kept (b ∷ bs) = cond (leb kept b.around) (all_left kept bs) (b ∷ bs)

-- the keys with those of the ends of these blocks
abbrev pub with_ends : Hooks → (kept : ℕ) → List OpenBlock → List HookKey → List HookKey
with_ends hooks kept [] table = table
with_ends hooks kept (b ∷ bs) table = cond (leb kept b.around) (with_ends hooks kept bs (with_wanted hooks table (keys.End b.kind))) table

-- a branch that stays in so many blocks leaves the others
abbrev pub after_branch : (kept : ℕ) → Needs → Needs
after_branch kept n = record n { table = with_ends n.hooks kept n.stack n.table; stack = all_left kept n.stack }

-- ---- one place

-- the block that an opcode opens
abbrev pub kind_opened : Opcode → Option BlockKind
kind_opened Enters = Some kinds.Function
kind_opened (Acts i) = None
kind_opened (Opens b) = Some b.kind
kind_opened (Alternates a b live) = Some b.kind
kind_opened (Closes b) = None

abbrev pub with_open_block : (depth : ℕ) → Option BlockKind → List OpenBlock → List OpenBlock
with_open_block depth None stack = stack
with_open_block depth (Some kind) stack = record { around = depth; kind = kind } ∷ stack

-- out of the block that ends at this depth
abbrev pub left_out_to : (depth : ℕ) → Needs → Needs
left_out_to depth n = record n { stack = rest_left depth n.stack }

-- what an opcode needs at a live place
abbrev pub after_live : Site → (depth : ℕ) → (p : ℤ) → Opcode → Needs → Needs
after_live s depth p opcode n = after_branch (blocks_kept_at depth opcode) (with_needed n (told_keys s p opcode))

abbrev pub after_opcode : Site → (depth : ℕ) → Place → Needs → Needs
after_opcode s depth x n = cond x.live (after_live s depth x.position x.opcode n) n

abbrev pub into_block : (depth : ℕ) → Opcode → Needs → Needs
into_block depth opcode n = record n { stack = with_open_block depth (kind_opened opcode) n.stack }

-- after a place with so many blocks around it
abbrev pub after_place : Site → (depth : ℕ) → Place → Needs → Needs
after_place s depth x n = into_block depth x.opcode (after_opcode s depth x (left_out_to depth n))
