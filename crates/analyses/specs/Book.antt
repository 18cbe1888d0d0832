-- What events are counted under in each kind of book, and the book of a list of events.
use Rattle.std.specs.Prelude.{◌≡◌, ℕ, zero, suc, ◌+◌, ◌≤◌, ◌⊎◌, min, max, ℤ, negsuc, List, [], ◌∷◌, length, map, filter, filter_map, fold, Bool, false, Option, Some, None, All}
use Rattle.std.specs.Ordering.{nat_cmp, int_cmp, is_eq, ordering_then, match_ordering}
use Rattle.std.specs.declared.cmp.Ordering.{Ordering}
use Rattle.module_ast.specs.declared.module.Loc.{Loc}
use Rattle.module_ast.specs.declared.ops.LoadOp.{LoadOp}
use Rattle.module_ast.specs.declared.ops.StoreOp.{StoreOp}
use Rattle.module_ast.specs.Binary.{load_opcode, store_opcode}
use Rattle.hook_select.specs.declared.Event.{Event}
use Rattle.hook_select.specs.declared.Event.TheVariants.{If, Br, BrIf, BrTable, Begin, Load, Store, CallPre, IndirectPre}
use Rattle.wasm_num.specs.Kinds.{kind_number}
use Rattle.analyses.specs.declared.Kind.{Kind}
use Rattle.analyses.specs.declared.Kind.TheVariants.{Blocks, Branches, Calls, Memory}
use Rattle.analyses.specs.declared.Row.{Row}

-- what an event is counted under
pub record Key : Type 0 where
  pub func : ℕ
  pub instr : ℤ
  pub tag : ℕ
  pub other : ℕ

abbrev pub key_at : Loc → (tag other : ℕ) → Key
key_at loc tag other = record { func = loc.func; instr = loc.instr; tag = tag; other = other }

-- 1 if the condition is not zero, and 0 if it is
abbrev pub taken_number : ℕ → ℕ
taken_number zero = 0
taken_number (suc n) = 1

-- one more than the called function, or 0 if there is none
abbrev pub callee_number : Option ℕ → ℕ
callee_number None = 0
callee_number (Some f) = f + 1

abbrev pub call_key : Loc → Option ℕ → Key
call_key loc callee = record { func = loc.func; instr = negsuc 0; tag = 0; other = callee_number callee }

abbrev pub block_key : Event → Option Key
block_key (Begin loc kind) = Some (key_at loc (kind_number kind) 0)
block_key _ = None

abbrev pub branch_key : Event → Option Key
branch_key (If loc cond) = Some (key_at loc 0 (taken_number cond))
branch_key (Br loc label target) = Some (key_at loc 1 label)
branch_key (BrIf loc label target cond) = Some (key_at loc 2 (taken_number cond))
branch_key (BrTable loc index label target) = Some (key_at loc 3 label)
branch_key _ = None

abbrev pub call_graph_key : Event → Option Key
call_graph_key (CallPre loc callee args) = Some (call_key loc (Some callee))
call_graph_key (IndirectPre loc ty slot callee args) = Some (call_key loc callee)
call_graph_key _ = None

abbrev pub memory_key : Event → Option Key
memory_key (Load loc op offset address value) = Some (key_at loc (load_opcode op) 0)
memory_key (Store loc op offset address value) = Some (key_at loc (store_opcode op) 0)
memory_key _ = None

-- the key of an event in a book of this kind; `None` if the event is not counted
abbrev pub counted_key : Kind → Event → Option Key
counted_key Blocks e = block_key e
counted_key Branches e = branch_key e
counted_key Calls e = call_graph_key e
counted_key Memory e = memory_key e

-- the effective address of a load or a store; 0 for other events
abbrev pub address_of : Event → ℕ
address_of (Load loc op offset address value) = address + offset
address_of (Store loc op offset address value) = address + offset
address_of _ = 0

-- Keys in order.
abbrev pub key_cmp : Key → Key → Ordering
key_cmp a b = ordering_then (nat_cmp a.func b.func) (ordering_then (int_cmp a.instr b.instr) (ordering_then (nat_cmp a.tag b.tag) (nat_cmp a.other b.other)))

abbrev pub key_in_order : Key → List Key → List Key
key_in_order k [] = k ∷ []
key_in_order k (j ∷ js) = match_ordering (key_cmp k j) (k ∷ j ∷ js) (j ∷ js) (j ∷ key_in_order k js)

-- each key once, in order
abbrev pub sorted_keys : List Key → List Key
sorted_keys [] = []
sorted_keys (k ∷ ks) = key_in_order k (sorted_keys ks)

-- The book.
abbrev pub has_key : Key → Option Key → Bool
has_key k None = false
has_key k (Some j) = is_eq (key_cmp k j)

-- the events with this key
abbrev pub events_with : Kind → Key → List Event → List Event
events_with kind k es = filter (λ e. has_key k (counted_key kind e)) es

abbrev pub least_of : List ℕ → ℕ
least_of [] = 0
least_of (n ∷ ns) = fold min n ns

abbrev pub greatest_of : List ℕ → ℕ
greatest_of ns = fold max 0 ns

-- the effective addresses of events, if the kind has them
abbrev pub addresses : Kind → List Event → List ℕ
addresses Memory es = map address_of es
addresses Blocks es = []
addresses Branches es = []
addresses Calls es = []

abbrev pub row_of : Key → (addresses : List ℕ) → (count : ℕ) → Row
row_of k addresses count = record {
  func = k.func;
  instr = k.instr;
  tag = k.tag;
  other = k.other;
  count = count;
  least = least_of addresses;
  greatest = greatest_of addresses;
}

abbrev pub row_in : Kind → List Event → Key → Row
row_in kind es k = let found = events_with kind k es in row_of k (addresses kind found) (length found)

-- one row for each key that occurs
abbrev pub book : Kind → List Event → List Row
book kind es = map (row_in kind es) (sorted_keys (filter_map (counted_key kind) es))

-- The book as an analysis makes it, event by event.
abbrev pub key_of_row : Row → Key
key_of_row r = record { func = r.func; instr = r.instr; tag = r.tag; other = r.other }

abbrev pub counted_row : Kind → ℕ → Row → Row
counted_row Memory a r = record r { count = r.count + 1; least = min r.least a; greatest = max r.greatest a }
counted_row Blocks a r = record r { count = r.count + 1 }
counted_row Branches a r = record r { count = r.count + 1 }
counted_row Calls a r = record r { count = r.count + 1 }

abbrev pub first_row : Kind → Key → ℕ → Row
first_row Memory k a = row_of k (a ∷ []) 1
first_row Blocks k a = row_of k [] 1
first_row Branches k a = row_of k [] 1
first_row Calls k a = row_of k [] 1

abbrev pub with_event : Kind → Key → (address : ℕ) → List Row → List Row
with_event kind k a [] = first_row kind k a ∷ []
with_event kind k a (r ∷ rs) =
    match_ordering (key_cmp k (key_of_row r)) (first_row kind k a ∷ r ∷ rs) (counted_row kind a r ∷ rs) (r ∷ with_event kind k a rs)

abbrev pub with_counted : Kind → ℕ → List Row → Option Key → List Row
with_counted kind a rs None = rs
with_counted kind a rs (Some k) = with_event kind k a rs

abbrev pub rows_after : Kind → List Row → Event → List Row
rows_after kind rs e = with_counted kind (address_of e) rs (counted_key kind e)

-- taking event after event makes the book
abbrev pub TakesMakeBook : Type 0
TakesMakeBook = (kind : Kind) (es : List Event) → fold (rows_after kind) [] es ≡ book kind es

-- the tags that rows of a kind have: the kind of a block, which instruction branches, always 0, the opcode of a load or a store
abbrev pub IsTagOf : Kind → (tag : ℕ) → Type 0
IsTagOf Blocks tag = tag ≤ 4
IsTagOf Branches tag = tag ≤ 3
IsTagOf Calls tag = tag ≡ 0
IsTagOf Memory tag = ((op : LoadOp) × (tag ≡ load_opcode op)) ⊎ ((op : StoreOp) × (tag ≡ store_opcode op))

abbrev pub HaveTags : Kind → List Row → Type 0
HaveTags kind rows = All (λ (r : Row). IsTagOf kind r.tag) rows

-- the rows of a book have the tags of its kind
abbrev pub BooksHaveTags : Type 0
BooksHaveTags = (kind : Kind) (es : List Event) → HaveTags kind (book kind es)
