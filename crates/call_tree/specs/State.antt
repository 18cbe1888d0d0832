-- The state of a tree of calls: the begins that are open, how often each path came, and how many events there were.
use Rattle.std.specs.Prelude.{◌≡◌, ℕ, suc, ◌+◌, ◌≤◌, ℤ, List, [], ◌∷◌, ◌++◌, length, map, reverse, count_by, fold, refl, Option, Some, None, option_map, option_and_then, unwrap_or}
use Rattle.std.specs.Coded.{Coded, code_by, coded×, coded_ℕ, coded_ℤ, coded_list}
use Rattle.std.specs.Ordering.{nat_cmp, eq_by_cmp}
use Rattle.std.specs.Cmp.Lexicographic.{slice_cmp}
use Rattle.std.specs.FinMap.{empty, from_entries}
use Rattle.std.specs.FinMap as finite
use Rattle.wasm_sem.specs.Types.{BlockKind, Loc, Event}
use Rattle.wasm_num.specs.declared.BlockKind.TheVariants as kinds
use Rattle.hook_select.specs.declared.Event.TheVariants as events
use Rattle.wasm_num.specs.Kinds.{kind_number, kind_of_number}
use Rattle.wasm_sem.specs.Execution.{TraceItem, entry, host_call, event, hook_call}
use Rattle.wasm_sem.specs.Nests.{Bracket, bracket}
use Rattle.call_tree.specs.declared.tree.Open.{Open}
use Rattle.call_tree.specs.declared.tree.TreeFault.{TreeFault}
use Rattle.call_tree.specs.declared.tree.TreeFault.TheVariants as faults
use Rattle.call_tree.specs.Counts.{PathCounts, with_path, path_at, CountsPathsUpTo}
use Rattle.call_tree.specs.Paths.{closed_by, open_after, open_after_all, path_to, path_begun, paths, HasBadEnd}

pub record TreeState : Type 0 where
  pub brackets : List Bracket
  pub counts : PathCounts
  pub taken : ℕ

-- ---- how states are stored

abbrev pub kind_with : ℕ → BlockKind
kind_with number = unwrap_or (kind_of_number number) kinds.Function

pub kind_again : (k : BlockKind) → kind_with (kind_number k) ≡ k
kind_again kinds.Function = refl
kind_again kinds.Block = refl
kind_again kinds.Loop = refl
kind_again kinds.If = refl
kind_again kinds.Else = refl

abbrev pub kind_code : Coded BlockKind
kind_code = code_by ℕ coded_ℕ kind_number kind_with kind_again

abbrev pub bracket_code : Coded Bracket
bracket_code =
    code_by (ℕ × (BlockKind × ℤ)) (coded× coded_ℕ (coded× kind_code coded_ℤ)) (λ b. (b.func, (b.kind, b.begin))) (λ p. bracket p.0 p.1.0 p.1.1) (λ _. refl)

abbrev pub state_code : Coded TreeState
state_code =
    code_by (List Bracket × (PathCounts × ℕ)) (coded× (coded_list bracket_code) (coded× (finite.code {R = slice_cmp nat_cmp} (coded_list coded_ℕ) coded_ℕ) coded_ℕ))
    (λ s. (s.brackets, (s.counts, s.taken))) (λ p. record { brackets = p.0; counts = p.1.0; taken = p.1.1 }) (λ _. refl)

-- ---- one item more

-- the state before the first item
abbrev pub fresh_tree : TreeState
fresh_tree = record { brackets = []; counts = empty; taken = 0 }

-- an entry closes all begins
abbrev pub entered : TreeState → TreeState
entered s = record s { brackets = [] }

abbrev pub counted_from : PathCounts → List (List ℕ) → PathCounts
counted_from counts ps = fold with_path counts ps

abbrev pub taken_by : TreeState → Event → List Bracket → TreeState
taken_by s e brackets = record { brackets = brackets; counts = counted_from s.counts (path_begun s.brackets (event e)); taken = s.taken + 1 }

-- the state after an event; `None` if the event is an end that does not close the latest begin
abbrev pub tree_after : TreeState → Event → Option TreeState
tree_after s e = option_map (taken_by s e) (open_after s.brackets (event e))

-- only such an end is refused, with its location; and only at a begin memory may run out
abbrev pub IsTreeRefusal : TreeState → Event → TreeFault → Type 0
IsTreeRefusal s (events.End p kind begin) (faults.NotNested loc) = (closed_by (bracket p.func kind begin) s.brackets ≡ None) × (loc ≡ p)
IsTreeRefusal s (events.Begin p kind) faults.NoMemory = Unit {0}
IsTreeRefusal s e fault = ⊥

-- ---- of a list of items

-- how often each path is in the list
abbrev pub path_counts_in : List (List ℕ) → PathCounts
path_counts_in ps = from_entries (map (λ p. (p, count_by (eq_by_cmp (slice_cmp nat_cmp) p) ps)) ps)

abbrev pub event_count : List TraceItem → ℕ
event_count [] = 0
event_count (event e ∷ is) = suc (event_count is)
event_count (entry c ∷ is) = event_count is
event_count (host_call f vs rs ws ∷ is) = event_count is
event_count (hook_call h ∷ is) = event_count is

abbrev pub state_with : List TraceItem → List Bracket → TreeState
state_with is brackets = record { brackets = brackets; counts = path_counts_in (paths is); taken = event_count is }

-- the state of a list of items; `None` if the list is bad
abbrev pub state_of : List TraceItem → Option TreeState
state_of is = option_map (state_with is) (open_after_all (Some []) is)

-- a call of the host or of a hook changes nothing
abbrev pub state_behind : TraceItem → TreeState → Option TreeState
state_behind (entry c) s = Some (entered s)
state_behind (event e) s = tree_after s e
state_behind (host_call f vs rs ws) s = Some s
state_behind (hook_call h) s = Some s

-- the state after items, taken one by one
abbrev pub tree_behind : List TraceItem → TreeState → Option TreeState
tree_behind [] s = Some s
tree_behind (i ∷ is) s = option_and_then (tree_behind is) (state_behind i s)

-- items, taken one by one, bring a tree to the state of their list; if one is refused the list is bad, and stays bad
pub record TakesMakeTree : Type 0 where
  pub fresh : state_of [] ≡ Some fresh_tree
  pub behind : (is : List TraceItem) (i : TraceItem) → state_of (is ++ i ∷ []) ≡ option_and_then (state_behind i) (state_of is)
  pub bad : (is js : List TraceItem) → state_of is ≡ None → HasBadEnd (is ++ js)

-- ---- how a tree keeps the state

abbrev pub bracket_of : Open → Bracket
bracket_of o = bracket o.func o.kind o.begin

-- the brackets of open begins, the latest first
abbrev pub brackets_of : List Open → List Bracket
brackets_of opens = map bracket_of (reverse opens)

-- the functions that are open are at this place
abbrev pub IsNodePlace : List (List ℕ × ℕ) → List Bracket → (place : ℕ) → Type 0
IsNodePlace es brackets place = (place ≤ length es) × (path_at es place ≡ path_to brackets [])

pub record IsTree (es : List (List ℕ × ℕ)) (brackets : List Bracket) (place taken : ℕ) : Type 0 where
  pub there : IsNodePlace es brackets place
  pub bound : CountsPathsUpTo taken es

-- the path that a begin counts
abbrev pub begun : List Bracket → Loc → BlockKind → List (List ℕ)
begun brackets loc kind = path_begun brackets (event (events.Begin loc kind))
