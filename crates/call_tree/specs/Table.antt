-- A tree of places: paths of calls in the order in which they first came.
use Rattle.std.specs.Prelude.{◌≡◌, ℕ, zero, suc, ◌+◌, ◌<◌, ◌≤◌, List, [], ◌∷◌, ◌++◌, length, map, Option, Some, slice_index, slice_index_or, Bool, ◌==◌, ◌&&◌}
use Rattle.std.specs.Ordering.{nat_cmp}
use Rattle.std.specs.List.Sorted.{IsStrictlySortedBy}
use Rattle.std.specs.Map.{lookup, keys_of, values_of}
use Rattle.std.specs.BTreeMap.{is_at}
use Rattle.call_tree.specs.declared.table.Place.{Place}

-- the path of a place: the place of the path without its last function, and that function
pub record Link : Type 0 where
  pub from : ℕ
  pub func : ℕ

abbrev pub link : (from func : ℕ) → Link
link from func = record { from = from; func = func }

abbrev pub is_link : Link → Link → Bool
is_link a b = (a.from == b.from) && (a.func == b.func)

-- ---- what places have; that of place i + 1 is at i

abbrev pub links_of : List Place → List Link
links_of places = map (λ (p : Place). link p.from p.func) places

abbrev pub depths_of : List Place → List ℕ
depths_of places = map (λ (p : Place). p.depth) places

abbrev pub counts_at : List Place → List ℕ
counts_at places = map (λ (p : Place). p.count) places

abbrev pub link_at : List Link → ℕ → Link
link_at links i = slice_index_or links i (link 0 0)

-- the paths that are one function longer than that of a place: the functions, each with its place; none if there is no
-- such place
abbrev pub nexts : (roots : List (ℕ × ℕ)) → List (List (ℕ × ℕ)) → (place : ℕ) → List (ℕ × ℕ)
nexts roots behind zero = roots
nexts roots behind (suc i) = slice_index_or behind i []

abbrev pub nexts_of : (roots : List (ℕ × ℕ)) → List Place → (place : ℕ) → List (ℕ × ℕ)
nexts_of roots places = nexts roots (map (λ (p : Place). p.next.entries) places)

-- the places that are reached from a place, by rising function
abbrev pub kids : (next : ℕ → List (ℕ × ℕ)) → (place : ℕ) → List ℕ
kids next place = values_of (next place)

-- the place that a link leads to
abbrev pub place_by : (next : ℕ → List (ℕ × ℕ)) → Link → Option ℕ
place_by next l = lookup (is_at (nat_cmp l.func)) (next l.from)

-- how many functions are before the last one in a path that is one function longer than that of a place
abbrev pub depth_from : (depths : List ℕ) → (place : ℕ) → ℕ
depth_from depths zero = 0
depth_from depths (suc i) = slice_index depths i + 1

-- ---- paths

-- the path at a place: the empty path at 0, and behind it those of the list
abbrev pub listed : List (List ℕ) → (place : ℕ) → List ℕ
listed paths zero = []
listed paths (suc i) = slice_index_or paths i []

-- the paths of places; each is one function longer than the path of an earlier place
abbrev pub grown : List (List ℕ) → List Link → List (List ℕ)
grown paths [] = paths
grown paths (l ∷ ls) = grown (paths ++ (listed paths l.from ++ l.func ∷ []) ∷ []) ls

-- the paths of the places from 1 on
abbrev pub paths_of : List Link → List (List ℕ)
paths_of links = grown [] links

-- paths with their counts
abbrev pub tallied : List (List ℕ) → List ℕ → List (List ℕ × ℕ)
tallied (p ∷ ps) (n ∷ ns) = (p, n) ∷ tallied ps ns
tallied ps ns = []

-- ---- what is true of a table

-- a link leads to this place
abbrev pub IsChildBy : List Link → Link → (place : ℕ) → Type 0
IsChildBy links l place = (i : ℕ) × (place ≡ suc i) × (i < length links) × (link_at links i ≡ l)

-- the path of each place is one function longer than that of an earlier place, where the function leads to the place
pub record IsNodeTable (links : List Link) (depths : List ℕ) (next : ℕ → List (ℕ × ℕ)) : Type 0 where
  pub sized : length depths ≡ length links
  pub back : (i : ℕ) → i < length links → (link_at links i).from ≤ i
  pub deep : (i : ℕ) → i < length links → slice_index depths i ≤ i
  pub depth : (i : ℕ) → i < length links → slice_index depths i ≡ length (listed (paths_of links) (link_at links i).from)
  pub led : (l : Link) (place : ℕ) → place_by next l ≡ Some place → IsChildBy links l place
  pub found : (i : ℕ) → i < length links → place_by next (link_at links i) ≡ Some (suc i)
  pub ordered : (place : ℕ) → IsStrictlySortedBy nat_cmp (keys_of (next place))
