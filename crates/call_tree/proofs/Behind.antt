-- A tree that takes items, one list after another.
use Rattle.std.proofs.Common.{◌≡◌, ◌+◌, List, [], ◌∷◌, ◌++◌, length, Option, Some, None, option_map, option_and_then, refl, sym, ap, ◌∙◌, arith, append_assoc, append-nil, length-append}
use Rattle.std.proofs.lemmas.Option.{none-some, same_Some}
use Rattle.wasm_sem.specs.Types.{Loc, Event}
use Rattle.wasm_sem.specs.Execution.{TraceItem, entry, host_call, event, hook_call, events_in}
use Rattle.wasm_sem.specs.Nests.{Bracket}
use Rattle.wasm_sem.proofs.Chosen.{events_append}
use Rattle.call_tree.specs.declared.tree.TreeFault.{TreeFault}
use Rattle.call_tree.specs.declared.tree.TreeFault.TheVariants.{NotNested, NoMemory}
use Rattle.call_tree.specs.Paths.{open_after, open_after_all}
use Rattle.call_tree.specs.State.{TreeState, IsTreeRefusal, entered, fresh_tree, taken_by, state_with, state_of, state_behind, tree_behind}
use Rattle.call_tree.specs.Unnested.{unnested_from, first_unnested}
use Rattle.call_tree.proofs.Following.{following}
use Rattle.call_tree.proofs.Unnested.{nested_all, refused_place, unnested_by}

-- ---- the events of items

pub events_more : (xs ys : List TraceItem) → length (events_in (xs ++ ys)) ≡ length (events_in xs) + length (events_in ys)
events_more xs ys = ap length (events_append xs ys) ∙ length-append (events_in xs) (events_in ys)

-- ---- one list behind another

then_behind : (xs ys : List TraceItem) (s : TreeState) → tree_behind (xs ++ ys) s ≡ option_and_then (tree_behind ys) (tree_behind xs s)
then_behind [] ys s = refl
then_behind (i ∷ is) ys s = go (state_behind i s) (then_behind is ys)
  where
    go : (o : Option TreeState) → ((m : TreeState) → tree_behind (is ++ ys) m ≡ option_and_then (tree_behind ys) (tree_behind is m))
        → option_and_then (tree_behind (is ++ ys)) o ≡ option_and_then (tree_behind ys) (option_and_then (tree_behind is) o)
    go None later = refl
    go (Some m) later = later m

pub both_behind : (xs ys : List TraceItem) (a b c : TreeState) → tree_behind xs a ≡ Some b → tree_behind ys b ≡ Some c → tree_behind (xs ++ ys) a ≡ Some c
both_behind xs ys a b c first second = then_behind xs ys a ∙ ap (option_and_then (tree_behind ys)) first ∙ second

-- ---- how many events were taken

taken_number : (s t : TreeState) (e : Event) (o : Option (List Bracket)) → option_map (taken_by s e) o ≡ Some t → t.taken ≡ s.taken + 1
taken_number s t e None h = cc
taken_number s t e (Some bs) h = sym (ap (λ (x : TreeState). x.taken) (same_Some (taken_by s e bs) t h))

item_number : (i : TraceItem) (s t : TreeState) → state_behind i s ≡ Some t → t.taken ≡ s.taken + length (events_in (i ∷ []))
item_number (event e) s t h = taken_number s t e (open_after s.brackets (event e)) h
item_number (entry c) s t h = omega (arith, ap (λ (x : TreeState). x.taken) (same_Some (entered s) t h))
item_number (host_call f vs rs ws) s t h = omega (arith, ap (λ (x : TreeState). x.taken) (same_Some s t h))
item_number (hook_call k) s t h = omega (arith, ap (λ (x : TreeState). x.taken) (same_Some s t h))

pub number_behind : (is : List TraceItem) (s t : TreeState) → tree_behind is s ≡ Some t → t.taken ≡ s.taken + length (events_in is)
number_behind [] s t e = omega (arith, ap (λ (x : TreeState). x.taken) (same_Some s t e))
number_behind (i ∷ is) s t e = go (state_behind i s) refl (λ m h. number_behind is m t h) e
  where
    go : (o : Option TreeState) → state_behind i s ≡ o → ((m : TreeState) → tree_behind is m ≡ Some t → t.taken ≡ m.taken + length (events_in is))
        → option_and_then (tree_behind is) o ≡ Some t → t.taken ≡ s.taken + length (events_in (i ∷ is))
    go None k later h = absurd (none-some t h)
    go (Some m) k later h = omega (arith, item_number i s m k, later m h, events_more (i ∷ []) is)

-- ---- an end that is not nested

open_by : (s t : TreeState) (e : Event) (o : Option (List Bracket)) → option_map (taken_by s e) o ≡ Some t → o ≡ Some t.brackets
open_by s t e None h = cc
open_by s t e (Some bs) h = ap (λ (x : TreeState). Some x.brackets) (same_Some (taken_by s e bs) t h)

open_behind : (i : TraceItem) (s t : TreeState) → state_behind i s ≡ Some t → open_after s.brackets i ≡ Some t.brackets
open_behind (event e) s t h = open_by s t e (open_after s.brackets (event e)) h
open_behind (entry c) s t h = ap (λ (x : TreeState). Some x.brackets) (same_Some (entered s) t h)
open_behind (host_call f vs rs ws) s t h = ap (λ (x : TreeState). Some x.brackets) (same_Some s t h)
open_behind (hook_call k) s t h = ap (λ (x : TreeState). Some x.brackets) (same_Some s t h)

pub unnested_late : (xs ys : List TraceItem) (s t : TreeState) (p : Loc) → tree_behind xs s ≡ Some t → unnested_from t.brackets ys ≡ Some p → unnested_from s.brackets (xs ++ ys) ≡ Some p
unnested_late [] ys s t p e u = ap (λ (x : TreeState). unnested_from x.brackets ys) (same_Some s t e) ∙ u
unnested_late (i ∷ is) ys s t p e u = go (state_behind i s) refl (λ m h. unnested_late is ys m t p h u) e
  where
    go : (o : Option TreeState) → state_behind i s ≡ o → ((m : TreeState) → tree_behind is m ≡ Some t → unnested_from m.brackets (is ++ ys) ≡ Some p)
        → option_and_then (tree_behind is) o ≡ Some t → unnested_from s.brackets (i ∷ (is ++ ys)) ≡ Some p
    go None k later h = absurd (none-some t h)
    go (Some m) k later h = ap (unnested_by i (is ++ ys)) (open_behind i s m k) ∙ later m h

-- the fault at such an end
pub refused_here : (s : TreeState) (e : Event) (fault : TreeFault) (p : Loc) → IsTreeRefusal s e fault → fault ≡ NotNested p
    → unnested_from s.brackets (event e ∷ []) ≡ Some p
refused_here s e fault p refusal is =
    let placed = refused_place s e fault p refusal is in
    ap (unnested_by (event e) []) placed.0 ∙ placed.1

pub none_both : (f : TreeFault) (p : Loc) → f ≡ NoMemory → f ≡ NotNested p → ⊥
none_both f p want e = cc

-- ---- what a fresh tree becomes

-- is the state of the items
behind : (before is : List TraceItem) (s t : TreeState) → state_of before ≡ Some s → tree_behind is s ≡ Some t → state_of (before ++ is) ≡ Some t
behind before [] s t e k = ap state_of (append-nil before) ∙ e ∙ k
behind before (i ∷ is) s t e k = go (state_behind i s) refl (λ m n h. behind (before ++ i ∷ []) is m t n h) k
  where
    go : (o : Option TreeState) → state_behind i s ≡ o
        → ((m : TreeState) → state_of (before ++ i ∷ []) ≡ Some m → tree_behind is m ≡ Some t → state_of ((before ++ i ∷ []) ++ is) ≡ Some t)
        → option_and_then (tree_behind is) o ≡ Some t → state_of (before ++ i ∷ is) ≡ Some t
    go None n later h = absurd (none-some t h)
    go (Some m) n later h =
        let next : state_of (before ++ i ∷ []) ≡ Some m = following.behind before i ∙ ap (option_and_then (state_behind i)) e ∙ n in
        ap state_of (sym (append_assoc before (i ∷ []) is)) ∙ later m next h

pub grown_is : (is : List TraceItem) (t : TreeState) → tree_behind is fresh_tree ≡ Some t → state_of is ≡ Some t
grown_is is t grows = behind [] is fresh_tree t following.fresh grows

-- and all is nested
open_of : (is : List TraceItem) (o : Option (List Bracket)) (t : TreeState) → option_map (state_with is) o ≡ Some t → o ≡ Some t.brackets
open_of is None t e = cc
open_of is (Some bs) t e = ap Some (ap (λ (s : TreeState). s.brackets) (same_Some (state_with is bs) t e))

pub state_nested : (is : List TraceItem) (t : TreeState) → state_of is ≡ Some t → first_unnested is ≡ None
state_nested is t e = nested_all is t.brackets (open_of is (open_after_all (Some []) is) t e)
