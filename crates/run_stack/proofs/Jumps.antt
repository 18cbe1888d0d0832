-- Branches, on what the machine keeps.
use Rattle.std.proofs.Common.{◌≡◌, ◌≢◌, ℕ, zero, suc, ◌+◌, ◌-◌, ◌<◌, ◌≤◌, List, [], ◌∷◌, ◌++◌, length, take, drop, Option, Some, None, refl, sym, ap, subst, ◌∙◌, arith, append_assoc, length-append}
use Rattle.std.specs.Prelude.{reverse, slice_get}
use Rattle.std.proofs.lemmas.List.{length-reverse, drop_at, take-append-le, drop-drop}
use Rattle.std.proofs.lemmas.Option.{same_Some}
use Rattle.wasm_sem.specs.Types.{Value}
use Rattle.module_ast.specs.Validation.{push}
use Rattle.wasm_sem.specs.Execution.{Instance, Cont, behind, again, Label, Frame, Env, pop_values, branch_with, branch, resumed_label, return_to}
use Rattle.run_stack.specs.Flat.{Spot, Flat, kept, resumed, landed, returned, first_base, other_bases, CanBranch, BranchesOut}
use Rattle.run_stack.specs.Kept.{ops_of, again_in, spot_in, spots_of, all_values, under, low_of, all_spots, frame_base, all_bases, Lies}
use Rattle.run_stack.specs.Comes.{IsUnstuck, LiesNext}
use Rattle.run_stack.proofs.Popped.{popped_top}

abbrev Popped : Type 0
Popped = Option (List Value × List Value)

-- ---- parts of lists

pub drop_suffix : {A : Type 0} (xs ys zs : List A) (n : ℕ) → zs ≡ xs ++ ys → n ≡ length ys → drop (length zs - n) zs ≡ ys
drop_suffix xs ys zs n e h =
    let count : length zs - n ≡ length xs = omega (arith, ap length e, length-append xs ys, h) in
    ap (λ k. drop k zs) count ∙ ap (drop (length xs)) e ∙ drop_at xs ys (length xs) refl

get_seam : {A : Type 0} (xs ys : List A) (y : A) → slice_get (xs ++ y ∷ ys) (length xs) ≡ Some y
get_seam [] ys y = refl
get_seam (x ∷ xs) ys y = get_seam xs ys y

drop_seam : {A : Type 0} (xs ys : List A) (y : A) → drop (length xs + 1) (xs ++ y ∷ ys) ≡ ys
drop_seam xs ys y = sym (drop-drop 1 (length xs) (xs ++ y ∷ ys)) ∙ ap (drop 1) (drop_at xs (y ∷ ys) (length xs) refl)

-- ---- a branch from the operands `o` of the innermost label

module _ (s : Flat) (inst : Instance) (e : Env) (fr : Frame) (below : List Frame) (o : List Value) where
  abbrev low : List Value
  low = reverse fr.locals ++ all_values below

  low_is : low_of fr below ≡ length low
  low_is = omega (arith, length-append (reverse fr.locals) (all_values below), length-reverse fr.locals)

  -- the label `t`, behind others that stand inside it
  pub record IsAtLabel (inside : List Value) (passed : List Spot) (t : Label) (outer : List Label) : Type 0 where
    pub values : s.values ≡ o ++ (inside ++ (ops_of outer ++ low))
    pub spots : s.spots ≡ passed ++ (spots_of (low_of fr below) (t ∷ outer) ++ all_spots below)
    pub bases : s.bases ≡ frame_base below ∷ all_bases below

  module _ (inside : List Value) (passed : List Spot) (t : Label) (outer : List Label) (at : IsAtLabel inside passed t outer) where
    abbrev others : List Spot
    others = spots_of (low_of fr below) outer ++ all_spots below

    spot_is : slice_get s.spots (length passed) ≡ Some (spot_in (low_of fr below) t outer)
    spot_is = ap (λ ss. slice_get ss (length passed)) at.spots ∙ get_seam passed others (spot_in (low_of fr below) t outer)

    behind_is : drop (length passed + 1) s.spots ≡ others
    behind_is = ap (drop (length passed + 1)) at.spots ∙ drop_seam passed others (spot_in (low_of fr below) t outer)

    count_spots : length s.spots ≡ length passed + 1 + (length (spots_of (low_of fr below) outer) + length (all_spots below))
    count_spots = ap length at.spots ∙ length-append passed (spot_in (low_of fr below) t outer ∷ others) ∙ omega (arith, length-append (spots_of (low_of fr below) outer) (all_spots below))

    count_values : length s.values ≡ length o + (length inside + (length (ops_of outer) + length low))
    count_values = ap length at.values ∙ omega (arith, length-append o (inside ++ (ops_of outer ++ low)), length-append inside (ops_of outer ++ low), length-append (ops_of outer) low)

    own_labels : (first_base s.bases).labels ≡ length (all_spots below)
    own_labels = ap (λ bs. (first_base bs).labels) at.bases

    own_values : (first_base s.bases).values ≡ length (all_values below)
    own_values = ap (λ bs. (first_base bs).values) at.bases

    -- what stands on top, above the lowest values
    kept_is : (n height : ℕ) (xs ys : List Value) → n ≤ length o → inside ++ (ops_of outer ++ low) ≡ xs ++ ys → height ≡ length ys → kept n height s.values ≡ take n o ++ ys
    kept_is n height xs ys h e g =
        ap (λ vs. take n vs ++ drop (length s.values - height) s.values) at.values
        ∙ ap (λ vs. vs ++ drop (length s.values - height) s.values) (take-append-le n o (inside ++ (ops_of outer ++ low)) h)
        ∙ ap (λ vs. take n o ++ vs) (drop_suffix (o ++ xs) ys s.values height (at.values ∙ ap (λ vs. o ++ vs) e ∙ sym (append_assoc o xs ys)) g)

    -- it can be made
    pub can_land : t.arity ≤ length o → CanBranch (length passed) s
    can_land h = record {
      spot = spot_in (low_of fr below) t outer;
      at = spot_is;
      some = subst (λ bs. 0 < length bs) (sym at.bases) (omega arith);
      own = omega (arith, own_labels, count_spots);
      above = omega (arith, count_values, h, low_is);
      above_locals = omega (arith, count_values, h, own_values, length-append (reverse fr.locals) (all_values below));
    }

  -- ---- behind the label, or the loop again

  module _ (inside : List Value) (passed : List Spot) (t l : Label) (ls : List Label) (at : IsAtLabel inside passed t (l ∷ ls)) (taken : List Value) (enough : t.arity ≤ length o) (pushed : (xs : List Value) → push taken xs ≡ take t.arity o ++ xs) where
    -- the spot behind the target
    resumed_is : (cont : Cont) → resumed (again_in cont (l ∷ ls)) (spots_of (low_of fr below) (l ∷ ls) ++ all_spots below) ≡ spots_of (low_of fr below) (resumed_label cont t.scope taken l ∷ ls) ++ all_spots below
    resumed_is behind = refl
    resumed_is (again ty body) = refl

    ops_are : (cont : Cont) → (resumed_label cont t.scope taken l).ops ≡ push taken l.ops
    ops_are behind = refl
    ops_are (again ty body) = refl

    landed_values : kept t.arity (length (ops_of (l ∷ ls)) + low_of fr below) s.values ≡ (resumed_label t.cont t.scope taken l).ops ++ (ops_of ls ++ low)
    landed_values =
        kept_is inside passed t (l ∷ ls) at t.arity (length (ops_of (l ∷ ls)) + low_of fr below) inside (ops_of (l ∷ ls) ++ low) enough refl
        (sym (length-append (ops_of (l ∷ ls)) low ∙ ap (λ n. length (ops_of (l ∷ ls)) + n) (sym low_is)))
        ∙ ap (λ xs. take t.arity o ++ xs) (append_assoc l.ops (ops_of ls) low)
        ∙ sym (append_assoc (take t.arity o) l.ops (ops_of ls ++ low))
        ∙ ap (λ xs. xs ++ (ops_of ls ++ low)) (sym (pushed l.ops) ∙ sym (ops_are t.cont))

    lies_landed : Lies (landed (spot_in (low_of fr below) t (l ∷ ls)) (drop (length passed + 1) s.spots) s) (record fr { top = resumed_label t.cont t.scope taken l; outer = ls } ∷ below)
    lies_landed = record {
      values = landed_values;
      spots = ap (resumed (again_in t.cont (l ∷ ls))) (behind_is inside passed t (l ∷ ls) at) ∙ resumed_is t.cont;
      bases = at.bases;
    }

    inner : length s.spots ≢ (first_base s.bases).labels + length passed + 1
    inner h = omega (arith, h, count_spots inside passed t (l ∷ ls) at, own_labels inside passed t (l ∷ ls) at)

    pub lands_inside : (u : Flat) → BranchesOut (length passed) s u → Lies u (record fr { top = resumed_label t.cont t.scope taken l; outer = ls } ∷ below)
    lands_inside u b =
        let same : b.spot ≡ spot_in (low_of fr below) t (l ∷ ls) = same_Some b.spot (spot_in (low_of fr below) t (l ∷ ls)) (sym b.at ∙ spot_is inside passed t (l ∷ ls) at) in
        let is = b.stays inner ∙ ap (λ t. landed t (drop (length passed + 1) s.spots) s) same in
        subst (λ u. Lies u (record fr { top = resumed_label t.cont t.scope taken l; outer = ls } ∷ below)) (sym is) lies_landed

  -- ---- out of the function

  module _ (inside : List Value) (passed : List Spot) (t : Label) (at : IsAtLabel inside passed t []) (taken : List Value) (enough : t.arity ≤ length o) (pushed : (xs : List Value) → push taken xs ≡ take t.arity o ++ xs) where
    returned_values : kept t.arity (first_base s.bases).values s.values ≡ push taken (all_values below)
    returned_values =
        kept_is inside passed t [] at t.arity (first_base s.bases).values (inside ++ reverse fr.locals) (all_values below) enough (sym (append_assoc inside (reverse fr.locals) (all_values below))) (own_values inside passed t [] at)
        ∙ sym (pushed (all_values below))

    returned_spots : drop (length s.spots - (first_base s.bases).labels) s.spots ≡ all_spots below
    returned_spots =
        drop_suffix (passed ++ spot_in (low_of fr below) t [] ∷ []) (all_spots below) s.spots (first_base s.bases).labels
        (at.spots ∙ sym (append_assoc passed (spot_in (low_of fr below) t [] ∷ []) (all_spots below))) (own_labels inside passed t [] at)

    outermost : length s.spots ≡ (first_base s.bases).labels + length passed + 1
    outermost = omega (arith, count_spots inside passed t [] at, own_labels inside passed t [] at)

    -- the values are those of the caller, with the results
    pub record IsReturned (u : Flat) : Type 0 where
      pub values : u.values ≡ push taken (all_values below)
      pub spots : u.spots ≡ all_spots below
      pub bases : u.bases ≡ all_bases below

    pub returns_out : (u : Flat) → BranchesOut (length passed) s u → IsReturned u
    returns_out u b =
        let same : b.spot ≡ spot_in (low_of fr below) t [] = same_Some b.spot (spot_in (low_of fr below) t []) (sym b.at ∙ spot_is inside passed t [] at) in
        let is = b.leaves outermost ∙ ap (λ (t : Spot). returned t.arity s) same in
        subst IsReturned (sym is) (record { values = returned_values; spots = returned_spots; bases = ap other_bases at.bases })

  -- ---- the values returned go to the caller, or to the script

  pub returns_to : (below : List Frame) (vs : List Value) (u : Flat) → u.values ≡ push vs (all_values below) → u.spots ≡ all_spots below → u.bases ≡ all_bases below
      → ((xs ys : List Value) → push vs (xs ++ ys) ≡ push vs xs ++ ys) → LiesNext inst e (return_to inst e below vs) u
  returns_to [] vs u v l b more = (vs, refl, record { values = v; spots = l; bases = b })
  returns_to (fr ∷ below) vs u v l b more = (refl, record { values = v ∙ more fr.top.ops (under fr below); spots = l; bases = b })

  -- a branch to a label that is there
  pub land_comes : (inside : List Value) (passed : List Spot) (t : Label) (outer : List Label) → IsAtLabel inside passed t outer → (u : Flat) → IsUnstuck (branch_with inst e fr below t outer (pop_values t.arity o [])) → BranchesOut (length passed) s u
      → LiesNext inst e (branch_with inst e fr below t outer (pop_values t.arity o [])) u
  land_comes inside passed t outer at u ready b = go outer at (pop_values t.arity o []) refl ready
    where
      go : (outer : List Label) → IsAtLabel inside passed t outer → (p : Popped) → pop_values t.arity o [] ≡ p → IsUnstuck (branch_with inst e fr below t outer p) → LiesNext inst e (branch_with inst e fr below t outer p) u
      go outer at None k r = absurd r
      go [] at (Some (taken, rest)) k r =
          let top = popped_top t.arity o [] taken rest k in
          let out = returns_out inside passed t at taken top.0 top.1 u b in
          returns_to below taken u out.values out.spots out.bases (λ xs ys. top.1 (xs ++ ys) ∙ sym (append_assoc (take t.arity o) xs ys) ∙ ap (λ zs. zs ++ ys) (sym (top.1 xs)))
      go (l ∷ ls) at (Some (taken, rest)) k r = let top = popped_top t.arity o [] taken rest k in (refl, lands_inside inside passed t l ls at taken top.0 top.1 u b)

  -- and can be made
  lands : (inside : List Value) (passed : List Spot) (t : Label) (outer : List Label) → IsAtLabel inside passed t outer → IsUnstuck (branch_with inst e fr below t outer (pop_values t.arity o [])) → CanBranch (length passed) s
  lands inside passed t outer at ready = go (pop_values t.arity o []) refl ready
    where
      go : (p : Popped) → pop_values t.arity o [] ≡ p → IsUnstuck (branch_with inst e fr below t outer p) → CanBranch (length passed) s
      go None k r = absurd r
      go (Some (taken, rest)) k r = can_land inside passed t outer at (popped_top t.arity o [] taken rest k).0

  -- one label further out
  further : (inside : List Value) (passed : List Spot) (t l : Label) (ls : List Label) → IsAtLabel inside passed t (l ∷ ls) → IsAtLabel (inside ++ l.ops) (passed ++ spot_in (low_of fr below) t (l ∷ ls) ∷ []) l ls
  further inside passed t l ls at = record {
    values = at.values ∙ ap (λ xs. o ++ xs) (ap (λ xs. inside ++ xs) (append_assoc l.ops (ops_of ls) low) ∙ sym (append_assoc inside l.ops (ops_of ls ++ low)));
    spots = at.spots ∙ sym (append_assoc passed (spot_in (low_of fr below) t (l ∷ ls) ∷ []) (spots_of (low_of fr below) (l ∷ ls) ++ all_spots below));
    bases = at.bases;
  }

  count : (passed : List Spot) (x : Spot) (n : ℕ) → length (passed ++ x ∷ []) + n ≡ length passed + suc n
  count passed x n = omega (arith, length-append passed (x ∷ []))

  -- a branch to the label of a number can be made
  pub can_jump : (n : ℕ) (inside : List Value) (passed : List Spot) (t : Label) (outer : List Label) → IsAtLabel inside passed t outer → IsUnstuck (branch inst e fr below o n t outer) → CanBranch (length passed + n) s
  can_jump zero inside passed t outer at ready = let k : length passed + 0 ≡ length passed = omega arith in subst (λ n. CanBranch n s) (sym k) (lands inside passed t outer at ready)
  can_jump (suc n) inside passed t [] at ready = absurd ready
  can_jump (suc n) inside passed t (l ∷ ls) at ready =
      subst (λ n. CanBranch n s) (count passed (spot_in (low_of fr below) t (l ∷ ls)) n)
      (can_jump n (inside ++ l.ops) (passed ++ spot_in (low_of fr below) t (l ∷ ls) ∷ []) l ls (further inside passed t l ls at) ready)

  -- and comes to what it comes to
  pub jump_comes : (n : ℕ) (inside : List Value) (passed : List Spot) (t : Label) (outer : List Label) → IsAtLabel inside passed t outer → (u : Flat) → IsUnstuck (branch inst e fr below o n t outer) → BranchesOut (length passed + n) s u
      → LiesNext inst e (branch inst e fr below o n t outer) u
  jump_comes zero inside passed t outer at u ready b = let k : length passed + 0 ≡ length passed = omega arith in land_comes inside passed t outer at u ready (subst (λ n. BranchesOut n s u) k b)
  jump_comes (suc n) inside passed t [] at u ready b = absurd ready
  jump_comes (suc n) inside passed t (l ∷ ls) at u ready b =
      let x = spot_in (low_of fr below) t (l ∷ ls) in
      jump_comes n (inside ++ l.ops) (passed ++ x ∷ []) l ls (further inside passed t l ls at) u ready (subst (λ n. BranchesOut n s u) (sym (count passed x n)) b)
