-- From what is found below the top to what the calls answer.
use Rattle.std.proofs.Common.{◌≡◌, ℕ, ◌-◌, ◌<◌, ◌≤◌, List, [], ◌∷◌, ◌++◌, length, take, map, true, false, not, cond, eqb, Option, Some, None, Result, Ok, Err, refl, sym, ap, subst, ◌∙◌, arith, length-append}
use Rattle.std.specs.Prelude.{reverse, option_map, option_and_then, MatchOption, IfOk, ok_or, slice_get}
use Rattle.std.specs.Option.{option_eq}
use Rattle.std.proofs.lemmas.Option.{same_Some, none-some, slice_get_within, get_or_from_slice_get}
use Rattle.std.proofs.lemmas.Bool.{eq-eqb, ne_eqb, eqb-true, eqb-false, not-true, not-false, true≢false}
use Rattle.std.proofs.lemmas.List.{reverse-append, length-take-le, length-reverse}
use Rattle.wasm_num.specs.declared.ValType.{ValType}
use Rattle.wasm_num.specs.declared.BlockKind.{BlockKind}
use Rattle.ctrl_stack.specs.declared.frame.Frame.{Frame}
use Rattle.ctrl_stack.specs.declared.stack.StackFault.{StackFault}
use Rattle.ctrl_stack.specs.declared.stack.StackFault.TheVariants.{Mismatch}
use Rattle.ctrl_stack.specs.Stack.{Stack, AreBasesOrdered, pop, pop_all, with_frame, with_block, where_open, without_frame, without_first, without_block, lowest_operands}
use Rattle.ctrl_stack.specs.Faults.{IsMismatch}
use Rattle.ctrl_stack.proofs.Lists.{reverse-last, reverse-take, length-lowest, drop-none}
use Rattle.ctrl_stack.proofs.Pops.{IsNested, nested-pop_all, push_all-is}

abbrev stack : List Frame → List (Option ValType) → Stack
stack fs xs = record { frames = fs; operands = xs }

pub mismatch_from : {A : Type 0} (o : Option A) (e : StackFault) → ◌≡◌ {A = Result A StackFault} (Err e) (ok_or o Mismatch) → IsMismatch e × (o ≡ None)
mismatch_from None e h = let p : Mismatch ≡ e = cc in (subst IsMismatch p tt, refl)
mismatch_from (Some x) e h = absurd (cc)

pub ok_from : {A : Type 0} (Q : A → Type 0) (o : Option A) (r : Result A StackFault) → r ≡ ok_or o Mismatch → ((x : A) → o ≡ Some x → Q x) → IfOk r Q
ok_from Q None (Ok x) e f = absurd (cc)
ok_from Q (Some y) (Ok x) e f = let p : Some y ≡ Some x = cc in f x p
ok_from Q o (Err e) h f = tt

pub lowered-all : (s : Stack) (n : ℕ) → n ≡ length s.operands → lowest_operands n s ≡ s
lowered-all s n e = ap (λ m. lowest_operands m s) e ∙ ap (stack s.frames) (drop-none s.operands)

-- the operands are cut to n
pub cut_view : (s : Stack) (fs : List Frame) (items new : List (Option ValType)) (n : ℕ) → stack fs (reverse items) ≡ s → new ≡ take n items → stack fs (reverse new) ≡ lowest_operands n s
cut_view s fs items new n v e = ap (λ xs. stack fs (reverse xs)) e ∙ ap (stack fs) (reverse-take n items) ∙ ap (lowest_operands n) v

-- ---- one operand

abbrev pub PopsFrom : Stack → ℕ → Option ValType → Option (Option ValType × ℕ) → Type 0
PopsFrom s h e o = MatchOption o (pop e (lowest_operands h s) ≡ None) (λ r. (r.1 ≤ h) × (pop e (lowest_operands h s) ≡ Some (r.0, lowest_operands r.1 s)))

pub pops_none : (s : Stack) (h : ℕ) (e : Option ValType) (o : Option (Option ValType × ℕ)) → o ≡ None → PopsFrom s h e o → pop e (lowest_operands h s) ≡ None
pops_none s h e None p k = k
pops_none s h e (Some r) p k = absurd (none-some r (sym p))

pub pops_some : (s : Stack) (h : ℕ) (e t : Option ValType) (n : ℕ) (o : Option (Option ValType × ℕ)) → o ≡ Some (t, n) → PopsFrom s h e o → (n ≤ h) × (pop e (lowest_operands h s) ≡ Some (t, lowest_operands n s))
pops_some s h e t n None p k = absurd (none-some (t, n) p)
pops_some s h e t n (Some r) p k = subst (λ (q : Option ValType × ℕ). (q.1 ≤ h) × (pop e (lowest_operands h s) ≡ Some (q.0, lowest_operands q.1 s))) (same_Some r (t, n) p) k

-- ---- several

abbrev pub PopsAll : Stack → List ValType → Option ℕ → Type 0
PopsAll s ts o = MatchOption o (pop_all ts s ≡ None) (λ n. (n ≤ length s.operands) × (pop_all ts s ≡ Some (lowest_operands n s)))

pub pops_all_some : (s : Stack) (ts : List ValType) (o : Option ℕ) (n : ℕ) → o ≡ Some n → PopsAll s ts o → (n ≤ length s.operands) × (pop_all ts s ≡ Some (lowest_operands n s))
pops_all_some s ts None n p k = absurd (none-some n p)
pops_all_some s ts (Some m) n p k = subst (λ i. (i ≤ length s.operands) × (pop_all ts s ≡ Some (lowest_operands i s))) (same_Some m n p) k

-- ---- a block opened

module _ (kind : BlockKind) (a r : List ValType) (base : ℕ) (s : Stack) (fs : List Frame) (items new : List (Option ValType)) (view : stack (reverse fs) (reverse items) ≡ s) (enough : base ≤ length s.operands) (found : pop_all a s ≡ Some (lowest_operands base s)) (put : new ≡ take base items ++ map Some a) where
  abbrev frame : Frame
  frame = record { kind = kind; starts = a; results = r; base = base; dead = false }

  size : length (lowest_operands base s).operands ≡ base
  size = length-lowest base s.operands enough

  pub opened_nested : AreBasesOrdered (reverse fs) (length items) → AreBasesOrdered (frame ∷ reverse fs) (length new)
  opened_nested n =
      let at : IsNested (stack (reverse fs) (reverse items)) = subst (AreBasesOrdered (reverse fs)) (sym (length-reverse items)) n in
      let below : AreBasesOrdered s.frames base = subst (AreBasesOrdered s.frames) size (nested-pop_all a s (lowest_operands base s) found (subst IsNested view at)) in
      let room : base ≤ length items = omega (arith, enough, ap (λ (z : Stack). length z.operands) view, length-reverse items) in (
        omega (arith, ap length put, length-append (take base items) (map Some a), length-take-le base items room),
        subst (λ gs. AreBasesOrdered gs base) (sym (ap (λ (z : Stack). z.frames) view)) below,
      )

  pub opened_view : with_frame kind a r (lowest_operands base s) ≡ stack (frame ∷ reverse fs) (reverse new)
  opened_view =
      push_all-is a (stack (record { kind = kind; starts = a; results = r; base = length (lowest_operands base s).operands; dead = false } ∷ s.frames) (lowest_operands base s).operands)
      ∙ ap (λ n. stack (record { kind = kind; starts = a; results = r; base = n; dead = false } ∷ s.frames) (reverse (map Some a) ++ (lowest_operands base s).operands)) size
      ∙ ap (λ (z : Stack). stack (frame ∷ z.frames) (reverse (map Some a) ++ (lowest_operands base z).operands)) (sym view)
      ∙ ap (λ xs. stack (frame ∷ reverse fs) (reverse (map Some a) ++ xs)) (sym (reverse-take base items))
      ∙ ap (stack (frame ∷ reverse fs)) (sym (ap reverse put ∙ reverse-append (take base items) (map Some a)))

pub with_block_some : (kind : BlockKind) (a r : List ValType) (s : Stack) (n : ℕ) → 0 < length s.frames → pop_all a s ≡ Some (lowest_operands n s) → with_block kind a r s ≡ Some (with_frame kind a r (lowest_operands n s))
with_block_some kind a r s n h e = go s.frames h ∙ ap (option_map (with_frame kind a r)) e
  where
    go : (fs : List Frame) → 0 < length fs → where_open fs (option_map (with_frame kind a r) (pop_all a s)) ≡ option_map (with_frame kind a r) (pop_all a s)
    go [] k = absurd (omega arith)
    go (f ∷ fs) k = refl

-- ---- a block closed

module _ (s : Stack) (f : Frame) (fs : List Frame) (o : Option ℕ) (first : s.frames ≡ f ∷ fs) (found : PopsAll s f.results o) where
  closing : without_block s ≡ option_and_then (without_frame f fs) (pop_all f.results s)
  closing = ap (λ gs. without_first gs s) first

  pub closed_none : (o ≡ Some f.base → ⊥) → without_block s ≡ None
  closed_none ne = closing ∙ go o refl found
    where
      go : (p : Option ℕ) → o ≡ p → PopsAll s f.results p → option_and_then (without_frame f fs) (pop_all f.results s) ≡ None
      go None e k = ap (option_and_then (without_frame f fs)) k
      go (Some n) e k =
          let size : length (lowest_operands n s).operands ≡ n = length-lowest n s.operands k.0 in
          let apart : (length (lowest_operands n s).operands ≡ f.base → ⊥) = λ h. ne (e ∙ ap (λ m. Some m) (sym size ∙ h)) in
          ap (option_and_then (without_frame f fs)) k.1
          ∙ ap (λ b. cond b (Some (f, stack fs (lowest_operands n s).operands)) None) (ne_eqb (length (lowest_operands n s).operands) f.base apart)

  pub closed_some : o ≡ Some f.base → without_block s ≡ Some (f, stack fs (lowest_operands f.base s).operands)
  closed_some e =
      let k = pops_all_some s f.results o f.base e found in
      let size : length (lowest_operands f.base s).operands ≡ f.base = length-lowest f.base s.operands k.0 in
      closing ∙ ap (option_and_then (without_frame f fs)) k.1
      ∙ ap (λ b. cond b (Some (f, stack fs (lowest_operands f.base s).operands)) None) (eq-eqb (length (lowest_operands f.base s).operands) f.base size)

pub differs : (o : Option ℕ) (n : ℕ) → true ≡ not (option_eq eqb o (Some n)) → o ≡ Some n → ⊥
differs None n e h = none-some n h
differs (Some m) n e h = eqb-false m n (not-true (eqb m n) (sym e)) (same_Some m n h)

pub same_number : (o : Option ℕ) (n : ℕ) → false ≡ not (option_eq eqb o (Some n)) → o ≡ Some n
same_number None n e = absurd (true≢false (sym e))
same_number (Some m) n e = ap (λ i. Some i) (eqb-true m n (not-false (eqb m n) (sym e)))

pub innermost_is : (fs : List Frame) (f : Frame) → slice_get fs (length fs - 1) ≡ Some f → reverse fs ≡ f ∷ reverse (take (length fs - 1) fs)
innermost_is fs f e =
    let within : length fs - 1 < length fs = slice_get_within fs (length fs - 1) f e in
    reverse-last fs (length fs - 1) f (omega (arith, within)) ∙ ap (λ g. g ∷ reverse (take (length fs - 1) fs)) (get_or_from_slice_get fs (length fs - 1) f f e)

-- the last frame popped is the innermost one
pub closed_view : (s : Stack) (f g : Frame) (fs gs rest : List Frame) (items new : List (Option ValType)) (o : Option ℕ) → stack (reverse fs) (reverse items) ≡ s → reverse fs ≡ f ∷ rest → fs ≡ gs ++ g ∷ [] → new ≡ take f.base items → PopsAll s f.results o → o ≡ Some f.base →
    without_block s ≡ Some (g, stack (reverse gs) (reverse new))
closed_view s f g fs gs rest items new o v first last cut found e =
    let ends : reverse fs ≡ g ∷ reverse gs = ap reverse last ∙ reverse-append gs (g ∷ []) in
    let same : f ≡ g = cc in
    let frames : s.frames ≡ g ∷ reverse gs = ap (λ (z : Stack). z.frames) (sym v) ∙ ends in
    let at : PopsAll s g.results o = subst (λ (z : Frame). PopsAll s z.results o) same found in
    let base : f.base ≡ g.base = ap (λ (z : Frame). z.base) same in
    closed_some s g (reverse gs) o frames at (e ∙ ap (λ n. Some n) base)
    ∙ ap (λ xs. Some (g, stack (reverse gs) xs)) (ap (λ n. (lowest_operands n s).operands) (sym base) ∙ ap (λ (z : Stack). z.operands) (sym (cut_view s (reverse fs) items new f.base v cut)))
