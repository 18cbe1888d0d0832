-- Warnings come at host calls alone, so that those of two lists with as many host calls of one run are the same.
use Rattle.std.proofs.Common.{◌≡◌, ℕ, ◌+◌, List, [], ◌∷◌, ◌++◌, Option, Some, None, Bool, refl, sym, ap, ◌∙◌, arith, append_assoc, append-nil}
use Rattle.wasm_sem.specs.Types.{Loc, Module}
use Rattle.wasm_sem.specs.Execution.{TraceItem, entry, host_call, event, hook_call, host_calls}
use Rattle.shadow_replay.specs.Shadow.{Shadow}
use Rattle.shadow_replay.specs.Events.{effect, item_marks, tainted_effect, tainted_effects}
use Rattle.shadow_replay.specs.Taint.{Watch, Taint, unmark_writes, warn}
use Rattle.shadow_replay.specs.Tainted.{PreparedMarks, ShadowMarks, TaintedShadow, answers_marks, with_marks}
use Rattle.shadow_replay.proofs.ShadowReturns.{nothing_more}
use Rattle.shadow_replay.proofs.Shadows.{tainted_append}
use Rattle.shadow_replay.proofs.Warnings.{Warns, event_warns}
use Rattle.instrument.specs.Same.{IsPrefix}

-- ---- an item

-- a host call may warn of more
warn_more : (w : Watch) (p : Option Loc) (f : ℕ) (ks : List Bool) (t : Taint) → IsPrefix t.warnings (warn w p f ks t).warnings
warn_more w p f ks t = (_, refl)

item_more : (w : Watch) (m : Module) (sh : Shadow) (i : TraceItem) (k : ShadowMarks) → IsPrefix k.taint.warnings (item_marks m w sh i k).taint.warnings
item_more w m sh (entry c) k = ([], append-nil k.taint.warnings)
item_more w m sh (event e) k = ([], append-nil k.taint.warnings ∙ sym (event_warns m sh e k))
item_more w m sh (hook_call h) k = ([], append-nil k.taint.warnings)
item_more w m sh (host_call f vs rs ws) k = by k.prepared
  where
    by : (p : Option PreparedMarks) → IsPrefix k.taint.warnings (answers_marks w f rs ws p k).taint.warnings
    by None = ([], append-nil k.taint.warnings)
    by (Some p) = warn_more w p.call f p.marks (unmark_writes ws k.taint)

-- and nothing else does
item_warns : (w : Watch) (m : Module) (sh : Shadow) (i : TraceItem) (k : ShadowMarks) → host_calls (i ∷ []) ≡ 0 → Warns k (item_marks m w sh i k)
item_warns w m sh (entry c) k none = refl
item_warns w m sh (event e) k none = event_warns m sh e k
item_warns w m sh (hook_call h) k none = refl
item_warns w m sh (host_call f vs rs ws) k none = absurd (omega (arith, none))

-- ---- items

count_parts : (i : TraceItem) (is : List TraceItem) → host_calls (i ∷ is) ≡ host_calls (i ∷ []) + host_calls is
count_parts (entry c) is = omega arith
count_parts (event e) is = omega arith
count_parts (hook_call h) is = omega arith
count_parts (host_call f vs rs ws) is = omega arith

marked_with : (k : ShadowMarks) (o : Option Shadow) (b : TaintedShadow) → with_marks k o ≡ Some b → b.marks ≡ k
marked_with k None b e = cc
marked_with k (Some sh) b e =
    let same : record { state = sh; marks = k } ≡ b = cc in
    sym (ap (λ (t : TaintedShadow). t.marks) same)

module _ (m : Module) (limit : ℕ) (w : Watch) where
  none_taken : (is : List TraceItem) (b : TaintedShadow) → tainted_effects m limit w None is ≡ Some b → ⊥
  none_taken is b e = let none : None ≡ Some b = sym (nothing_more (tainted_effect m limit w) is) ∙ e in cc

  -- an item that was taken has moved the marks
  taken_marks : (a c : TaintedShadow) (i : TraceItem) → tainted_effect m limit w a i ≡ Some c → c.marks ≡ item_marks m w a.state i a.marks
  taken_marks a c i e = marked_with (item_marks m w a.state i a.marks) (effect m limit a.state i) c e

  -- without a host call there are no more warnings
  warned_same : (is : List TraceItem) (a b : TaintedShadow) → tainted_effects m limit w (Some a) is ≡ Some b → host_calls is ≡ 0
      → b.marks.taint.warnings ≡ a.marks.taint.warnings
  warned_same [] a b e none =
      let same : a ≡ b = cc in
      ap (λ (sh : TaintedShadow). sh.marks.taint.warnings) (sym same)
  warned_same (i ∷ is) a b e none =
      let parts = count_parts i is in
      by (tainted_effect m limit w a i) refl e (λ c f. warned_same is c b f (omega (arith, none, parts)))
    where
      by : (o : Option TaintedShadow) → tainted_effect m limit w a i ≡ o → tainted_effects m limit w o is ≡ Some b
          → ((c : TaintedShadow) → tainted_effects m limit w (Some c) is ≡ Some b → b.marks.taint.warnings ≡ c.marks.taint.warnings)
          → b.marks.taint.warnings ≡ a.marks.taint.warnings
      by None at f later = absurd (none_taken is b f)
      by (Some c) at f later =
          later c f ∙ ap (λ (k : ShadowMarks). k.taint.warnings) (taken_marks a c i at)
          ∙ item_warns w m a.state i a.marks (omega (arith, none, count_parts i is))

  -- with some there may be
  pub warned_more : (is : List TraceItem) (a b : TaintedShadow) → tainted_effects m limit w (Some a) is ≡ Some b
      → IsPrefix a.marks.taint.warnings b.marks.taint.warnings
  warned_more [] a b e =
      let same : a ≡ b = cc in
      ([], append-nil a.marks.taint.warnings ∙ ap (λ (sh : TaintedShadow). sh.marks.taint.warnings) same)
  warned_more (i ∷ is) a b e = by (tainted_effect m limit w a i) refl e (λ c f. warned_more is c b f)
    where
      by : (o : Option TaintedShadow) → tainted_effect m limit w a i ≡ o → tainted_effects m limit w o is ≡ Some b
          → ((c : TaintedShadow) → tainted_effects m limit w (Some c) is ≡ Some b → IsPrefix c.marks.taint.warnings b.marks.taint.warnings)
          → IsPrefix a.marks.taint.warnings b.marks.taint.warnings
      by None at f more = absurd (none_taken is b f)
      by (Some c) at f more =
          let (first, here) = item_more w m a.state i a.marks in
          let (rest, later) = more c f in
          let moved = ap (λ (k : ShadowMarks). k.taint.warnings) (taken_marks a c i at) in
          (first ++ rest, sym (append_assoc a.marks.taint.warnings first rest) ∙ ap (λ ws. ws ++ rest) (here ∙ sym moved) ∙ later)

  -- two fronts of one list with as many host calls warn of the same
  pub warned_alike : (xs ys r q : List TraceItem) (a b c : TaintedShadow) → xs ++ r ≡ ys ++ q → host_calls xs ≡ host_calls ys
      → tainted_effects m limit w (Some a) xs ≡ Some b → tainted_effects m limit w (Some a) ys ≡ Some c → b.marks.taint.warnings ≡ c.marks.taint.warnings
  warned_alike [] ys r q a b c is same e f =
      let here : a ≡ b = cc in
      ap (λ (sh : TaintedShadow). sh.marks.taint.warnings) (sym here) ∙ sym (warned_same ys a c f (sym same))
  warned_alike (x ∷ xs) [] r q a b c is same e f =
      let here : a ≡ c = cc in
      warned_same (x ∷ xs) a b e same ∙ ap (λ (sh : TaintedShadow). sh.marks.taint.warnings) here
  warned_alike (x ∷ xs) (y ∷ ys) r q a b c is same e f =
      let head : x ≡ y = cc in
      let tail : xs ++ r ≡ ys ++ q = cc in
      let px = count_parts x xs in
      let py = count_parts y ys in
      let one : host_calls (x ∷ []) ≡ host_calls (y ∷ []) = ap (λ i. host_calls (i ∷ [])) head in
      by head (tainted_effect m limit w a x) refl e (λ d g there. warned_alike xs ys r q d b c tail (omega (arith, same, px, py, one)) g there)
    where
      by : x ≡ y → (o : Option TaintedShadow) → tainted_effect m limit w a x ≡ o → tainted_effects m limit w o xs ≡ Some b
          → ((d : TaintedShadow) → tainted_effects m limit w (Some d) xs ≡ Some b → tainted_effects m limit w (Some d) ys ≡ Some c
          → b.marks.taint.warnings ≡ c.marks.taint.warnings)
          → b.marks.taint.warnings ≡ c.marks.taint.warnings
      by head None at g later = absurd (none_taken xs b g)
      by head (Some d) at g later =
          later d g (ap (λ o. tainted_effects m limit w o ys) (sym (ap (tainted_effect m limit w a) (sym head) ∙ at)) ∙ f)

  -- what leads to a state leads to one on its way
  pub front_some : (xs ys : List TraceItem) (a b : TaintedShadow) → tainted_effects m limit w (Some a) (xs ++ ys) ≡ Some b
      → (c : TaintedShadow) × (tainted_effects m limit w (Some a) xs ≡ Some c) × (tainted_effects m limit w (Some c) ys ≡ Some b)
  front_some xs ys a b e = by (tainted_effects m limit w (Some a) xs) refl (sym (tainted_append m limit w (Some a) xs ys) ∙ e)
    where
      by : (o : Option TaintedShadow) → tainted_effects m limit w (Some a) xs ≡ o → tainted_effects m limit w o ys ≡ Some b
          → (c : TaintedShadow) × (tainted_effects m limit w (Some a) xs ≡ Some c) × (tainted_effects m limit w (Some c) ys ≡ Some b)
      by None at f = absurd (none_taken ys b f)
      by (Some c) at f = (c, at, f)
