-- What a host call makes of a state that it is fit for.
use Rattle.std.proofs.Common.{◌≡◌, ℕ, replicate, ◌+◌, ◌-◌, ◌<◌, ◌≤◌, List, [], ◌∷◌, ◌++◌, Option, Some, None, IsSome, Bool, true, false, length, take, drop, get_or, slice_get, refl, sym, ap, ◌∙◌, arith, append_assoc, ◌&&◌}
use Rattle.std.specs.Prelude.{reverse}
use Rattle.std.proofs.lemmas.Simd.{map-map}
use Rattle.std.proofs.lemmas.List.{length-map, map-append, take_more, reverse-append, length-take-le, length-drop, drop-drop}
use Rattle.std.proofs.lemmas.Option.{slice_get-get_or}
use Rattle.wasm_sem.specs.Types.{Value, Module}
use Rattle.module_ast.specs.Memory.{overlay}
use Rattle.wasm_sem.specs.declared.HostWrite.{HostWrite}
use Rattle.wasm_sem.specs.Execution.{written_memory, Callee, host, hook, own, callees_of}
use Rattle.wasm_sem.proofs.Straight.{some_is}
use Rattle.shadow_replay.specs.declared.Warning.{Warning}
use Rattle.shadow_replay.specs.declared.marked.Marked.{Marked}
use Rattle.shadow_replay.specs.Shadow.{Shadow, have_types, if_true, lie_within, answers}
use Rattle.shadow_replay.specs.Events.{effect, tainted_effect}
use Rattle.shadow_replay.specs.Stacked.{values_in, marks_in, Standing}
use Rattle.shadow_replay.specs.Taint.{Watch, is_watched, each_marked, unmarked_by}
use Rattle.shadow_replay.specs.Tainted.{TaintedShadow, answers_marks, with_marks}
use Rattle.shadow_replay.specs.Replayed.{PreparedLocals, HeldOperands, shadow_seen, marked_values, marks_prepared, call_warnings, answered}

-- ---- values with one mark

pub marked_next : (k : Bool) (vs : List Value) (i : ℕ) (v : Value) → i < length vs → slice_get vs i ≡ Some v → marked_values k (take (i + 1) vs) ≡ marked_values k (take i vs) ++ record { value = v; mark = k } ∷ []
marked_next k vs i v h e =
    let marked : Value → Marked = λ v. record { value = v; mark = k } in
    ap (marked_values k) (take_more vs i v h) ∙ (map-append marked (take i vs) (get_or vs i v ∷ [])
    ∙ ap (λ x. marked_values k (take i vs) ++ marked x ∷ []) (some_is (sym (slice_get-get_or vs i v h) ∙ e)))

pub marked_is : (k : Bool) (vs : List Value) → values_in (marked_values k vs) ≡ vs
marked_is k [] = refl
marked_is k (v ∷ vs) = ap (λ us. v ∷ us) (marked_is k vs)

pub marked_so : (k : Bool) (vs : List Value) → marks_in (marked_values k vs) ≡ each_marked k vs
marked_so k vs = map-map (λ (m : Marked). m.mark) (λ (v : Value). record { value = v; mark = k }) vs

each_last : {A : Type 0} (k : Bool) (xs : List A) → each_marked k xs ++ k ∷ [] ≡ k ∷ each_marked k xs
each_last k [] = refl
each_last k (x ∷ xs) = ap (λ ks. k ∷ ks) (each_last k xs)

each_reversed : {A : Type 0} (k : Bool) (xs : List A) → reverse (each_marked k xs) ≡ each_marked k xs
each_reversed k [] = refl
each_reversed k (x ∷ xs) = reverse-append (k ∷ []) (each_marked k xs) ∙ (ap (λ ks. ks ++ k ∷ []) (each_reversed k xs) ∙ each_last k xs)

-- ---- writes

pub each_is : {A : Type 0} (k : Bool) (xs : List A) → each_marked k xs ≡ replicate (length xs) k
each_is k [] = refl
each_is k (x ∷ xs) = ap (λ ks. k ∷ ks) (each_is k xs)

-- the marks of bytes that are written
pub unmarked_part : (a n k : ℕ) (xs ys : List Bool) (bs : List ℕ) → n ≡ length bs → k ≡ a + n - a → a + length bs ≤ length xs → ys ≡ replicate (length (take k (drop a xs))) false
    → take a xs ++ (ys ++ drop k (drop a xs)) ≡ overlay a (each_marked false bs) xs
unmarked_part a n k xs ys bs e size h g =
    let count : k ≡ length bs = omega (arith, e, size) in
    let part : length (take k (drop a xs)) ≡ length bs = omega (arith, length-take-le k (drop a xs) (omega (arith, count, length-drop a xs, h)), count) in
    let next : a + k ≡ a + length (each_marked false bs) = omega (arith, count, length-map bs (λ b. false)) in
    ap (λ ys. take a xs ++ (ys ++ drop k (drop a xs))) (g ∙ (ap (λ n. replicate n false) part ∙ sym (each_is false bs)))
    ∙ ap (λ zs. take a xs ++ (each_marked false bs ++ zs)) (drop-drop k a xs ∙ ap (λ n. drop n xs) next) ∙ sym (append_assoc (take a xs) (each_marked false bs) (drop (a + length (each_marked false bs)) xs))

-- ---- host calls

tests_hold : (a b d : Bool) (x : Option Shadow) → IsSome (if_true (a && (b && d)) x) → (d ≡ true) × (if_true (a && (b && d)) x ≡ x)
tests_hold true true true x h = (refl, refl)
tests_hold true true false x h = absurd cc
tests_hold true false d x h = absurd cc
tests_hold false b d x h = absurd cc

-- what is prepared is there
pub answer_prepared : (sh : Shadow) (c : Option Callee) (args : Option (List Value)) (vs : List Value) (ws : List HostWrite) → IsSome (answers sh c args vs ws) → IsSome args
answer_prepared sh c (Some args) vs ws h = refl
answer_prepared sh None None vs ws h = absurd cc
answer_prepared sh (Some (host ty)) None vs ws h = absurd cc
answer_prepared sh (Some (hook ty)) None vs ws h = absurd cc
answer_prepared sh (Some (own ty locals code)) None vs ws h = absurd cc

no_values : IsSome {T = List Value} None → ⊥
no_values h = absurd cc

-- the writes lie within the memory
pub record Answers (sh : Shadow) (c : Option Callee) (args : List Value) (vs : List Value) (ws : List HostWrite) : Type 0 where
  pub within : lie_within (length sh.memory) ws ≡ true
  pub is : answers sh c (Some args) vs ws ≡ Some (record sh { memory = written_memory ws sh.memory; prepared = None; given = Some vs })

pub answer_is : (sh : Shadow) (c : Option Callee) (args vs : List Value) (ws : List HostWrite) → IsSome (answers sh c (Some args) vs ws) → Answers sh c args vs ws
answer_is sh (Some (host ty)) args vs ws h =
    let r = tests_hold (have_types ty.params args) (have_types ty.results vs) (lie_within (length sh.memory) ws) (Some (record sh { memory = written_memory ws sh.memory; prepared = None; given = Some vs })) h in
    record { within = r.0; is = r.1 }
answer_is sh None args vs ws h = absurd cc
answer_is sh (Some (hook ty)) args vs ws h = absurd cc
answer_is sh (Some (own ty locals code)) args vs ws h = absurd cc

module _ (m : Module) (limit : ℕ) (w : Watch) (memory : List ℕ) (ks : List Bool) (gs : List Marked) (st : Standing) (p : PreparedLocals) (h : Option HeldOperands) (g : Option (List Marked)) (told : List Warning) where
  prepared_is : (f : ℕ) (vs : List Value) (ws : List HostWrite) → IsSome (effect m limit (shadow_seen memory ks gs st (Some p) h g told).state (answered f vs ws (shadow_seen memory ks gs st (Some p) h g told).state))
      → tainted_effect m limit w (shadow_seen memory ks gs st (Some p) h g told) (answered f vs ws (shadow_seen memory ks gs st (Some p) h g told).state)
      ≡ Some (shadow_seen (written_memory ws memory) (unmarked_by ws ks) gs st None h (Some (marked_values (is_watched w.sources f) vs)) (told ++ call_warnings w f (marks_prepared (Some p))))
  prepared_is f vs ws fit =
      let sh = (shadow_seen memory ks gs st (Some p) h g told).state in
      let before = (shadow_seen memory ks gs st (Some p) h g told).marks in
      let k = is_watched w.sources f in
      let ms = marked_values k vs in
      let next : List Value → List Bool → Option TaintedShadow = λ vs bs. Some (record {
        state = record (shadow_seen (written_memory ws memory) (unmarked_by ws ks) gs st None h None (told ++ call_warnings w f (marks_prepared (Some p)))).state { given = Some vs };
        marks = record (shadow_seen (written_memory ws memory) (unmarked_by ws ks) gs st None h None (told ++ call_warnings w f (marks_prepared (Some p)))).marks { given = bs };
      }) in
      ap (with_marks (answers_marks w f vs ws before.prepared before)) (answer_is sh (slice_get (callees_of m) f) (values_in p.locals) vs ws fit).is
      ∙ (ap (λ us. next us (each_marked k vs)) (sym (marked_is k vs)) ∙ ap (next (values_in ms)) (sym (ap reverse (marked_so k vs) ∙ each_reversed k vs)))

pub host_is : (m : Module) (limit : ℕ) (w : Watch) (memory : List ℕ) (ks : List Bool) (gs : List Marked) (st : Standing) (p : Option PreparedLocals) (h : Option HeldOperands) (g : Option (List Marked)) (told : List Warning) (f : ℕ) (vs : List Value) (ws : List HostWrite)
    → IsSome (effect m limit (shadow_seen memory ks gs st p h g told).state (answered f vs ws (shadow_seen memory ks gs st p h g told).state))
    → tainted_effect m limit w (shadow_seen memory ks gs st p h g told) (answered f vs ws (shadow_seen memory ks gs st p h g told).state)
    ≡ Some (shadow_seen (written_memory ws memory) (unmarked_by ws ks) gs st None h (Some (marked_values (is_watched w.sources f) vs)) (told ++ call_warnings w f (marks_prepared p)))
host_is m limit w memory ks gs st (Some p) h g told f vs ws fit = prepared_is m limit w memory ks gs st p h g told f vs ws fit
host_is m limit w memory ks gs st None h g told f vs ws fit =
    absurd (no_values (answer_prepared (shadow_seen memory ks gs st None h g told).state (slice_get (callees_of m) f) None vs ws fit))
