-- How the calls on the open blocks lead on from one another.
use Rattle.std.proofs.Common.{◌≡◌, ℕ, ◌+◌, ◌-◌, ◌<◌, ◌≤◌, List, [], ◌∷◌, ◌++◌, length, take, get_or, Option, Some, None, false, refl, sym, ap, subst, ◌∙◌, arith}
use Rattle.std.specs.Prelude.{option_map, option_and_then, Result, Ok, Err}
use Rattle.std.proofs.lemmas.List.{take_more}
use Rattle.wasm_num.specs.declared.ValType.{ValType}
use Rattle.wasm_num.specs.declared.ValType.TheVariants.{I32}
use Rattle.code_valid.specs.Checking.{BlockStack, fresh, dead_stack, take_operand, take_type, take_types, put_operand, put_types, turns, stops, selects, select_on, select_second, apply}
use Rattle.ctrl_stack.specs.declared.stack.StackFault.{StackFault}
use Rattle.ctrl_stack.specs.declared.stack.StackFault.TheVariants.{Mismatch}
use Rattle.ctrl_stack.specs.declared.stack.StackFault.TheVariants as faults
use Rattle.ctrl_stack.specs.Faults.{OnFault, IsMismatch}
use Rattle.code_valid.specs.declared.invalid.BodyInvalid.{BodyInvalid}
use Rattle.code_valid.specs.declared.invalid.BodyInvalid.TheVariants.{Invalid, NoMemory}
use Rattle.code_valid.specs.Control.{Control, innermost_stack, with_innermost_stack}
use Rattle.code_valid.specs.Answers.{OnRefusal, OnlyMemory, Moves, invalid_by}

pub and_then_assoc : (f g : BlockStack → Option BlockStack) (o : Option BlockStack) → option_and_then g (option_and_then f o) ≡ option_and_then (λ a. option_and_then g (f a)) o
and_then_assoc f g None = refl
and_then_assoc f g (Some a) = refl

and_then_some : (o : Option BlockStack) → o ≡ option_and_then (take_types []) o
and_then_some None = refl
and_then_some (Some a) = refl

pub pop_all_last : (ts : List ValType) (t : ValType) (a : BlockStack) → take_types (ts ++ t ∷ []) a ≡ option_and_then (take_types ts) (take_type t a)
pop_all_last [] t a = and_then_some (take_type t a)
pop_all_last (x ∷ ts) t a = ap (option_and_then (take_type x)) (pop_all_last ts t a) ∙ and_then_assoc (take_types ts) (take_type x) (take_type t a)

pop_at : (ts : List ValType) (n : ℕ) (t : ValType) (a : BlockStack) → 0 < n → n ≤ length ts → take_types (take n ts) a ≡ option_and_then (take_types (take (n - 1) ts)) (take_type (get_or ts (n - 1) t) a)
pop_at ts n t a h k =
    let e : n ≡ (n - 1) + 1 = omega arith in
    let l : n - 1 < length ts = omega arith in
    ap (λ m. take_types (take m ts) a) e ∙ ap (λ us. take_types us a) (take_more ts (n - 1) t l) ∙ pop_all_last (take (n - 1) ts) (get_or ts (n - 1) t) a

pub pop_more : (ts : List ValType) (n : ℕ) (t : ValType) (a b : BlockStack) (x : Option ValType) → 0 < n → n ≤ length ts → take_operand (Some (get_or ts (n - 1) t)) a ≡ Some (x, b) → take_types (take n ts) a ≡ take_types (take (n - 1) ts) b
pop_more ts n t a b x h k e = pop_at ts n t a h k ∙ ap (λ o. option_and_then (take_types (take (n - 1) ts)) (option_map (λ (r : Option ValType × BlockStack). r.1) o)) e

pub pop_fails : (ts : List ValType) (n : ℕ) (t : ValType) (a : BlockStack) → 0 < n → n ≤ length ts → take_operand (Some (get_or ts (n - 1) t)) a ≡ None → take_types (take n ts) a ≡ None
pop_fails ts n t a h k e = pop_at ts n t a h k ∙ ap (λ o. option_and_then (take_types (take (n - 1) ts)) (option_map (λ (r : Option ValType × BlockStack). r.1) o)) e

pub on_refusal : (e : BodyInvalid) (P Q : Type 0) → (P → Q) → OnRefusal e P → OnRefusal e Q
on_refusal Invalid P Q f h = f h
on_refusal NoMemory P Q f h = tt

pub turns_last : (ts us : List ValType) (t : ValType) (a : BlockStack) → apply (turns (ts ++ t ∷ []) us) a ≡ option_and_then (apply (turns ts us)) (take_type t a)
turns_last ts us t a = ap (option_map (put_types us)) (pop_all_last ts t a) ∙ go (take_type t a)
  where
    go : (o : Option BlockStack) → option_map (put_types us) (option_and_then (take_types ts) o) ≡ option_and_then (apply (turns ts us)) o
    go None = refl
    go (Some b) = refl

pub stops_last : (ts : List ValType) (t : ValType) (a : BlockStack) → apply (stops (ts ++ t ∷ [])) a ≡ option_and_then (apply (stops ts)) (take_type t a)
stops_last ts t a = ap (option_map (λ (b : BlockStack). dead_stack)) (pop_all_last ts t a) ∙ go (take_type t a)
  where
    go : (o : Option BlockStack) → option_map (λ (b : BlockStack). dead_stack) (option_and_then (take_types ts) o) ≡ option_and_then (apply (stops ts)) o
    go None = refl
    go (Some b) = refl

-- ---- refusals

pub refused : (e : BodyInvalid) (P : Type 0) → (e ≡ Invalid) × P → OnRefusal e P
refused e P h = subst (λ z. OnRefusal z P) (sym h.0) h.1

pub no_memory : (e : BodyInvalid) (P : Type 0) → e ≡ NoMemory → OnRefusal e P
no_memory e P h = subst (λ z. OnRefusal z P) (sym h) tt

pub by_mismatch : (f : StackFault) → IsMismatch f → invalid_by f ≡ Invalid
by_mismatch Mismatch h = refl
by_mismatch faults.NoMemory h = absurd h

pub only_memory : (f : StackFault) (P : Type 0) → (P → ⊥) → OnFault f P → invalid_by f ≡ NoMemory
only_memory Mismatch P g h = absurd (g h)
only_memory faults.NoMemory P g h = refl

-- ---- a block that begins

same_dead : (ts : List ValType) (a : BlockStack) → (put_types ts a).dead ≡ a.dead
same_dead [] a = refl
same_dead (t ∷ ts) a = same_dead ts (put_operand (Some t) a)

-- its starts alone are live
pub begins_live : (ts : List ValType) → ◌≡◌ {A = BlockStack} (record { ops = (put_types ts fresh).ops; dead = false }) (put_types ts fresh)
begins_live ts = λ i. record { ops = (put_types ts fresh).ops; dead = sym (same_dead ts fresh) i }

-- ---- what is taken, and what is put

pub turned : {A : Type 0} (r : Result A BodyInvalid) (takes leaves : List ValType) (old mid new : Control) (b : BlockStack)
    → take_types takes (innermost_stack old) ≡ Some b → mid ≡ with_innermost_stack b old → OnlyMemory r (new ≡ with_innermost_stack (put_types leaves (innermost_stack mid)) mid)
    → Moves r (apply (turns takes leaves) (innermost_stack old)) old new
turned (Ok x) takes leaves old mid new b h m q =
    (put_types leaves b, ap (option_map (put_types leaves)) h, q ∙ ap (λ z. with_innermost_stack (put_types leaves (innermost_stack z)) z) m)
turned (Err e) takes leaves old mid new b h m q = no_memory e _ q

pub stopped : {A : Type 0} (x : A) (takes : List ValType) (old mid new : Control) (b : BlockStack)
    → take_types takes (innermost_stack old) ≡ Some b → mid ≡ with_innermost_stack b old → new ≡ with_innermost_stack dead_stack mid
    → Moves (Ok x) (apply (stops takes) (innermost_stack old)) old new
stopped x takes old mid new b h m q = (dead_stack, ap (option_map (λ (b : BlockStack). dead_stack)) h, q ∙ ap (with_innermost_stack dead_stack) m)

-- an i32 is taken first
pub turned_behind : {A : Type 0} (r : Result A BodyInvalid) (ts us : List ValType) (t : ValType) (old mid new : Control) (b : BlockStack)
    → take_type t (innermost_stack old) ≡ Some b → mid ≡ with_innermost_stack b old → Moves r (apply (turns ts us) (innermost_stack mid)) mid new
    → Moves r (apply (turns (ts ++ t ∷ []) us) (innermost_stack old)) old new
turned_behind (Ok x) ts us t old mid new b h m (d, k, q) =
    (d, turns_last ts us t (innermost_stack old) ∙ ap (option_and_then (apply (turns ts us))) h ∙ ap (λ z. apply (turns ts us) (innermost_stack z)) (sym m) ∙ k, q ∙ ap (with_innermost_stack d) m)
turned_behind (Err e) ts us t old mid new b h m k =
    on_refusal e _ _ (λ k. turns_last ts us t (innermost_stack old) ∙ ap (option_and_then (apply (turns ts us))) h ∙ ap (λ z. apply (turns ts us) (innermost_stack z)) (sym m) ∙ k) k

pub stopped_behind : {A : Type 0} (r : Result A BodyInvalid) (ts : List ValType) (t : ValType) (old mid new : Control) (b : BlockStack)
    → take_type t (innermost_stack old) ≡ Some b → mid ≡ with_innermost_stack b old → Moves r (apply (stops ts) (innermost_stack mid)) mid new
    → Moves r (apply (stops (ts ++ t ∷ [])) (innermost_stack old)) old new
stopped_behind (Ok x) ts t old mid new b h m (d, k, q) =
    (d, stops_last ts t (innermost_stack old) ∙ ap (option_and_then (apply (stops ts))) h ∙ ap (λ z. apply (stops ts) (innermost_stack z)) (sym m) ∙ k, q ∙ ap (with_innermost_stack d) m)
stopped_behind (Err e) ts t old mid new b h m k =
    on_refusal e _ _ (λ k. stops_last ts t (innermost_stack old) ∙ ap (option_and_then (apply (stops ts))) h ∙ ap (λ z. apply (stops ts) (innermost_stack z)) (sym m) ∙ k) k

pub turns_none : (ts us : List ValType) (t : ValType) (a : BlockStack) → take_type t a ≡ None → apply (turns (ts ++ t ∷ []) us) a ≡ None
turns_none ts us t a e = turns_last ts us t a ∙ ap (option_and_then (apply (turns ts us))) e

pub stops_none : (ts : List ValType) (t : ValType) (a : BlockStack) → take_type t a ≡ None → apply (stops (ts ++ t ∷ [])) a ≡ None
stops_none ts t a e = stops_last ts t a ∙ ap (option_and_then (apply (stops ts))) e

-- all but the operands here is kept
pub kept : (old mid new : Control) (b : BlockStack) → mid ≡ with_innermost_stack (innermost_stack mid) old → new ≡ with_innermost_stack b mid → new ≡ with_innermost_stack (innermost_stack new) old
kept old mid new b m q = q ∙ ap (with_innermost_stack b) m ∙ ap (λ z. with_innermost_stack (innermost_stack z) old) (sym q)

pub selected : (s0 s1 s2 s3 s4 : Control) (b1 b2 b3 : BlockStack) (first second : Option ValType)
    → take_type I32 (innermost_stack s0) ≡ Some b1 → s1 ≡ with_innermost_stack b1 s0
    → take_operand None (innermost_stack s1) ≡ Some (first, b2) → s2 ≡ with_innermost_stack b2 s1
    → take_operand first (innermost_stack s2) ≡ Some (second, b3) → s3 ≡ with_innermost_stack b3 s2
    → s4 ≡ with_innermost_stack (put_operand second (innermost_stack s3)) s3
    → (b : BlockStack) × (apply selects (innermost_stack s0) ≡ Some b) × (s4 ≡ with_innermost_stack b s0)
selected s0 s1 s2 s3 s4 b1 b2 b3 first second h1 q1 h2 q2 h3 q3 q4 = (
  put_operand second b3,
  ap (option_and_then select_on) h1
      ∙ ap (λ z. select_on (innermost_stack z)) (sym q1)
      ∙ ap (option_and_then select_second) h2
      ∙ ap (λ z. option_map (λ (q : Option ValType × BlockStack). put_operand q.0 q.1) (take_operand first (innermost_stack z))) (sym q2)
      ∙ ap (option_map (λ (q : Option ValType × BlockStack). put_operand q.0 q.1)) h3,
  q4 ∙ ap (λ z. with_innermost_stack (put_operand second (innermost_stack z)) z) q3 ∙ ap (with_innermost_stack (put_operand second b3)) q2 ∙ ap (with_innermost_stack (put_operand second b3)) q1,
)
