-- What `pop` gives, one operand after another.
use Rattle.std.proofs.Common.{◌≡◌, ℕ, ◌+◌, ◌-◌, ◌<◌, ◌≤◌, List, [], ◌∷◌, ◌++◌, length, take, drop, get_or, map, Bool, true, false, cond, Option, Some, None, refl, sym, ap, subst, ◌∙◌, arith, append_assoc, inl, inr}
use Rattle.std.specs.Prelude.{reverse, option_map, option_and_then}
use Rattle.std.proofs.lemmas.List.{take_more, reverse-append}
use Rattle.std.proofs.lemmas.Option.{some_pair_parts, none-some, same_Some}
use Rattle.std.proofs.lemmas.Bool.{le-leb, lt-leb}
use Rattle.std.proofs.lemmas.Bool.Decides.{leb_tells}
use Rattle.wasm_num.specs.declared.ValType.{ValType}
use Rattle.ctrl_stack.specs.declared.frame.Frame.{Frame}
use Rattle.ctrl_stack.specs.Stack.{Stack, base_of, dead_of, AreBasesOrdered, meet, push_operand, pop_at_base, pop_above, pop, pop_one, pop_all, push_all, lowest_operands}
use Rattle.ctrl_stack.proofs.Lists.{drop-lowest, length-lowest}

at_base : (base : ℕ) (dead : Bool) (e : Option ValType) (xs : List (Option ValType)) → length xs ≤ base → pop_above base dead e xs ≡ pop_at_base dead e xs
at_base base dead e [] h = refl
at_base base dead e (x ∷ xs) h =
    ap (λ b. cond b (pop_at_base dead e (x ∷ xs)) (option_map (λ y. (y, xs)) (meet x e))) (le-leb (length (x ∷ xs)) base h)

over_base : (base : ℕ) (dead : Bool) (e x : Option ValType) (xs : List (Option ValType)) → base < length (x ∷ xs) → pop_above base dead e (x ∷ xs) ≡ option_map (λ y. (y, xs)) (meet x e)
over_base base dead e x xs h =
    ap (λ b. cond b (pop_at_base dead e (x ∷ xs)) (option_map (λ y. (y, xs)) (meet x e))) (lt-leb (length (x ∷ xs)) base h)

abbrev pub with_operands : Stack → Option (Option ValType × List (Option ValType)) → Option (Option ValType × Stack)
with_operands s o = option_map (λ (r : Option ValType × List (Option ValType)). (r.0, record s { operands = r.1 })) o

-- above the base
pub pop-lowered : (s : Stack) (items : List (Option ValType)) (h : ℕ) (x e : Option ValType) → s.operands ≡ reverse items → base_of s.frames < h → h ≤ length items → h ≤ length s.operands → x ≡ get_or items (h - 1) x →
    pop e (lowest_operands h s) ≡ option_map (λ y. (y, lowest_operands (h - 1) s)) (meet x e)
pop-lowered s items h x e o b k l g =
    let rest = drop (length s.operands - (h - 1)) s.operands in
    let parts : drop (length s.operands - h) s.operands ≡ x ∷ rest =
    ap (λ xs. drop (length xs - h) xs) o ∙ drop-lowest h items x (omega arith) k g ∙ ap (λ xs. x ∷ drop (length xs - (h - 1)) xs) (sym o) in
    let size : length (x ∷ rest) ≡ h = ap length (sym parts) ∙ length-lowest h s.operands l in
    ap (λ xs. with_operands s (pop_above (base_of s.frames) (dead_of s.frames) e xs)) parts
    ∙ ap (with_operands s) (over_base (base_of s.frames) (dead_of s.frames) e x rest (omega (arith, size)))
    ∙ go (meet x e)
  where
    go : (o : Option (Option ValType)) → with_operands s (option_map (λ y. (y, drop (length s.operands - (h - 1)) s.operands)) o) ≡ option_map (λ y. (y, lowest_operands (h - 1) s)) o
    go None = refl
    go (Some y) = refl

pub pop-lowered_base : (s : Stack) (h : ℕ) (e : Option ValType) → h ≤ base_of s.frames → h ≤ length s.operands →
    pop e (lowest_operands h s) ≡ with_operands s (pop_at_base (dead_of s.frames) e (drop (length s.operands - h) s.operands))
pop-lowered_base s h e b l =
    let size : length (drop (length s.operands - h) s.operands) ≡ h = length-lowest h s.operands l in
    ap (with_operands s) (at_base (base_of s.frames) (dead_of s.frames) e (drop (length s.operands - h) s.operands) (omega (arith, size)))

pub nested_lower : (fs : List Frame) (m n : ℕ) → base_of fs ≤ n → AreBasesOrdered fs m → AreBasesOrdered fs n
nested_lower [] m n h k = tt
nested_lower (f ∷ fs) m n h k = (h, k.1)

pub nested_base : (fs : List Frame) (n : ℕ) → AreBasesOrdered fs n → base_of fs ≤ n
nested_base [] n h = omega arith
nested_base (f ∷ fs) n h = h.0

abbrev both : Option ValType → List (Option ValType) → Option ValType × List (Option ValType)
both y xs = (y, xs)

-- no operand below the base is taken
nested_above : (fs : List Frame) (e t : Option ValType) (xs ys : List (Option ValType)) → AreBasesOrdered fs (length xs) → pop_above (base_of fs) (dead_of fs) e xs ≡ Some (t, ys) → AreBasesOrdered fs (length ys)
nested_above fs e t xs ys n h = nested_lower fs (length xs) (length ys) (go xs (dead_of fs) (nested_base fs (length xs) n) h) n
  where
    base : ℕ
    base = base_of fs

    based : (dead : Bool) (zs : List (Option ValType)) → base ≤ length zs → pop_at_base dead e zs ≡ Some (t, ys) → base ≤ length ys
    based true zs b k = let p = some_pair_parts e t zs ys k in omega (arith, ap length p.1)
    based false zs b k = absurd (none-some (t, ys) k)

    taken : (o : Option (Option ValType)) (zs : List (Option ValType)) → base ≤ length zs → option_map (λ (y : Option ValType). both y zs) o ≡ Some (t, ys) → base ≤ length ys
    taken None zs b k = absurd (none-some (t, ys) k)
    taken (Some y) zs b k = let p = some_pair_parts y t zs ys k in omega (arith, ap length p.1)

    go : (zs : List (Option ValType)) (dead : Bool) → base ≤ length zs → pop_above base dead e zs ≡ Some (t, ys) → base ≤ length ys
    go [] dead b k = based dead [] b k
    go (z ∷ zs) dead b k =
        elim (leb_tells (length (z ∷ zs)) base) [
          | inl w ↦ based dead (z ∷ zs) b (sym (at_base base dead e (z ∷ zs) w.1) ∙ k)
          | inr w ↦ taken (meet z e) zs (omega (arith, w.1)) (sym (over_base base dead e z zs w.1) ∙ k)
        ]

abbrev pub IsNested : Stack → Type 0
IsNested s = AreBasesOrdered s.frames (length s.operands)

pub nested-pop : (e t : Option ValType) (a b : Stack) → pop e a ≡ Some (t, b) → IsNested a → IsNested b
nested-pop e t a b h n = go (pop_above (base_of a.frames) (dead_of a.frames) e a.operands) refl h
  where
    go : (o : Option (Option ValType × List (Option ValType))) → pop_above (base_of a.frames) (dead_of a.frames) e a.operands ≡ o → with_operands a o ≡ Some (t, b) → IsNested b
    go None k l = absurd (none-some (t, b) l)
    go (Some r) k l =
        let at : AreBasesOrdered a.frames (length r.1) = nested_above a.frames e r.0 a.operands r.1 n k in
        let same = some_pair_parts r.0 t (record a { operands = r.1 }) b l in
        subst IsNested same.1 at

-- ---- several operands

pub and_then_assoc : (f g : Stack → Option Stack) (o : Option Stack) → option_and_then g (option_and_then f o) ≡ option_and_then (λ a. option_and_then g (f a)) o
and_then_assoc f g None = refl
and_then_assoc f g (Some a) = refl

and_then_some : (o : Option Stack) → o ≡ option_and_then (pop_all []) o
and_then_some None = refl
and_then_some (Some a) = refl

pop_all-last : (ts : List ValType) (t : ValType) (a : Stack) → pop_all (ts ++ t ∷ []) a ≡ option_and_then (pop_all ts) (pop_one t a)
pop_all-last [] t a = and_then_some (pop_one t a)
pop_all-last (x ∷ ts) t a = ap (option_and_then (pop_one x)) (pop_all-last ts t a) ∙ and_then_assoc (pop_all ts) (pop_one x) (pop_one t a)

pub pop_all-more : (ts : List ValType) (n : ℕ) (t : ValType) (a : Stack) → 0 < n → n ≤ length ts → pop_all (take n ts) a ≡ option_and_then (pop_all (take (n - 1) ts)) (pop_one (get_or ts (n - 1) t) a)
pop_all-more ts n t a h k =
    let e : n ≡ (n - 1) + 1 = omega arith in
    let l : n - 1 < length ts = omega arith in
    ap (λ m. pop_all (take m ts) a) e ∙ ap (λ us. pop_all us a) (take_more ts (n - 1) t l) ∙ pop_all-last (take (n - 1) ts) (get_or ts (n - 1) t) a

nested_last : (t : ValType) (c b : Stack) (o : Option (Option ValType × Stack)) → pop (Some t) c ≡ o → IsNested c → option_map (λ (r : Option ValType × Stack). r.1) o ≡ Some b → IsNested b
nested_last t c b None k m l = absurd (none-some b l)
nested_last t c b (Some r) k m l = subst IsNested (same_Some r.1 b l) (nested-pop (Some t) r.0 c r.1 k m)

pub nested-pop_all : (ts : List ValType) (a b : Stack) → pop_all ts a ≡ Some b → IsNested a → IsNested b
nested-pop_all [] a b h n = subst IsNested (same_Some a b h) n
nested-pop_all (t ∷ ts) a b h n = go (pop_all ts a) refl (λ c k. nested-pop_all ts a c k n) h
  where
    go : (o : Option Stack) → pop_all ts a ≡ o → ((c : Stack) → pop_all ts a ≡ Some c → IsNested c) → option_and_then (pop_one t) o ≡ Some b → IsNested b
    go None k f l = absurd (none-some b l)
    go (Some c) k f l = nested_last t c b (pop (Some t) c) refl (f c k) l

pub push_all-is : (ts : List ValType) (s : Stack) → push_all ts s ≡ record s { operands = reverse (map Some ts) ++ s.operands }
push_all-is [] s = refl
push_all-is (t ∷ ts) s =
    push_all-is ts (push_operand (Some t) s)
    ∙ ap (λ xs. record s { operands = xs }) (sym (append_assoc (reverse (map Some ts)) (Some t ∷ []) s.operands) ∙ ap (λ xs. xs ++ s.operands) (sym (reverse-append (Some t ∷ []) (map Some ts))))

abbrev pub rest_of : Option (Option ValType × Stack) → Option Stack
rest_of o = option_map (λ (r : Option ValType × Stack). r.1) o

pub pop_all_step : (ts : List ValType) (n : ℕ) (t : ValType) (a : Stack) (o : Option (Option ValType × Stack)) → 0 < n → n ≤ length ts → pop (Some (get_or ts (n - 1) t)) a ≡ o → pop_all (take n ts) a ≡ option_and_then (pop_all (take (n - 1) ts)) (rest_of o)
pop_all_step ts n t a o h k e = pop_all-more ts n t a h k ∙ ap (λ p. option_and_then (pop_all (take (n - 1) ts)) (rest_of p)) e
