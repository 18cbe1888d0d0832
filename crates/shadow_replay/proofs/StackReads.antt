-- What is read of frames as they are kept.
use Rattle.std.proofs.Common.{◌≡◌, ℕ, zero, suc, ◌+◌, ◌-◌, ◌<◌, ◌≤◌, List, [], ◌∷◌, ◌++◌, length, map, take, drop, get_or, refl, sym, ap, ◌∙◌, subst, arith, length-append}
use Rattle.std.specs.Prelude.{reverse}
use Rattle.std.proofs.lemmas.List.{reverse-append, reverse-reverse, length-reverse, length-drop, length-take-le, take-append-le, drop-append-le, take-map, drop-map, drop-take, map-append, get_or-reverse}
use Rattle.wasm_sem.specs.Types.{Value}
use Rattle.shadow_replay.specs.declared.marked.Marked.{Marked}
use Rattle.shadow_replay.specs.Shadow.{ShadowLabel, ShadowFrame}
use Rattle.shadow_replay.specs.Tainted.{outer_count, arity_in, held_arity}
use Rattle.shadow_replay.specs.Stacked.{values_in, KeptLabel, KeptFrame, labels_in, operands_in, labels_kept, AreFramesKept, Standing, standing, AreWellKept, Has, HasLabel, top_operands, AreOperandsBelow}
use Rattle.shadow_replay.proofs.Stacks.{spots_length, lying, reverse-take, reverse-cut, has_values}

-- ---- labels of the innermost frame

outer_is : (vs : List Value) (ss : List KeptLabel) (b : KeptFrame) (bs : List KeptFrame) (fs : List ShadowFrame) → Has 0 fs → AreFramesKept vs ss (b ∷ bs) fs → length ss ≡ b.labels + 1 + outer_count fs
outer_is vs ss b bs [] k h = absurd k
outer_is vs ss b bs (fr ∷ below) k h =
    omega (arith, ap length h.labels, spots_length (labels_in (fr ∷ below)), length-append (fr.top ∷ fr.outer) (labels_in below), h.frames.2)

pub outer_counted : (os : List Marked) (ss : List KeptLabel) (bs : List KeptFrame) (st : Standing) (b : KeptFrame) (rest : List KeptFrame) → AreWellKept os ss bs → standing os ss bs ≡ st → Has 0 st.frames → bs ≡ b ∷ rest → length ss ≡ b.labels + 1 + outer_count st.frames
outer_counted os ss bs st b rest h e k q = outer_is (values_in os) ss b rest st.frames k (subst (λ bs. AreFramesKept (values_in os) ss bs st.frames) q (lying os ss bs st h e))

spot_arity : (n : ℕ) (l : ShadowLabel) (ls more : List ShadowLabel) (d : KeptLabel) → n ≤ length ls → (get_or (labels_kept ((l ∷ ls) ++ more)) n d).arity ≡ held_arity n l.arity ls
spot_arity zero l ls more d h = refl
spot_arity (suc n) l [] more d h = absurd (omega (arith, h))
spot_arity (suc n) l (k ∷ ls) more d h = spot_arity n k ls more d (omega (arith, h))

label_spot : (n : ℕ) (fs : List ShadowFrame) (d : KeptLabel) → HasLabel n fs → (get_or (labels_kept (labels_in fs)) n d).arity ≡ arity_in n fs
label_spot n [] d h = absurd h
label_spot n (fr ∷ below) d h = spot_arity n fr.top fr.outer (labels_in below) d h

label_within : (n : ℕ) (fs : List ShadowFrame) → HasLabel n fs → n < length (labels_kept (labels_in fs))
label_within n [] h = absurd h
label_within n (fr ∷ below) h = omega (arith, h, spots_length (labels_in (fr ∷ below)), length-append (fr.top ∷ fr.outer) (labels_in below))

pub label_there : (n : ℕ) (os : List Marked) (ss : List KeptLabel) (bs : List KeptFrame) (st : Standing) → AreWellKept os ss bs → standing os ss bs ≡ st → HasLabel n st.frames → n < length ss
label_there n os ss bs st h e k = omega (arith, label_within n st.frames k, ap length (lying os ss bs st h e).labels)

-- the label of a number, counted from below
pub label_arity : (n len : ℕ) (os : List Marked) (xs : List KeptLabel) (bs : List KeptFrame) (st : Standing) (s : KeptLabel) → AreWellKept os (reverse xs) bs → standing os (reverse xs) bs ≡ st → HasLabel n st.frames → len ≡ length xs → s ≡ get_or xs (len - 1 - n) s
    → s.arity ≡ arity_in n st.frames
label_arity n len os xs bs st s h e k size g =
    let there : n < length xs = omega (arith, label_there n os (reverse xs) bs st h e k, length-reverse xs) in
    ap (λ (s : KeptLabel). s.arity) (g ∙ (ap (λ len. get_or xs (len - 1 - n) s) size ∙ (sym (get_or-reverse xs n s there) ∙ ap (λ ss. get_or ss n s) (lying os (reverse xs) bs st h e).labels)))
    ∙ label_spot n st.frames s k

-- ---- operands on top

pub map-reverse : {A B : Type 0} (f : A → B) (xs : List A) → map f (reverse xs) ≡ reverse (map f xs)
map-reverse f [] = refl
map-reverse f (x ∷ xs) = ap (map f) (reverse-append (x ∷ []) xs) ∙ (map-append f (reverse xs) (x ∷ []) ∙ (ap (λ ys. ys ++ f x ∷ []) (map-reverse f xs) ∙ sym (reverse-append (f x ∷ []) (map f xs))))

take_below : (a n : ℕ) (fs : List ShadowFrame) → Has (a + n) fs → take n (drop a (operands_in (labels_in fs))) ≡ take n (drop a (top_operands fs))
take_below a n [] h = absurd h
take_below a n (fr ∷ below) h =
    let rest = operands_in (fr.outer ++ labels_in below) in
    ap (take n) (drop-append-le a fr.top.ops rest (omega (arith, h))) ∙ take-append-le n (drop a fr.top.ops) rest (omega (arith, h, length-drop a fr.top.ops))

-- so many of a list seen from its other end
below_is : {A : Type 0} (xs ys : List A) (len a n : ℕ) → len ≡ length xs → a + n ≤ length xs → ys ≡ take n (drop (len - a - n) xs) → ys ≡ reverse (take n (drop a (reverse xs)))
below_is xs ys len a n e h g =
    let low = len - a - n in
    let ws = take (low + n) xs in
    let size : low + n ≡ len - a = omega (arith, e, h) in
    let cut : reverse ws ≡ drop a (reverse xs) = reverse-cut xs ws a len e (omega (arith, h)) (ap (λ k. take k xs) size) in
    let count : length (reverse ws) - n ≡ low = omega (arith, length-reverse ws, length-take-le (low + n) xs (omega (arith, e, h))) in
    g ∙ (sym (drop-take low n xs) ∙ (sym (reverse-take n (reverse ws) ∙ (ap (drop (length (reverse ws) - n)) (reverse-reverse ws) ∙ ap (λ k. drop k ws) count)) ∙ ap (λ zs. reverse (take n zs)) cut))

module _ (xs ys : List Marked) (len a n : ℕ) (ss : List KeptLabel) (bs : List KeptFrame) (st : Standing) (kept : AreWellKept (reverse xs) ss bs) (is : standing (reverse xs) ss bs ≡ st) (has : Has (a + n) st.frames) where
  abbrev os : List Marked
  os = reverse xs

  mapped : {B : Type 0} (f : Marked → B) → ys ≡ reverse (take n (drop a os)) → map f ys ≡ reverse (take n (drop a (map f os)))
  mapped f e = ap (map f) e ∙ (map-reverse f (take n (drop a os)) ∙ ap reverse (sym (take-map f n (drop a os)) ∙ ap (take n) (sym (drop-map f a os))))

  pub are_below : len ≡ length xs → ys ≡ take n (drop (len - a - n) xs) → AreOperandsBelow a n ys st
  are_below size g =
      let within : a + n ≤ length xs = omega (arith, has_values (a + n) os ss bs st kept is has, length-reverse xs) in
      let e = below_is xs ys len a n size within g in
      record {
        values = mapped (λ (m : Marked). m.value) e ∙ ap reverse (ap (λ vs. take n (drop a vs)) (lying os ss bs st kept is).values ∙ take_below a n st.frames has);
        marks = mapped (λ (m : Marked). m.mark) e ∙ ap (λ (st : Standing). reverse (take n (drop a st.operands))) is;
      }
