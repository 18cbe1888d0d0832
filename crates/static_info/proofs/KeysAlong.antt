-- The keys of an object, compared with names one after another.
--     KeysLeft, key_follows, key_differs, keys_end      the next key, a key that differs, and the end
use Rattle.std.proofs.Common.{◌≡◌, ◌≢◌, ℕ, zero, suc, ◌+◌, ◌<◌, ◌≤◌, List, [], ◌∷◌, length, drop, get_or, map, Bool, true, false, ◌&&◌, not, Bor, refl, sym, ap, ◌∙◌, arith}
use Rattle.std.proofs.lemmas.List.{drop_more, drop_all, length-map}
use lib.Pointwise.{pointwise}
use lib.Dec.{eqb}
use Rattle.std.proofs.lemmas.Bool.{eqb-true, eqb-false}
use Rattle.static_info.specs.Shape.{same_names}

abbrev texts : List (Bor (List ℕ)) → List (List ℕ)
texts names = map (λ n. n.now) names

-- all keys are so exactly where those from here on are the names from here on
abbrev pub KeysLeft : (names : List (Bor (List ℕ))) (all rest : List (List ℕ)) (n : ℕ) → Type 0
KeysLeft names all rest n = same_names (texts names) all ≡ same_names (drop n (texts names)) rest

mapped_at : (names : List (Bor (List ℕ))) (n : ℕ) (d : Bor (List ℕ)) → n < length names → get_or (texts names) n [] ≡ (get_or names n d).now
mapped_at [] n d l = absurd (omega arith)
mapped_at (x ∷ xs) zero d l = refl
mapped_at (x ∷ xs) (suc n) d l = mapped_at xs n d (omega arith)

here : (names : List (Bor (List ℕ))) (n : ℕ) (d : Bor (List ℕ)) → n < length names → drop n (texts names) ≡ (get_or names n d).now ∷ drop (n + 1) (texts names)
here names n d l = drop_more (texts names) n [] (omega (arith, length-map names (λ (n : Bor (List ℕ)). n.now))) ∙ ap (λ x. x ∷ drop (n + 1) (texts names)) (mapped_at names n d l)

stays : (a b : Bool) → not a ≡ b → b ≡ false → a ≡ true
stays true b e f = refl
stays false b e f = cc

turns : (a b : Bool) → not a ≡ b → b ≡ true → a ≡ false
turns true b e f = cc
turns false b e f = refl

pub key_follows : (names : List (Bor (List ℕ))) (all rest : List (List ℕ)) (n : ℕ) (d : Bor (List ℕ)) (k s : List ℕ) (ks : List (List ℕ)) (r : Bool)
    → KeysLeft names all rest n → n < length names → rest ≡ k ∷ ks → s ≡ k → r ≡ not (pointwise eqb (get_or names n d).now s) → r ≡ false → KeysLeft names all ks (n + 1)
key_follows names all rest n d k s ks r left l is same e f =
    left ∙ ap (same_names (drop n (texts names))) is ∙ ap (λ xs. same_names xs (k ∷ ks)) (here names n d l)
    ∙ ap (λ b. b && same_names (drop (n + 1) (texts names)) ks) (ap (pointwise eqb (get_or names n d).now) (sym same) ∙ stays _ r (sym e) f)

pub key_differs : (names : List (Bor (List ℕ))) (all rest : List (List ℕ)) (n : ℕ) (d : Bor (List ℕ)) (k s : List ℕ) (ks : List (List ℕ)) (r : Bool)
    → KeysLeft names all rest n → n < length names → rest ≡ k ∷ ks → s ≡ k → r ≡ not (pointwise eqb (get_or names n d).now s) → r ≡ true → false ≡ same_names (texts names) all
key_differs names all rest n d k s ks r left l is same e f =
    sym (left ∙ ap (same_names (drop n (texts names))) is ∙ ap (λ xs. same_names xs (k ∷ ks)) (here names n d l)
    ∙ ap (λ b. b && same_names (drop (n + 1) (texts names)) ks) (ap (pointwise eqb (get_or names n d).now) (sym same) ∙ turns _ r (sym e) f))

pub keys_end : (names : List (Bor (List ℕ))) (all rest : List (List ℕ)) (n : ℕ) → KeysLeft names all rest n → n ≤ length names → rest ≡ [] → eqb n (length names) ≡ same_names (texts names) all
keys_end names all rest n left l is = by (eqb n (length names)) refl ∙ sym (left ∙ ap (same_names (drop n (texts names))) is)
  where
    count : length (texts names) ≡ length names
    count = length-map names (λ (n : Bor (List ℕ)). n.now)

    by : (b : Bool) → eqb n (length names) ≡ b → b ≡ same_names (drop n (texts names)) []
    by true e = let at_end : n ≡ length names = eqb-true n (length names) e in sym (ap (λ xs. same_names xs []) (drop_all n (texts names) (omega (arith, count))))
    by false e = let before : n ≢ length names = eqb-false n (length names) e in sym (ap (λ xs. same_names xs []) (drop_more (texts names) n [] (omega (arith, count))))
