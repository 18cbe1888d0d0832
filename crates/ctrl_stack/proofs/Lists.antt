-- Lists seen from their other end.
use Rattle.std.proofs.Common.{◌≡◌, ℕ, ◌+◌, ◌-◌, ◌<◌, ◌≤◌, List, [], ◌∷◌, ◌++◌, length, take, drop, get_or, set, sym, ap, ◌∙◌, arith}
use Rattle.std.specs.Prelude.{reverse}
use Rattle.std.proofs.lemmas.List.{reverse-append, length-reverse, length-drop, take-append-drop, drop_at, drop_more, get_or-reverse, take_more, take_all, set_at, length-take-le}

pub reverse-take : {A : Type 0} (n : ℕ) (xs : List A) → reverse (take n xs) ≡ drop (length (reverse xs) - n) (reverse xs)
reverse-take n xs =
    let split : reverse xs ≡ reverse (drop n xs) ++ reverse (take n xs) = ap reverse (sym (take-append-drop n xs)) ∙ reverse-append (take n xs) (drop n xs) in
    let size : length (reverse (drop n xs)) ≡ length (reverse xs) - n = length-reverse (drop n xs) ∙ length-drop n xs ∙ ap (λ k. k - n) (sym (length-reverse xs)) in
    sym (ap (drop (length (reverse xs) - n)) split ∙ drop_at (reverse (drop n xs)) (reverse (take n xs)) (length (reverse xs) - n) size)

pub length-lowest : {A : Type 0} (n : ℕ) (xs : List A) → n ≤ length xs → length (drop (length xs - n) xs) ≡ n
length-lowest n xs h = length-drop (length xs - n) xs ∙ omega arith

-- the topmost of the lowest n, and the others
pub drop-lowest : {A : Type 0} (n : ℕ) (xs : List A) (x : A) → 0 < n → n ≤ length xs → x ≡ get_or xs (n - 1) x →
    drop (length (reverse xs) - n) (reverse xs) ≡ x ∷ drop (length (reverse xs) - (n - 1)) (reverse xs)
drop-lowest n xs x p h e =
    let size : length (reverse xs) ≡ length xs = length-reverse xs in
    let i : length (reverse xs) - n < length xs = omega (arith, size) in
    let j : length (reverse xs) - n < length (reverse xs) = omega (arith, size) in
    let at : length xs - 1 - (length (reverse xs) - n) ≡ n - 1 = omega (arith, size) in
    let next : length (reverse xs) - n + 1 ≡ length (reverse xs) - (n - 1) = omega (arith, size) in
    drop_more (reverse xs) (length (reverse xs) - n) x j
    ∙ ap (λ y. y ∷ drop (length (reverse xs) - n + 1) (reverse xs)) (get_or-reverse xs (length (reverse xs) - n) x i ∙ ap (λ k. get_or xs k x) at ∙ sym e)
    ∙ ap (λ k. x ∷ drop k (reverse xs)) next

pub drop-none : {A : Type 0} (xs : List A) → drop (length xs - length xs) xs ≡ xs
drop-none xs = let e : length xs - length xs ≡ 0 = omega arith in ap (λ k. drop k xs) e

pub reverse-last : {A : Type 0} (xs : List A) (n : ℕ) (d : A) → n + 1 ≡ length xs → reverse xs ≡ get_or xs n d ∷ reverse (take n xs)
reverse-last xs n d e =
    let h : n < length xs = omega arith in
    ap reverse (sym (ap (λ k. take k xs) e ∙ take_all (length xs) xs (omega arith)) ∙ take_more xs n d h) ∙ reverse-append (take n xs) (get_or xs n d ∷ [])

pub reverse-set : {A : Type 0} (xs : List A) (n : ℕ) (v d : A) → n + 1 ≡ length xs → reverse (set xs n v) ≡ v ∷ reverse (take n xs)
reverse-set xs n v d e =
    let h : n < length xs = omega arith in
    let k : n ≤ length xs = omega arith in
    ap (λ ys. reverse (set ys n v)) (sym (ap (λ j. take j xs) e ∙ take_all (length xs) xs (omega arith)) ∙ take_more xs n d h)
    ∙ ap reverse (set_at (take n xs) (get_or xs n d) [] v n (length-take-le n xs k)) ∙ reverse-append (take n xs) (v ∷ [])
