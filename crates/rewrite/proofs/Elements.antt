-- What holds of the elements of a list, and of those of two lists, place by place.
use Rattle.std.proofs.Common.{ℕ, zero, suc, None, slice_get, List, [], ◌∷◌, ◌++◌, length, take, drop, sym, subst}
use Rattle.std.specs.List.{AllByRecursion, AllZip}
use Rattle.std.proofs.lemmas.List.{take-append-drop}
use Rattle.wasm_sem.specs.Types.{FuncType}
use Rattle.module_ast.specs.Places.{func_type_or}
use Rattle.module_ast.proofs.Each.{all_first, all_second}

-- of the first ones, and of those after them
pub all_cut : {A : Type 0} (P : A → Type 0) (n : ℕ) (xs : List A) → AllByRecursion P xs → AllByRecursion P (take n xs) × AllByRecursion P (drop n xs)
all_cut P n xs h =
    let all = subst (AllByRecursion P) (sym (take-append-drop n xs)) h in
    (all_first P (take n xs) (drop n xs) all, all_second P (take n xs) (drop n xs) all)

-- of the type at a place, and of the one where there is none
pub all_types : (P : FuncType → Type 0) (ts : List FuncType) (i : ℕ) → P (func_type_or None) → AllByRecursion P ts → P (func_type_or (slice_get ts i))
all_types P [] i n h = n
all_types P (t ∷ ts) zero n h = h.0
all_types P (t ∷ ts) (suc i) n h = all_types P ts i n h.1

module _ {A B : Type 0} (R : A → B → Type 0) where
  -- of lists in two parts
  pub zip_both : (xs us : List A) (ys vs : List B) → AllZip R xs ys → AllZip R us vs → AllZip R (xs ++ us) (ys ++ vs)
  zip_both [] us [] vs h k = k
  zip_both (x ∷ xs) us (y ∷ ys) vs h k = (h.0, zip_both xs us ys vs h.1 k)
  zip_both [] us (y ∷ ys) vs h k = absurd h
  zip_both (x ∷ xs) us [] vs h k = absurd h

  pub zip_front : (xs us : List A) (ys : List B) → AllZip R (xs ++ us) ys → AllZip R xs (take (length xs) ys)
  zip_front [] us ys h = tt
  zip_front (x ∷ xs) us (y ∷ ys) h = (h.0, zip_front xs us ys h.1)
  zip_front (x ∷ xs) us [] h = absurd h

  pub zip_back : (xs us : List A) (ys : List B) → AllZip R (xs ++ us) ys → AllZip R us (drop (length xs) ys)
  zip_back [] us ys h = h
  zip_back (x ∷ xs) us (y ∷ ys) h = zip_back xs us ys h.1
  zip_back (x ∷ xs) us [] h = absurd h

  -- of lists that it is carried along
  pub zip_fold : (Q : List A → List B → Type 0) → Q [] [] → ((x : A) (xs : List A) (y : B) (ys : List B) → R x y → AllZip R xs ys → Q xs ys → Q (x ∷ xs) (y ∷ ys))
      → (xs : List A) (ys : List B) → AllZip R xs ys → Q xs ys
  zip_fold Q none step [] [] h = none
  zip_fold Q none step (x ∷ xs) (y ∷ ys) h = step x xs y ys h.0 h.1 (zip_fold Q none step xs ys h.1)
  zip_fold Q none step [] (y ∷ ys) h = absurd h
  zip_fold Q none step (x ∷ xs) [] h = absurd h
