-- One item more.
use Rattle.std.proofs.Common.{◌≡◌, ℕ, ◌<◌, ◌≤◌, List, [], ◌∷◌, ◌++◌, refl, sym, ap, ◌∙◌, arith}
use Rattle.std.specs.Prelude.{map, Bool, true, false, Option, Some, None, cond, nat_lt}
use Rattle.std.proofs.lemmas.Bool.{le-ltb, lt-ltb}
use Rattle.std.proofs.lemmas.List.{map-append}
use Rattle.code_decode.proofs.Stand.{some_more, some_last}
use Rattle.wasm_decode.specs.Forms.{Form, draft_items, first_above, first_of, ItemsStandFor}

-- ---- the first number above a bound, with one number more behind

abbrev above_by : ℕ → Option ℕ → Bool → Option ℕ
above_by n rest b = cond b (Some n) rest

choice_within : (b : Bool) (n : ℕ) (r s : Option ℕ) → r ≡ s → cond b (Some n) r ≡ cond b (Some n) s
choice_within true n r s h = refl
choice_within false n r s h = h

first_within : (bound : ℕ) (ns : List ℕ) (n : ℕ) → n ≤ bound → first_above bound (ns ++ n ∷ []) ≡ first_above bound ns
first_within bound [] n h = ap (above_by n None) (le-ltb bound n h)
first_within bound (k ∷ ks) n h = choice_within (nat_lt bound k) k (first_above bound (ks ++ n ∷ [])) (first_above bound ks) (first_within bound ks n h)

choice_above : (b : Bool) (n found : ℕ) (r s : Option ℕ) → r ≡ first_of s found → cond b (Some n) r ≡ first_of (cond b (Some n) s) found
choice_above true n found r s h = refl
choice_above false n found r s h = h

first_beyond : (bound : ℕ) (ns : List ℕ) (n : ℕ) → bound < n → first_above bound (ns ++ n ∷ []) ≡ first_of (first_above bound ns) n
first_beyond bound [] n h = ap (above_by n None) (lt-ltb bound n h)
first_beyond bound (k ∷ ks) n h = choice_above (nat_lt bound k) k n (first_above bound (ks ++ n ∷ [])) (first_above bound ks) (first_beyond bound ks n h)

-- ---- an item more

module _ {T G : Type 0} (f : Form T G) (bound : ℕ) where
  abbrev draft_by : T → Bool → T
  draft_by x b = cond b (f.blank x) x

  drafted_whole : (x : T) → f.nests x ≤ bound → draft_items f bound x ≡ x
  drafted_whole x h = ap (draft_by x) (le-ltb bound (f.nests x) h)

  drafted_deep : (x : T) → bound < f.nests x → draft_items f bound x ≡ f.blank x
  drafted_deep x h = ap (draft_by x) (lt-ltb bound (f.nests x) h)

  -- of what was read
  more : (xs : List T) (x y : T) (deep : Option ℕ) (gs : List G) (g : G) (deeper : Option ℕ) → ItemsStandFor f bound false xs deep gs → g ≡ f.view y → x ≡ draft_items f bound y → ((ys : List T) → deep ≡ first_above bound (map f.nests ys) → deeper ≡ first_above bound (map f.nests ys ++ f.nests y ∷ [])) → ItemsStandFor f bound false (xs ++ x ∷ []) deeper (gs ++ g ∷ [])
  more xs x y deep gs g deeper (ys, e, d, a) h k j = (
    ys ++ y ∷ [],
    ap (λ l. l ++ g ∷ []) e ∙ ap (λ v. map f.view ys ++ v ∷ []) h ∙ sym (map-append f.view ys (y ∷ [])),
    ap (λ l. l ++ x ∷ []) d ∙ ap (λ v. map (draft_items f bound) ys ++ v ∷ []) k ∙ sym (map-append (draft_items f bound) ys (y ∷ [])),
    j ys a ∙ ap (first_above bound) (sym (map-append f.nests ys (y ∷ []))),
  )

  pub stand_push : (floats : Bool) (xs : List T) (x : T) (deep : Option ℕ) (gs : List G) (g : G) → ItemsStandFor f bound floats xs deep gs → g ≡ f.view x → f.nests x ≤ bound → ItemsStandFor f bound floats (xs ++ x ∷ []) deep (gs ++ g ∷ [])
  stand_push true xs x deep gs g h e l = some_more f.floats gs g h
  stand_push false xs x deep gs g h e l =
      more xs x x deep gs g deep h e (sym (drafted_whole x l)) (λ ys a. a ∙ sym (first_within bound (map f.nests ys) (f.nests x) l))

  pub stand_deep : (floats : Bool) (xs : List T) (x y : T) (deep : Option ℕ) (found : ℕ) (gs : List G) (g : G) → ItemsStandFor f bound floats xs deep gs → g ≡ f.view y → x ≡ f.blank y → found ≡ f.nests y → bound < found → ItemsStandFor f bound floats (xs ++ x ∷ []) (first_of deep found) (gs ++ g ∷ [])
  stand_deep true xs x y deep found gs g h e k n l = some_more f.floats gs g h
  stand_deep false xs x y deep found gs g h e k n l =
      let l2 : bound < f.nests y = omega (arith, n, l) in
      more xs x y deep gs g (first_of deep found) h e (k ∙ sym (drafted_deep y l2)) (λ ys a. ap (λ d. first_of d found) a ∙ ap (λ m. first_of (first_above bound (map f.nests ys)) m) n ∙ sym (first_beyond bound (map f.nests ys) (f.nests y) l2))

  pub stand_float : (xs : List T) (deep : Option ℕ) (gs : List G) (g : G) → f.floats g ≡ true → ItemsStandFor f bound true xs deep (gs ++ g ∷ [])
  stand_float xs deep gs g h = some_last f.floats gs g h
