-- Items without code, and those that never float.
use Rattle.std.proofs.Common.{◌≡◌, ℕ, List, [], ◌∷◌, refl, sym, ap, ◌∙◌}
use Rattle.std.specs.Prelude.{map, Bool, true, false, Option, cond, nat_lt}
use Rattle.module_ast.specs.Binary.{some_in}
use Rattle.wasm_decode.specs.Forms.{draft_items, ItemsStandFor}
use Rattle.wasm_decode.specs.Kinds.{flat}

cond_same : {A : Type 0} (b : Bool) (x : A) → cond b x x ≡ x
cond_same true x = refl
cond_same false x = refl

module _ {T G : Type 0} (floats : G → Bool) (view : T → G) (bound : ℕ) where
  drafted_same : (ys : List T) → map (draft_items (flat floats view) bound) ys ≡ ys
  drafted_same [] = refl
  drafted_same (y ∷ ys) = ap (λ v. v ∷ map (draft_items (flat floats view) bound) ys) (cond_same (nat_lt bound 0) y) ∙ ap (λ l. y ∷ l) (drafted_same ys)

  pub flat_items : (xs : List T) (deep : Option ℕ) (gs : List G) → ItemsStandFor (flat floats view) bound false xs deep gs → gs ≡ map view xs
  flat_items xs deep gs (ys, e, d, a) = e ∙ ap (map view) (sym (d ∙ drafted_same ys))

  pub all_items : (a : Bool) (xs : List T) (d : Option ℕ) (gs : List G) → ItemsStandFor (flat floats view) bound a xs d gs → a ≡ false → gs ≡ map view xs
  all_items true xs d gs p h = cc
  all_items false xs d gs p h = flat_items xs d gs p

none_floats : {G : Type 0} (gs : List G) → some_in (λ g. false) gs ≡ false
none_floats [] = refl
none_floats (g ∷ gs) = none_floats gs

-- items that never float are all there
pub plain_items : {T G : Type 0} (view : T → G) (bound : ℕ) (a : Bool) (xs : List T) (d : Option ℕ) (gs : List G) → ItemsStandFor (flat (λ g. false) view) bound a xs d gs → gs ≡ map view xs
plain_items view bound true xs d gs p = let h : true ≡ false = sym p ∙ none_floats gs in cc
plain_items view bound false xs d gs p = flat_items (λ g. false) view bound xs d gs p

pub map_same : {A : Type 0} (xs : List A) → map (λ x. x) xs ≡ xs
map_same [] = refl
map_same (x ∷ xs) = ap (λ l. x ∷ l) (map_same xs)
