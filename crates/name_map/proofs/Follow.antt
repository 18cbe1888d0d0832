-- The names of a function in an output.
use Rattle.std.proofs.Common.{◌≡◌, ℕ, ◌==◌, List, [], ◌∷◌, map, find, option_map, unwrap_or, Option, Some, None, Bool, true, false, cond, refl, sym, ap, ◌∙◌}
use Rattle.std.proofs.lemmas.Option.{none-some}
use Rattle.std.proofs.lemmas.Bool.{eq-eqb, ne_eqb, eqb-true, eqb-false}
use Rattle.index_remap.specs.declared.Remap.{Remap}
use Rattle.index_remap.specs.Remap.{map_index, unmap_index}
use Rattle.index_remap.proofs.Mapped.{unmapped}
use Rattle.name_map.specs.declared.Named.{Named}
use Rattle.name_map.specs.declared.Locals.{Locals}
use Rattle.name_map.specs.Names.{map_named, map_locals}
use Rattle.name_map.specs.Laws.{NamesFollow}

some_same : {A : Type 0} {x y : A} → Some x ≡ Some y → x ≡ y
some_same h = cc

-- two functions are one in the output where they are one
mapped_equal : (r : Remap) (a b : ℕ) → (map_index r a == map_index r b) ≡ (a == b)
mapped_equal r a b = go (a == b) refl
  where
    go : (c : Bool) → (a == b) ≡ c → (map_index r a == map_index r b) ≡ c
    go true e = eq-eqb (map_index r a) (map_index r b) (ap (map_index r) (eqb-true a b e))
    go false e = ne_eqb (map_index r a) (map_index r b) (λ same. eqb-false a b e (some_same (sym (unmapped r a) ∙ (ap (unmap_index r) same ∙ unmapped r b))))

-- no function is a hook in the output
no_hook : (r : Remap) (a h : ℕ) → unmap_index r h ≡ None → (map_index r a == h) ≡ false
no_hook r a h none = ne_eqb (map_index r a) h (λ same. none-some a (sym none ∙ (ap (unmap_index r) (sym same) ∙ unmapped r a)))

-- what is found of a function is what is found of it in the output, and nothing is found of a hook
module _ {A B : Type 0} (r : Remap) (index : A → ℕ) (moved : A → A) (view : A → B) (there : (x : A) → index (moved x) ≡ map_index r (index x)) (same : (x : A) → view (moved x) ≡ view x) where
  chosen : (x : A) (there_rest rest : Option A) (b c : Bool) → b ≡ c → option_map view there_rest ≡ option_map view rest
      → option_map view (cond b (Some (moved x)) there_rest) ≡ option_map view (cond c (Some x) rest)
  chosen x there_rest rest true true e more = ap Some (same x)
  chosen x there_rest rest false false e more = more
  chosen x there_rest rest true false e more = absurd cc
  chosen x there_rest rest false true e more = absurd cc

  pub found_follows : (f : ℕ) (xs : List A) → option_map view (find (λ x. index x == map_index r f) (map moved xs)) ≡ option_map view (find (λ x. index x == f) xs)
  found_follows f [] = refl
  found_follows f (x ∷ xs) =
      chosen x _ _ (index (moved x) == map_index r f) (index x == f) (ap (λ i. i == map_index r f) (there x) ∙ mapped_equal r (index x) f) (found_follows f xs)

  pub no_hook_found : (h : ℕ) (xs : List A) → unmap_index r h ≡ None → option_map view (find (λ x. index x == h) (map moved xs)) ≡ None
  no_hook_found h [] none = refl
  no_hook_found h (x ∷ xs) none =
      ap (λ b. option_map view (cond b (Some (moved x)) (find (λ y. index y == h) (map moved xs)))) (ap (λ i. i == h) (there x) ∙ no_hook r (index x) h none) ∙ no_hook_found h xs none

pub names_follow : NamesFollow
names_follow r names = record {
  functions = λ f. found_follows r (λ (n : Named). n.index) (map_named r) (λ (n : Named). n.name) (λ n. refl) (λ n. refl) f names.functions;
  locals = λ f. ap (λ o. unwrap_or o []) (found_follows r (λ (l : Locals). l.func) (map_locals r) (λ (l : Locals). l.names) (λ l. refl) (λ l. refl) f names.locals);
  whole = refl;
  hooks = λ h none. (
    no_hook_found r (λ (n : Named). n.index) (map_named r) (λ (n : Named). n.name) (λ n. refl) (λ n. refl) h names.functions none,
    ap (λ o. unwrap_or o []) (no_hook_found r (λ (l : Locals). l.func) (map_locals r) (λ (l : Locals). l.names) (λ l. refl) (λ l. refl) h names.locals none),
  );
}
