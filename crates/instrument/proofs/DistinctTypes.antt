-- Types of hooks, found by their number of parameters.
use Rattle.std.proofs.Common.{◌≡◌, ℕ, ◌+◌, ◌<◌, List, [], ◌∷◌, ◌++◌, length, map, take, get_or, Some, None, Bool, true, false, cond, not, ◌==◌, nat_lt, if◌then◌else◌, position, is_some, refl, sym, ap, ap₂, ◌∙◌}
use Rattle.std.specs.List.{list_any, position_or_len}
use Rattle.std.proofs.lemmas.List.{length-map, map_more, map_push}
use Rattle.std.proofs.lemmas.List.Sums.{fold-append}
use Rattle.wasm_sem.specs.Types.{FuncType, HookKey}
use Rattle.hook_mono.specs.Words.{hook_type}
use Rattle.hook_mono.proofs.Places.{some_place}
use Rattle.instrument.specs.Output.{find_type, with_type, distinct_types}

-- ---- the first place that passes, in a mapped list

module _ {A B : Type 0} (f : A → B) (p : B → Bool) where
  mapped_place : (xs : List A) → position_or_len p (map f xs) ≡ position_or_len (λ (x : A). p (f x)) xs
  mapped_place [] = refl
  mapped_place (x ∷ xs) = ap (λ n. cond (not (p (f x))) (1 + n) 0) (mapped_place xs)

  pub mapped_position : (xs : List A) → position p (map f xs) ≡ position (λ (x : A). p (f x)) xs
  mapped_position xs = ap₂ (λ a b. cond (nat_lt a b) (Some a) None) (mapped_place xs) (length-map xs f)

-- ---- types by their numbers of parameters

abbrev pub width : FuncType → ℕ
width t = length t.params

pub type_by_width : (types : List FuncType) (widths : List ℕ) (t : FuncType) → widths ≡ map width types → position (λ n. width t == n) widths ≡ find_type types t
type_by_width types widths t e = ap (position (λ n. width t == n)) e ∙ mapped_position width (λ n. width t == n) types

-- whether one has as many
any_width : (types : List FuncType) (widths : List ℕ) (t : FuncType) → widths ≡ map width types → list_any (λ n. width t == n) widths ≡ is_some (find_type types t)
any_width types widths t e = sym (some_place (λ n. width t == n) widths) ∙ ap is_some (type_by_width types widths t e)

-- types and widths with one more type
pub record HasType (types : List FuncType) (t : FuncType) (new_types : List FuncType) (new_widths : List ℕ) : Type 0 where
  pub types_are : new_types ≡ with_type types t
  pub widths_are : new_widths ≡ map width new_types

pub type_added : (types new_types : List FuncType) (widths new_widths : List ℕ) (t : FuncType) (is_new : Bool) → widths ≡ map width types
    → is_new ≡ not (list_any (λ n. width t == n) widths) → new_widths ≡ (if list_any (λ n. width t == n) widths then widths else widths ++ width t ∷ [])
    → (is_new ≡ true → new_types ≡ types ++ t ∷ []) → (is_new ≡ false → new_types ≡ types) → HasType types t new_types new_widths
type_added types new_types widths new_widths t is_new e new next there gone = go (list_any (λ n. width t == n) widths) refl
  where
    go : (b : Bool) → list_any (λ n. width t == n) widths ≡ b → HasType types t new_types new_widths
    go true h =
        let same : new_types ≡ types = gone (new ∙ ap not h) in
        let found : is_some (find_type types t) ≡ true = sym (any_width types widths t e) ∙ h in
        record {
          types_are = same ∙ sym (ap (λ b. cond b types (types ++ t ∷ [])) found);
          widths_are = next ∙ ap (λ b. (if b then widths else widths ++ width t ∷ [])) h ∙ e ∙ sym (ap (map width) same);
        }
    go false h =
        let same : new_types ≡ types ++ t ∷ [] = there (new ∙ ap not h) in
        let found : is_some (find_type types t) ≡ false = sym (any_width types widths t e) ∙ h in
        record {
          types_are = same ∙ sym (ap (λ b. cond b types (types ++ t ∷ [])) found);
          widths_are = next ∙ ap (λ b. (if b then widths else widths ++ width t ∷ [])) h ∙ ap (λ ns. ns ++ width t ∷ []) e ∙ sym (ap (map width) same ∙ map_push width types t);
        }

-- the types of one key more
pub types_next : (keys : List HookKey) (i : ℕ) (key : HookKey) → i < length keys → key ≡ get_or keys i key
    → distinct_types (map hook_type (take (i + 1) keys)) ≡ with_type (distinct_types (map hook_type (take i keys))) (hook_type key)
types_next keys i key l e =
    ap distinct_types (map_more hook_type keys i key l)
    ∙ fold-append with_type [] (map hook_type (take i keys)) (hook_type (get_or keys i key) ∷ [])
    ∙ ap (λ k. with_type (distinct_types (map hook_type (take i keys))) (hook_type k)) (sym e)
