-- What a list of distinct keys has, and lists that are joined.
--     found_behind, found_before      a key in a longer list
--     key_is_there, key_stays, keys_stay      a key that was put in is there, and stays
--     joined_keys      keys put in one by one, and first made distinct
--     needs_join      the keys of all bodies, joined, are the module's
use Rattle.std.proofs.Common.{◌≡◌, ℕ, suc, ◌+◌, ◌<◌, List, [], ◌∷◌, ◌++◌, length, Some, None, Bool, true, false, cond, not, fold, map, flat_map, nat_lt, refl, sym, ap, ◌∙◌, subst, arith}
use Rattle.std.specs.Prelude.{is_some}
use Rattle.std.specs.List.{position_or_len, position}
use Rattle.std.proofs.lemmas.Bool.Decides.{nat_tests}
use Rattle.std.proofs.lemmas.List.Sums.{fold-append}
use Rattle.module_ast.specs.declared.module.Module.{Module}
use Rattle.hook_select.specs.Selections.{Selection}
use Rattle.hook_mono.specs.declared.HookKey.{HookKey}
use Rattle.hook_mono.specs.Keys.{key_eq, find_key, with_key, with_keys}
use Rattle.hook_mono.specs.Needed.{Site, sites, wanted_by, needs_by, NeedsJoin}
use Rattle.hook_mono.proofs.KeyNumbers.{key_itself, same_keys}

-- ---- what is found

module _ (p : HookKey → Bool) where
  stands_behind : (xs : List HookKey) (y : HookKey) → p y ≡ true → position_or_len p (xs ++ y ∷ []) < length (xs ++ y ∷ [])
  stands_behind [] y h = go (p y) h
    where
      go : (b : Bool) → b ≡ true → cond (not b) (1 + 0) 0 < 1
      go true e = omega arith
      go false e = cc
  stands_behind (x ∷ xs) y h = go (p x) (stands_behind xs y h)
    where
      go : (b : Bool) → position_or_len p (xs ++ y ∷ []) < length (xs ++ y ∷ []) → cond (not b) (1 + position_or_len p (xs ++ y ∷ [])) 0 < suc (length (xs ++ y ∷ []))
      go true l = omega arith
      go false l = omega arith

  stands_before : (xs ys : List HookKey) → position_or_len p xs < length xs → position_or_len p (xs ++ ys) < length (xs ++ ys)
  stands_before [] ys h = absurd (omega arith)
  stands_before (x ∷ xs) ys h = go (p x) h (stands_before xs ys)
    where
      go : (b : Bool) → cond (not b) (1 + position_or_len p xs) 0 < suc (length xs) → (position_or_len p xs < length xs → position_or_len p (xs ++ ys) < length (xs ++ ys))
          → cond (not b) (1 + position_or_len p (xs ++ ys)) 0 < suc (length (xs ++ ys))
      go true l more = omega arith
      go false l more = omega (arith, more (omega arith))

  is_below : (a b : ℕ) → is_some (cond (nat_lt a b) (Some a) None) ≡ true → a < b
  is_below a b h = grind (arith, nat_tests)

  is_found : (a b : ℕ) → a < b → is_some (cond (nat_lt a b) (Some a) None) ≡ true
  is_found a b h = grind (arith, nat_tests)

  pub found_behind : (xs : List HookKey) (y : HookKey) → p y ≡ true → is_some (position p (xs ++ y ∷ [])) ≡ true
  found_behind xs y h = is_found _ _ (stands_behind xs y h)

  pub found_before : (xs ys : List HookKey) → is_some (position p xs) ≡ true → is_some (position p (xs ++ ys)) ≡ true
  found_before xs ys h = is_found _ _ (stands_before xs ys (is_below _ _ h))

  -- in front, or further on
  found_further : (x : HookKey) (xs : List HookKey) → p x ≡ false → is_some (position p (x ∷ xs)) ≡ true → is_some (position p xs) ≡ true
  found_further x xs e h =
      let len : position_or_len p (x ∷ xs) ≡ 1 + position_or_len p xs = ap (λ b. cond (not b) (1 + position_or_len p xs) 0) e in
      is_found _ _ (let l = is_below _ _ h in omega (arith, len))

-- ---- a key that was put in

pub key_is_there : (table : List HookKey) (key : HookKey) → is_some (find_key (with_key table key) key) ≡ true
key_is_there table key = go (is_some (find_key table key)) refl
  where
    go : (b : Bool) → is_some (find_key table key) ≡ b → is_some (find_key (cond b table (table ++ key ∷ [])) key) ≡ true
    go true e = e
    go false e = found_behind (key_eq key) table key (key_itself key)

pub key_stays : (table : List HookKey) (key other : HookKey) → is_some (find_key table key) ≡ true → is_some (find_key (with_key table other) key) ≡ true
key_stays table key other h = go (is_some (find_key table other))
  where
    go : (b : Bool) → is_some (find_key (cond b table (table ++ other ∷ [])) key) ≡ true
    go true = h
    go false = found_before (key_eq key) table (other ∷ []) h

keys_stay : (table more : List HookKey) (key : HookKey) → is_some (find_key table key) ≡ true → is_some (find_key (with_keys table more) key) ≡ true
keys_stay table [] key h = h
keys_stay table (other ∷ more) key h = keys_stay (with_key table other) more key (key_stays table key other h)

-- one of several that were put in
one_is_there : (table more : List HookKey) (key : HookKey) → is_some (find_key more key) ≡ true → is_some (find_key (with_keys table more) key) ≡ true
one_is_there table [] key h = absurd (none_found h)
  where
    none_found : is_some (find_key [] key) ≡ true → ⊥
    none_found e = cc
one_is_there table (other ∷ more) key h = go (key_eq key other) refl (one_is_there (with_key table other) more key)
  where
    go : (b : Bool) → key_eq key other ≡ b → (is_some (find_key more key) ≡ true → is_some (find_key (with_keys (with_key table other) more) key) ≡ true)
        → is_some (find_key (with_keys (with_key table other) more) key) ≡ true
    go true e again =
        let same : key ≡ other = same_keys key other e in
        keys_stay (with_key table other) more key (subst (λ k. is_some (find_key (with_key table k) key) ≡ true) same (key_is_there table key))
    go false e again = again (found_further (key_eq key) other more e h)

-- ---- lists that are joined

one_joined : (table more : List HookKey) (key : HookKey) → with_keys table (with_key more key) ≡ with_key (with_keys table more) key
one_joined table more key = go (is_some (find_key more key)) refl
  where
    go : (b : Bool) → is_some (find_key more key) ≡ b → with_keys table (cond b more (more ++ key ∷ [])) ≡ with_key (with_keys table more) key
    go true e = sym (ap (λ b. cond b (with_keys table more) (with_keys table more ++ key ∷ [])) (one_is_there table more key e))
    go false e = fold-append with_key table more (key ∷ [])

pub joined_keys : (table more keys : List HookKey) → with_keys table (with_keys more keys) ≡ with_keys (with_keys table more) keys
joined_keys table more [] = refl
joined_keys table more (key ∷ keys) = joined_keys table (with_key more key) keys ∙ ap (λ t. with_keys t keys) (one_joined table more key)

bodies_join : (hooks : Selection) (table : List HookKey) (ss : List Site) → fold with_keys table (map (needs_by hooks) ss) ≡ with_keys table (flat_map (wanted_by hooks) ss)
bodies_join hooks table [] = refl
bodies_join hooks table (s ∷ ss) =
    ap (λ t. fold with_keys t (map (needs_by hooks) ss)) (joined_keys table [] (wanted_by hooks s))
    ∙ bodies_join hooks (with_keys table (wanted_by hooks s)) ss
    ∙ sym (fold-append with_key table (wanted_by hooks s) (flat_map (wanted_by hooks) ss))

pub needs_join : (m : Module) (hooks : Selection) → NeedsJoin m hooks
needs_join m hooks = bodies_join hooks [] (sites m)
