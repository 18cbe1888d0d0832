-- Which keys a table of needed keys knows, and the table with further keys.
--     known_stays, knows_itself, knows_more      a key that is known changes nothing;  one that is needed is known, and stays so
--     wanted_each      keys that are not wanted are left out
--     few_more, few_each      the table grows by one for each key at most
use Rattle.std.proofs.Common.{◌≡◌, ◌+◌, ◌≤◌, List, [], ◌∷◌, ◌++◌, length, length-append, Bool, true, false, cond, filter, refl, sym, ap, subst, arith}
use Rattle.std.specs.Prelude.{is_some}
use Rattle.wasm_sem.specs.Types.{Hooks, HookKey}
use Rattle.hook_mono.specs.Keys.{is_wanted, find_key, with_key, with_keys}
use Rattle.hook_mono.proofs.Tables.{key_is_there, key_stays}
use Rattle.rewrite_needs.specs.Needing.{with_wanted, with_each_wanted}

-- ---- a key that the table knows: it is there, or it is not wanted

pub record IsKnown (hooks : Hooks) (table : List HookKey) (key : HookKey) : Type 0 where
  pub there : is_wanted hooks key ≡ true → is_some (find_key table key) ≡ true

pub known_stays : (hooks : Hooks) (table : List HookKey) (key : HookKey) → IsKnown hooks table key → with_wanted hooks table key ≡ table
known_stays hooks table key known = go (is_wanted hooks key) refl
  where
    go : (b : Bool) → is_wanted hooks key ≡ b → cond b (with_key table key) table ≡ table
    go true e = ap (λ b. cond b table (table ++ key ∷ [])) (known.there e)
    go false e = refl

pub knows_itself : (hooks : Hooks) (table : List HookKey) (key : HookKey) → IsKnown hooks (with_wanted hooks table key) key
knows_itself hooks table key = record { there = λ w. subst (λ b. is_some (find_key (cond b (with_key table key) table) key) ≡ true) (sym w) (key_is_there table key) }

pub knows_more : (hooks : Hooks) (table : List HookKey) (key other : HookKey) → IsKnown hooks table key → IsKnown hooks (with_wanted hooks table other) key
knows_more hooks table key other known = record { there = λ w. go (known.there w) (is_wanted hooks other) }
  where
    go : is_some (find_key table key) ≡ true → (b : Bool) → is_some (find_key (cond b (with_key table other) table) key) ≡ true
    go h true = key_stays table key other h
    go h false = h

-- ---- several keys

-- those that are not wanted are left out
pub wanted_each : (hooks : Hooks) (table more : List HookKey) → with_keys table (filter (is_wanted hooks) more) ≡ with_each_wanted hooks table more
wanted_each hooks table [] = refl
wanted_each hooks table (key ∷ more) = go (is_wanted hooks key) (λ t. wanted_each hooks t more)
  where
    go : (b : Bool) → ((table : List HookKey) → with_keys table (filter (is_wanted hooks) more) ≡ with_each_wanted hooks table more)
        → with_keys table (cond b (key ∷ filter (is_wanted hooks) more) (filter (is_wanted hooks) more)) ≡ with_each_wanted hooks (cond b (with_key table key) table) more
    go true again = again (with_key table key)
    go false again = again table

-- each adds one at most
pub few_more : (hooks : Hooks) (table : List HookKey) (key : HookKey) → length (with_wanted hooks table key) ≤ length table + 1
few_more hooks table key = go (is_wanted hooks key) (is_some (find_key table key))
  where
    go : (b c : Bool) → length (cond b (cond c table (table ++ key ∷ [])) table) ≤ length table + 1
    go true true = omega arith
    go true false = omega (arith, length-append table (key ∷ []))
    go false c = omega arith

pub few_each : (hooks : Hooks) (table more : List HookKey) → length (with_each_wanted hooks table more) ≤ length table + length more
few_each hooks table [] = omega arith
few_each hooks table (key ∷ more) = omega (arith, few_more hooks table key, few_each hooks (with_wanted hooks table key) more)
