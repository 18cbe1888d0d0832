-- An instruction that is watched needs the key and the temporaries of its row, and another what branches and calls need.
use Rattle.std.proofs.Common.{◌≡◌, ◌∙◌, ℕ, List, [], ◌∷◌, Bool, true, false, not, cond, Option, Some, None, refl, sym, ap}
use Rattle.wasm_sem.specs.Types.{Hooks, HookKey}
use Rattle.module_ast.specs.Structure.{Plain}
use Rattle.hook_mono.specs.Keys.{is_wanted, with_key}
use Rattle.hook_mono.specs.Needed.{Site, plain_keys}
use Rattle.rewrite_needs.specs.declared.watching.Telling.{Telling}
use Rattle.rewrite_needs.specs.declared.watching.Telling.TheVariants.{Dropped, Kept}
use Rattle.rewrite_needs.specs.declared.watching.Watch.{Watch}
use Rattle.rewrite_needs.specs.Watching.{telling, watch_by, watch_at, watch_key, watch_told, is_untold, or_none, kept_temps, watch_temps}
use Rattle.rewrite_needs.specs.Temporaries.{branch_temps, temps_by, plain_temps}
use Rattle.rewrite_needs.specs.Needing.{with_each_wanted, own_keys, keys_unless, branch_keys}
use Rattle.wasm_sem.proofs.Straight.{some_is, none_some}

-- ---- the parts of a row

pub has_key : (o : Option Watch) (key : HookKey) → watch_key o ≡ Some key → (x : Watch) × (o ≡ Some x) × (x.key ≡ key)
has_key None key e = absurd (none_some e)
has_key (Some x) key e = (x, refl, some_is e)

pub has_no_key : (o : Option Watch) → watch_key o ≡ None → o ≡ None
has_no_key None e = refl
has_no_key (Some x) e = absurd (cc)

pub has_told : (o : Option Watch) (t : Telling) → watch_told o ≡ Some t → (x : Watch) × (o ≡ Some x) × (x.told ≡ t)
has_told None t e = absurd (none_some e)
has_told (Some x) t e = (x, refl, some_is e)

pub has_nothing_told : (o : Option Watch) → watch_told o ≡ None → o ≡ None
has_nothing_told None e = refl
has_nothing_told (Some x) e = absurd (cc)

pub both_parts : (o : Option Watch) (key : HookKey) (t : Telling) → watch_key o ≡ Some key → watch_told o ≡ Some t → Some (let x : Watch = record { key = key; told = t } in x) ≡ o
both_parts None key t e f = absurd (none_some e)
both_parts (Some x) key t e f = ap (λ k. Some (let x : Watch = record { key = k; told = t } in x)) (sym (some_is e)) ∙ ap (λ t. Some (let y : Watch = record { key = x.key; told = t } in y)) (sym (some_is f))

-- ---- whether its hook is called

not_true : (b : Bool) → not b ≡ true → b ≡ false
not_true true e = absurd (cc)
not_true false e = refl

not_false : (b : Bool) → not b ≡ false → b ≡ true
not_false true e = refl
not_false false e = absurd (cc)

module _ (hooks : Hooks) where
  pub unwanted : (o : Option Watch) → is_untold hooks o ≡ true → (x : Watch) × (o ≡ Some x) × (is_wanted hooks x.key ≡ false)
  unwanted None e = absurd (cc)
  unwanted (Some x) e = (x, refl, not_true (is_wanted hooks x.key) e)

  pub wanted : (o : Option Watch) (x : Watch) → o ≡ Some x → is_untold hooks o ≡ false → is_wanted hooks x.key ≡ true
  wanted o x f e = not_false (is_wanted hooks x.key) (sym (ap (is_untold hooks) f) ∙ e)

-- without its hook there are no temporaries
kept_off : (told : Telling) → kept_temps false told ≡ []
kept_off (Dropped t) = refl
kept_off (Kept offset n types) = refl
kept_off told = refl

-- ---- keys and temporaries

one_key : (told : Option Telling) (keys : List HookKey) (x : Watch) → watch_by told keys ≡ Some x → keys ≡ x.key ∷ []
one_key None keys x e = absurd (none_some e)
one_key (Some told) (key ∷ []) x e = ap (λ (x : Watch). x.key ∷ []) (some_is e)
one_key (Some told) [] x e = absurd (none_some e)
one_key (Some told) (key ∷ more ∷ keys) x e = absurd (none_some e)

module _ (s : Site) (p : ℕ) where
  pub watched_keys : (o : Option Plain) (x : Watch) → watch_at s p o ≡ Some x → own_keys s p o ≡ x.key ∷ []
  watched_keys None x e = absurd (none_some e)
  watched_keys (Some i) x e = one_key (telling s p i) (plain_keys s [] p i) x e

  pub other_keys : (o : Option Plain) → watch_at s p o ≡ None → own_keys s p o ≡ branch_keys s p o
  other_keys None e = refl
  other_keys (Some i) e = ap (λ x. keys_unless x (plain_keys s [] p i)) (sym e)

  pub untold_keys : (hooks : Hooks) (table : List HookKey) (o : Option Plain) → is_untold hooks (watch_at s p o) ≡ true → with_each_wanted hooks table (own_keys s p o) ≡ table
  untold_keys hooks table o e =
      let u = unwanted hooks (watch_at s p o) e in
      ap (with_each_wanted hooks table) (watched_keys o u.0 u.1) ∙ ap (λ b. cond b (with_key table u.0.key) table) u.2

  module _ (hooks : Hooks) where
    pub watched_temps : (o : Option Plain) (x : Watch) → watch_at s p o ≡ Some x → or_none (plain_temps hooks s p) o ≡ watch_temps hooks x
    watched_temps None x e = absurd (none_some e)
    watched_temps (Some i) x e = ap (temps_by hooks s i) e

    pub other_temps : (o : Option Plain) → watch_at s p o ≡ None → or_none (plain_temps hooks s p) o ≡ or_none (branch_temps hooks s) o
    other_temps None e = refl
    other_temps (Some i) e = ap (temps_by hooks s i) e

    pub untold_temps : (o : Option Plain) → is_untold hooks (watch_at s p o) ≡ true → or_none (plain_temps hooks s p) o ≡ []
    untold_temps o e =
        let u = unwanted hooks (watch_at s p o) e in
        watched_temps o u.0 u.1 ∙ ap (λ b. kept_temps b u.0.told) u.2 ∙ kept_off u.0.told

    pub told_temps : (o : Option Plain) (t : Telling) → is_untold hooks (watch_at s p o) ≡ false → watch_told (watch_at s p o) ≡ Some t → or_none (plain_temps hooks s p) o ≡ kept_temps true t
    told_temps o t e f =
        let u = has_told (watch_at s p o) t f in
        watched_temps o u.0 u.1 ∙ ap (λ b. kept_temps b u.0.told) (wanted hooks (watch_at s p o) u.0 u.1 e) ∙ ap (kept_temps true) u.2
