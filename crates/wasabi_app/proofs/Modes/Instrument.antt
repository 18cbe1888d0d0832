-- The plan of the mode `instrument`.
use Rattle.std.proofs.Common.{◌≡◌, ◌≢◌, ℕ, List, [], ◌∷◌, refl, ap, ◌∙◌, Bool, true, false, nat_le, ◌||◌, IfSome, All, Option}
use Rattle.std.proofs.lemmas.List.Elements.{All-nil, All-cons}
use Rattle.std.proofs.lemmas.Slice.Eq.{bytes_eq-Decides}
use Rattle.std.specs.List.{list_any}
use Rattle.outside_io.specs.Outside.{Contents}
use Rattle.wasm_sem.specs.Types.{Import, Module}
use Rattle.wasm_sem.specs.Execution.{IsFree, is_hook, hook_module}
use Rattle.wasabi_app.specs.Making.{named_length}
use Rattle.wasabi_app.specs.Selecting.{selected_by, names_kept}
use Rattle.wasabi_app.specs.Texts.{taken_text, too_large_text}
use Rattle.app_load.specs.Plans.{no_output, Effect, refuses, does, Plan, ends, refusing, LeadsTo, Ending}
use Rattle.wasabi_app.specs.Words.{Given}
use Rattle.wasabi_app.specs.Modes.Instrument.{names_hooks, output_effect, bounded, untaken, hooked, instrument_plan, target_of, instrument_mode}
use Rattle.app_load.proofs.Within.{Within, FeedsNone, mapped_within}
use Rattle.wasabi_app.proofs.Chosen.{found_within}

-- ---- when a module is given hooks

import_free : (i : Import) → is_hook i ≡ false → i.module.bytes ≢ hook_module
import_free i e same = let t : is_hook i ≡ true = (bytes_eq-Decides i.module.bytes hook_module).1 same in cc

imports_free : (imports : List Import) → list_any is_hook imports ≡ false → All (λ (i : Import). i.module.bytes ≢ hook_module) imports
imports_free [] e = All-nil (λ (i : Import). i.module.bytes ≢ hook_module)
imports_free (i ∷ imports) e = by (is_hook i) refl e (imports_free imports)
  where
    by : (b : Bool) → is_hook i ≡ b → (b || list_any is_hook imports) ≡ false
        → (list_any is_hook imports ≡ false → All (λ (j : Import). j.module.bytes ≢ hook_module) imports)
        → All (λ (j : Import). j.module.bytes ≢ hook_module) (i ∷ imports)
    by true h k rest = cc
    by false h k rest = All-cons (λ (j : Import). j.module.bytes ≢ hook_module) i imports (import_free i h) (rest k)

pub names_none : (m : Module) → names_hooks m ≡ false → IsFree m
names_none m e = imports_free m.imports e

bounded_leads : (held : Option Contents) (within : Bool) (long : ℕ) (plan : Plan) (e : Effect) → LeadsTo held (bounded within long plan) (does e)
    → (within ≡ true) × LeadsTo held plan (does e)
bounded_leads held true long plan e k = (refl, k)
bounded_leads held false long plan e k = cc

untaken_leads : (held : Option Contents) (names : Bool) (subject : List ℕ) (plan : Plan) (e : Effect) → LeadsTo held (untaken names subject plan) (does e)
    → (names ≡ false) × LeadsTo held plan (does e)
untaken_leads held true subject plan e k = cc
untaken_leads held false subject plan e k = (refl, k)

pub hooked_leads : (held : Option Contents) (subject : List ℕ) (m : Module) (long bound : ℕ) (plan : Plan) (e : Effect)
    → LeadsTo held (hooked subject m long bound plan) (does e) → IsFree m × (nat_le long bound ≡ true) × LeadsTo held plan (does e)
hooked_leads held subject m long bound plan e k =
    let free = untaken_leads held (names_hooks m) subject (bounded (nat_le long bound) long plan) e k in
    let short = bounded_leads held (nat_le long bound) long plan e free.1 in
    (names_none m free.0, short.0, short.1)

pub hooked_taken : (subject : List ℕ) (m : Module) (long bound : ℕ) (plan : Plan) → names_hooks m ≡ true
    → hooked subject m long bound plan ≡ refusing no_output (taken_text subject)
hooked_taken subject m long bound plan e = ap (λ b. untaken b subject (bounded (nat_le long bound) long plan)) e

pub hooked_large : (subject : List ℕ) (m : Module) (long bound : ℕ) (plan : Plan) → names_hooks m ≡ false → nat_le long bound ≡ false
    → hooked subject m long bound plan ≡ refusing no_output (too_large_text long)
hooked_large subject m long bound plan e f =
    ap (λ b. untaken b subject (bounded (nat_le long bound) long plan)) e ∙ ap (λ b. bounded b long plan) f

pub hooked_well : (subject : List ℕ) (m : Module) (long bound : ℕ) (plan : Plan) → names_hooks m ≡ false → nat_le long bound ≡ true
    → hooked subject m long bound plan ≡ plan
hooked_well subject m long bound plan e f =
    ap (λ b. untaken b subject (bounded (nat_le long bound) long plan)) e ∙ ap (λ b. bounded b long plan) f

-- ---- the analyses take nothing

pub hooked_within : (P : Ending → Type 0) (subject : List ℕ) (m : Module) (long bound : ℕ) (plan : Plan)
    → ((text : List ℕ) → P (refuses no_output text)) → Within P plan → Within P (hooked subject m long bound plan)
hooked_within P subject m long bound plan refused within = by (names_hooks m) (nat_le long bound)
  where
    by : (names is_within : Bool) → Within P (untaken names subject (bounded is_within long plan))
    by true is_within = refused (taken_text subject)
    by false true = within
    by false false = refused (too_large_text long)

pub instrument_feeds_none : (g : Given) → IfSome (instrument_mode.plan g) (Within FeedsNone)
instrument_feeds_none g =
    mapped_within FeedsNone (instrument_plan g) (target_of g)
    (λ target named. found_within FeedsNone (selected_by g.hooks g.functions g.except named.0 named.1) _ (λ text. tt)
    (λ hooks. hooked_within FeedsNone g.subject named.0 (named_length named.0 hooks (names_kept g.keeps named.1)) g.bound
    (ends (does (output_effect g target named.0 hooks (names_kept g.keeps named.1)))) (λ text. tt) refl))
