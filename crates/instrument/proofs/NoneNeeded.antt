-- Where no group is selected, no key is needed, and no temporary.
use Rattle.std.proofs.Common.{◌≡◌, ℕ, ℤ, nat_abs, List, [], ◌∷◌, ◌++◌, Bool, true, false, refl, ap, ap₂, filter, flat_map, cond, ◌∙◌}
use Rattle.wasm_num.specs.declared.BlockKind.TheVariants as kinds
use Rattle.wasm_num.specs.Shapes.{num_operands, num_result}
use Rattle.module_ast.specs.Lists.{when}
use Rattle.module_ast.specs.Places.{Place, Opcode, acts, opens, closes, places}
use Rattle.module_ast.specs.Structure.{Plain, num}
use Rattle.wasm_sem.specs.Types.{ValType, BlockKind, Module, GroupName, Selection, HookKey}
use Rattle.hook_select.specs.declared.GroupName.TheVariants as groups
use Rattle.hook_select.specs.Groups.{has}
use Rattle.hook_select.specs.Selections.{no_hooks, covers, hooks_at}
use Rattle.hook_select.proofs.Sets.{has_test}
use Rattle.hook_mono.specs.declared.HookKey.TheVariants as keys
use Rattle.hook_mono.specs.Keys.{is_wanted, key_group, num_group, distinct_keys}
use Rattle.hook_mono.specs.Needed.{Site, sites, live_keys, wanted_keys, wanted_by, needed_keys}
use Rattle.rewrite_needs.specs.Temporaries.{plain_temps, open_temps, close_temps, opcode_temps, place_temps, body_temps}

none_has : (g : GroupName) → has no_hooks g ≡ false
none_has g = has_test (λ g. false) g

pub none_wanted : (key : HookKey) → is_wanted no_hooks key ≡ false
none_wanted (keys.Plain groups.BrTable) = refl
none_wanted (keys.Plain g) = none_has g
none_wanted key = none_has (key_group key)

none_left : (keys : List HookKey) → filter (is_wanted no_hooks) keys ≡ []
none_left [] = refl
none_left (key ∷ keys) = search (none_wanted key, none_left keys)

-- no function has hooks
abbrev pub IsEmpty : Selection → Type 0
IsEmpty hooks = (f : ℕ) → hooks_at hooks f ≡ no_hooks

-- so it is where no group is selected
pub none_is_empty : (hooks : Selection) → hooks.groups ≡ no_hooks → IsEmpty hooks
none_is_empty hooks none f = by (covers hooks.functions f)
  where
    by : (b : Bool) → cond b hooks.groups no_hooks ≡ no_hooks
    by true = none
    by false = refl

none_of : (hooks : Selection) → IsEmpty hooks → (ss : List Site) → flat_map (wanted_by hooks) ss ≡ []
none_of hooks empty [] = refl
none_of hooks empty (s ∷ ss) =
    ap₂ (λ (l r : List HookKey). l ++ r) (ap (λ h. wanted_keys h s) (empty s.func) ∙ none_left (flat_map (live_keys s) (places s.body.code))) (none_of hooks empty ss)

pub none_needed : (m : Module) (hooks : Selection) → IsEmpty hooks → needed_keys m hooks ≡ []
none_needed m hooks empty = ap distinct_keys (none_of hooks empty (sites m))

-- ---- no temporary

plain_none : (s : Site) (p : ℕ) (i : Plain) → plain_temps no_hooks s p i ≡ []
plain_none s p (num op) = ap (λ b. when b ((num_operands op ++ num_result op ∷ []) ∷ [])) (none_has (num_group (num_operands op)))
plain_none s p i = refl

open_none : (kind : BlockKind) → open_temps no_hooks kind ≡ []
open_none kinds.If = refl
open_none kind = refl

close_none : (s : Site) (kind : BlockKind) → close_temps no_hooks s kind ≡ []
close_none s kinds.Function = refl
close_none s kind = refl

opcode_none : (s : Site) (p : ℤ) (o : Opcode) → opcode_temps no_hooks s p o ≡ []
opcode_none s p (acts i) = plain_none s (nat_abs p) i
opcode_none s p (opens scope) = open_none scope.kind
opcode_none s p (closes scope) = close_none s scope.kind
opcode_none s p o = refl

when_none : (b : Bool) (xs : List (List ValType)) → xs ≡ [] → when b xs ≡ []
when_none true xs e = e
when_none false xs e = refl

of_none : (s : Site) (ps : List Place) → flat_map (place_temps no_hooks s) ps ≡ []
of_none s [] = refl
of_none s (place ∷ ps) =
    ap₂ (λ (l r : List (List ValType)). l ++ r) (when_none place.live _ (opcode_none s place.position place.opcode)) (of_none s ps)

pub none_temps : (s : Site) → body_temps no_hooks s ≡ []
none_temps s = of_none s (places s.body.code)
