-- Keys and groups read from JSON.
--     key_found      one key at most has a name
--     hook_read      the key of a name is the form's
--     DistinctOf, distinct_of      keys that are as many as the distinct ones of them are all distinct
--     distinct_again      distinct keys are as many
--     hook_exact, hook_again      a key determines its value and is read again from it
--     groups_exact, groups_again      so does a set of groups
use Rattle.std.proofs.Common.{◌≡◌, ◌≢◌, ℕ, ◌+◌, ◌<◌, ◌≤◌, ◌==◌, List, [], ◌∷◌, ◌++◌, length, fold, map, filter, Bool, true, false, ◌&&◌, ◌||◌, cond, IsTrue, get_or, true≢false, Option, Some, None, Result, option_and_then, is_some, AllPairs, Contains, bytes_eq, find, refl, sym, ap, ap₂, ◌∙◌, subst, append_assoc, append-nil, length-append, arith}
use denote.Enum.Bare.{same_true}
use denote.Enum.Declared.{tag_of}
use Rattle.hook_select.specs.contracts.GroupName.{the_type}
use Rattle.indexmap.proofs.CallerLemmas.{Contains-list_any}
use Rattle.std.specs.Cmp.Lexicographic.{bytes_decides}
use Rattle.std.proofs.lemmas.List.{get_or_append_left, get_or_at}
use Rattle.std.proofs.lemmas.Bool.{eqb-true, eq-eqb, false_from_ne_true}
use Rattle.std.proofs.lemmas.Option.{option_and_then_some}
use Rattle.serde_json.specs.Data.{Data, string}
use Rattle.serde_json.specs.Find.{as_str}
use Rattle.wasm_sem.specs.Types.{GroupName, Hooks, HookKey}
use Rattle.hook_select.specs.declared.GroupName.TheVariants as groups
use Rattle.hook_select.specs.Groups.{groups as all_groups, groups_in, is_among, group_name, group_named, group_eq, group_number, has, hooks_of, with_group}
use Rattle.hook_mono.specs.Keys.{IsProper, key_eq, find_key, with_key, with_keys, distinct_keys}
use Rattle.hook_mono.specs.Names.{IsKeyOf}
use Rattle.hook_mono.specs.Reading.{key_named}
use Rattle.hook_mono.proofs.Sound.{named_sound, read_is}
use Rattle.hook_mono.proofs.Inverse.{names_differ, reads_back}
use Rattle.hook_mono.proofs.KeyNumbers.{key_itself, same_keys}
use Rattle.hook_mono.proofs.Places.{some_place}
use Rattle.std.proofs.lemmas.List.Folds.{list_any_at}
use Rattle.std.proofs.lemmas.List.Quantifiers.{all_pairs_push}
use Rattle.std.specs.List.{list_any}
use Rattle.std.specs.Option.{ok_or}
use Rattle.json_form.specs.Form.{ReadsForm, given_if, list_form, ◌>>=◌}
use Rattle.json_form.specs.declared.form.FormFault.{FormFault}
use Rattle.json_form.specs.declared.form.FormFault.TheVariants.{Wrong}
use Rattle.json_form.proofs.Exact.{then_some, passes, both, text_exact, list_exact}
use Rattle.json_form.proofs.Again.{then_gives, list_again}
use Rattle.static_info.specs.Json.{list_of, hook_data, group_data, groups_data}
use Rattle.static_info.specs.Shape.{hook_form, distinct_form, group_form, same_groups, set_of_groups, ordered_set, groups_form}

-- ---- hooks

pub key_found : (name : List ℕ) (a b : Option HookKey) → IsKeyOf name a → IsKeyOf name b → a ≡ b
key_found name None None h i = refl
key_found name None (Some k) h i = absurd (h k i.0 i.1)
key_found name (Some k) None h i = absurd (i k h.0 h.1)
key_found name (Some k) (Some l) h i = ap Some (names_differ k l h.0 i.0 (h.1 ∙ sym i.1))

key_is : (name : List ℕ) (o : Option HookKey) → IsKeyOf name o → o ≡ key_named name
key_is name o h = key_found name o (key_named name) h (read_is name (key_named name) refl)

-- a key that was looked for, as the form has it
pub hook_read : (d : Data) (name : List ℕ) (found : Option HookKey) → as_str d ≡ Some name → IsKeyOf name found → hook_form d ≡ found
hook_read d name found e h = ap (option_and_then key_named) e ∙ sym (key_is name found h)

pub hook_exact : (d : Data) (key : HookKey) → hook_form d ≡ Some key → hook_data key ≡ d
hook_exact d key e = option_and_then_some key_named (as_str d) key e (λ name is named. ap string (named_sound name key named).1 ∙ text_exact d name is)

pub hook_proper : (d : Data) (key : HookKey) → hook_form d ≡ Some key → IsProper key
hook_proper d key e = option_and_then_some key_named (as_str d) key e (λ name is named. (named_sound name key named).0)

pub hook_again : (key : HookKey) → IsProper key → hook_form (hook_data key) ≡ Some key
hook_again key proper = reads_back key proper

-- ---- distinct keys

abbrev DistinctKeys : List HookKey → Type 0
DistinctKeys ks = AllPairs (λ a b. a ≢ b) ks

not_there : (ks : List HookKey) (k : HookKey) → is_some (find_key ks k) ≡ false → (i : ℕ) (d : HookKey) → i < length ks → get_or ks i d ≢ k
not_there ks k e i d l same =
    let found = list_any_at (key_eq k) ks i d l (ap (key_eq k) same ∙ key_itself k) in
    true≢false (sym found ∙ sym (some_place (key_eq k) ks) ∙ e)

keeps_distinct : (ks : List HookKey) (k : HookKey) (b : Bool) → is_some (find_key ks k) ≡ b → DistinctKeys ks → DistinctKeys (cond b ks (ks ++ k ∷ []))
keeps_distinct ks k true e h = h
keeps_distinct ks k false e h = all_pairs_push (λ a b. a ≢ b) ks k h (λ i d l. not_there ks k e i d l)

pub all_distinct : (acc more : List HookKey) → DistinctKeys acc → DistinctKeys (with_keys acc more)
all_distinct acc [] h = h
all_distinct acc (k ∷ more) h = all_distinct (with_key acc k) more (keeps_distinct acc k (is_some (find_key acc k)) refl h)

grows : (acc more : List HookKey) → length (with_keys acc more) ≤ length acc + length more
grows acc [] = omega arith
grows acc (k ∷ more) = by (is_some (find_key acc k)) (grows acc more) (grows (acc ++ k ∷ []) more)
  where
    by : (b : Bool) → length (with_keys acc more) ≤ length acc + length more → length (with_keys (acc ++ k ∷ []) more) ≤ length (acc ++ k ∷ []) + length more
        → length (with_keys (cond b acc (acc ++ k ∷ [])) more) ≤ length acc + length (k ∷ more)
    by true h i = omega arith
    by false h i = omega (arith, length-append acc (k ∷ []))

-- as many as before and more: each was new
pub all_new : (acc more : List HookKey) → length (with_keys acc more) ≡ length acc + length more → with_keys acc more ≡ acc ++ more
all_new acc [] e = sym (append-nil acc)
all_new acc (k ∷ more) e = by (is_some (find_key acc k)) e (grows acc more) (all_new (acc ++ k ∷ []) more)
  where
    by : (b : Bool) → length (with_keys (cond b acc (acc ++ k ∷ [])) more) ≡ length acc + length (k ∷ more) → length (with_keys acc more) ≤ length acc + length more
        → (length (with_keys (acc ++ k ∷ []) more) ≡ length (acc ++ k ∷ []) + length more → with_keys (acc ++ k ∷ []) more ≡ (acc ++ k ∷ []) ++ more)
        → with_keys (cond b acc (acc ++ k ∷ [])) more ≡ acc ++ k ∷ more
    by true e h later = absurd (omega (arith, e))
    by false e h later = later (omega (arith, e, length-append acc (k ∷ []))) ∙ append_assoc acc (k ∷ []) more

none_twice : (acc more : List HookKey) (k : HookKey) → DistinctKeys (acc ++ k ∷ more) → Contains acc k → ⊥
none_twice acc more k h (i, l, e) =
    let len = length-append acc (k ∷ more) in
    h i (length acc) k l (omega arith) (get_or_append_left acc (k ∷ more) k i l ∙ e ∙ sym (get_or_at acc k more k (length acc) refl))

not_found : (acc more : List HookKey) (k : HookKey) → DistinctKeys (acc ++ k ∷ more) → is_some (find_key acc k) ≡ false
not_found acc more k h = some_place (key_eq k) acc ∙ false_from_ne_true (list_any (key_eq k) acc) (λ e. none_twice acc more k h (Contains-list_any key_eq same_keys acc k e))

-- distinct keys are all kept
pub distinct_again : (acc more : List HookKey) → DistinctKeys (acc ++ more) → with_keys acc more ≡ acc ++ more
distinct_again acc [] h = sym (append-nil acc)
distinct_again acc (k ∷ more) h =
    ap (λ b. with_keys (cond b acc (acc ++ k ∷ [])) more) (not_found acc more k h)
    ∙ distinct_again (acc ++ k ∷ []) more (subst DistinctKeys (sym (append_assoc acc (k ∷ []) more)) h)
    ∙ append_assoc acc (k ∷ []) more

-- what the test of a list lets through
pub distinct_passed : (keys : List HookKey) → length (distinct_keys keys) ≡ length keys → distinct_keys keys ≡ keys
distinct_passed keys e = all_new [] keys (omega (arith, e))

pub distinct_exact : (keys found : List HookKey) → distinct_form keys ≡ Some found → (keys ≡ found) × DistinctKeys found
distinct_exact keys found e =
    let p = passes (length (distinct_keys keys) == length keys) keys found e in
    let same = distinct_passed keys (eqb-true _ _ p.0) in
    (p.1, subst DistinctKeys (same ∙ p.1) (all_distinct [] keys (λ i j d l m. absurd (omega arith))))

let_through : (n m : ℕ) (keys : List HookKey) → n ≡ m → given_if (n == m) keys ≡ Some keys
let_through n m keys e = ap (λ b. given_if b keys) (eq-eqb n m e)

pub distinct_kept : (keys : List HookKey) → DistinctKeys keys → distinct_form keys ≡ Some keys
distinct_kept keys h = let_through _ _ keys (ap length (distinct_again [] keys h))

-- what is answered for keys
pub distinct_told : (keys found : List HookKey) (n m : ℕ) → found ≡ distinct_keys keys → n ≡ length found → m ≡ length keys → n ≡ m → distinct_form keys ≡ Some found
distinct_told keys found n m is len count same =
    let all : length (distinct_keys keys) ≡ length keys = ap length (sym is) ∙ sym len ∙ same ∙ count in
    let_through _ _ keys all ∙ ap Some (sym (is ∙ distinct_passed keys all))

-- ---- groups

pub group_tag : (g : GroupName) → tag_of the_type g ≡ group_number g
group_tag groups.Start = refl
group_tag g = refl

-- equal numbers are one group
group_one : (g h : GroupName) → group_eq g h ≡ true → g ≡ h
group_one g h e = same_true the_type tt g h (ap₂ (λ a b. a == b) (group_tag g) (group_tag h) ∙ e)

-- what is found by its name has it
name_found : (name : List ℕ) (gs : List GroupName) (g : GroupName) → find (λ h. bytes_eq (group_name h) name) gs ≡ Some g → group_name g ≡ name
name_found name [] g e = cc
name_found name (h ∷ gs) g e = by (bytes_eq (group_name h) name) refl e (name_found name gs g)
  where
    by : (b : Bool) → bytes_eq (group_name h) name ≡ b → cond b (Some h) (find (λ h. bytes_eq (group_name h) name) gs) ≡ Some g
        → (find (λ h. bytes_eq (group_name h) name) gs ≡ Some g → group_name g ≡ name) → group_name g ≡ name
    by true is e later = let same : h ≡ g = cc in ap group_name (sym same) ∙ (bytes_decides (group_name h) name).0 (subst IsTrue (sym is) refl)
    by false is e later = later e

-- ---- a set from its groups

hooks_alike : (a b : GroupName → Bool) → ((g : GroupName) → a g ≡ b g) → hooks_of a ≡ hooks_of b
hooks_alike a b same = λ i. hooks_of (λ g. same g i)

has_test : (test : GroupName → Bool) (g : GroupName) → has (hooks_of test) g ≡ test g
has_test test groups.Start = refl
has_test test g = refl

with_all : (gs : List GroupName) (test : GroupName → Bool) → fold with_group (hooks_of test) gs ≡ hooks_of (λ g. is_among gs g || test g)
with_all [] test = refl
with_all (h ∷ gs) test =
    with_all gs (λ g. group_eq h g || has (hooks_of test) g)
    ∙ hooks_alike _ _ (λ g. ap (λ b. is_among gs g || (group_eq h g || b)) (has_test test g) ∙ or_turned (is_among gs g) (group_eq h g) (test g))
  where
    or_turned : (a b c : Bool) → (a || (b || c)) ≡ ((b || a) || c)
    or_turned true true c = refl
    or_turned true false c = refl
    or_turned false true c = refl
    or_turned false false c = refl

-- a group is among those that pass where it is among them and passes
among_kept : (p : GroupName → Bool) (gs : List GroupName) (g : GroupName) → is_among (filter p gs) g ≡ (is_among gs g && p g)
among_kept p [] g = refl
among_kept p (h ∷ gs) g = by (p h) refl (group_eq h g) refl (among_kept p gs g)
  where
    by : (b : Bool) → p h ≡ b → (c : Bool) → group_eq h g ≡ c → is_among (filter p gs) g ≡ (is_among gs g && p g)
        → is_among (cond b (h ∷ filter p gs) (filter p gs)) g ≡ ((c || is_among gs g) && p g)
    by true e true f rest = ap (λ x. x || is_among (filter p gs) g) f ∙ sym (ap p (sym (group_one h g f)) ∙ e)
    by true e false f rest = ap (λ x. x || is_among (filter p gs) g) f ∙ rest
    by false e true f rest = let off : p g ≡ false = ap p (sym (group_one h g f)) ∙ e in rest ∙ ap (λ x. is_among gs g && x) off ∙ and_false (is_among gs g) ∙ sym off
      where
        and_false : (a : Bool) → (a && false) ≡ false
        and_false true = refl
        and_false false = refl
    by false e false f rest = rest

or_false : (a : Bool) → (a || false) ≡ a
or_false true = refl
or_false false = refl

in_all : (g : GroupName) → is_among all_groups g ≡ true
in_all groups.Start = refl
in_all g = refl

set_again : (hooks : Hooks) → set_of_groups (groups_in hooks) ≡ hooks
set_again hooks =
    with_all (groups_in hooks) (λ g. false)
    ∙ hooks_alike _ (has hooks) (λ g. or_false (is_among (groups_in hooks) g) ∙ among_kept (has hooks) all_groups g ∙ ap (λ b. b && has hooks g) (in_all g))

group_exact : (d : Data) (g : GroupName) → group_form d ≡ Some g → group_data g ≡ d
group_exact d g e = option_and_then_some group_named (as_str d) g e (λ name is named. ap string (name_found name all_groups g named) ∙ text_exact d name is)

group_again : (g : GroupName) → group_form (group_data g) ≡ Some g
group_again groups.Start = refl
group_again g = refl

same_are : (gs hs : List GroupName) → same_groups gs hs ≡ true → gs ≡ hs
same_are [] [] e = refl
same_are [] (h ∷ hs) e = cc
same_are (g ∷ gs) [] e = cc
same_are (g ∷ gs) (h ∷ hs) e = let b = both (group_eq g h) (same_groups gs hs) e in ap₂ (λ x xs. x ∷ xs) (group_one g h b.0) (same_are gs hs b.1)

are_same : (gs : List GroupName) → same_groups gs gs ≡ true
are_same [] = refl
are_same (g ∷ gs) = ap₂ (λ x y. x && y) (eq-eqb (group_number g) (group_number g) refl) (are_same gs)

-- what is answered for groups that were read
pub groups_told : (o : Option (List GroupName)) (gs xs ys : List GroupName) (hooks : Hooks) (all zs : List GroupName) (r : Bool) → o ≡ Some gs
    → xs ≡ gs → ys ≡ gs → hooks ≡ set_of_groups xs → all ≡ groups_in hooks → zs ≡ all → r ≡ same_groups ys zs → (o >>= ordered_set) ≡ given_if r hooks
groups_told o gs xs ys hooks all zs r e x y h a z s =
    let set : hooks ≡ set_of_groups gs = h ∙ ap set_of_groups x in
    ap (λ p. p >>= ordered_set) e
    ∙ ap (λ h. given_if (same_groups gs (groups_in h)) h) (sym set)
    ∙ ap (λ l. given_if (same_groups gs l) hooks) (sym (z ∙ a))
    ∙ ap (λ l. given_if (same_groups l zs) hooks) (sym y)
    ∙ ap (λ b. given_if b hooks) (sym s)

-- a list of groups determines its value
pub groups_exact : (d : Data) (hooks : Hooks) → groups_form d ≡ Some hooks → groups_data hooks ≡ d
groups_exact d hooks e =
    let read = then_some (list_form group_form d) ordered_set hooks e in
    let gs = read.0 in
    let p = passes (same_groups gs (groups_in (set_of_groups gs))) (set_of_groups gs) hooks read.2 in
    let all : gs ≡ groups_in hooks = same_are gs (groups_in (set_of_groups gs)) p.0 ∙ ap groups_in p.1 in
    ap (λ l. list_of (map group_data l)) (sym all) ∙ list_exact group_form group_data group_exact d gs read.1

-- and a set is read again from it
pub groups_again : (hooks : Hooks) → groups_form (groups_data hooks) ≡ Some hooks
groups_again hooks =
    let gs = groups_in hooks in
    let set = set_again hooks in
    then_gives (list_form group_form (groups_data hooks)) ordered_set gs hooks (list_again group_form group_data gs (λ k d l. group_again (get_or gs k d)))
    (ap (λ h. given_if (same_groups gs (groups_in h)) h) set ∙ ap (λ b. given_if b hooks) (are_same gs))

-- what was answered for a name
pub hook_answered : (d : Data) (name : List ℕ) (found : Option HookKey) (r : Result HookKey FormFault) → as_str d ≡ Some name → IsKeyOf name found → r ≡ ok_or found Wrong → ReadsForm r (hook_form d)
hook_answered d name None r e h is = subst (λ r. ReadsForm r (hook_form d)) (sym is) (hook_read d name None e h)
hook_answered d name (Some key) r e h is = subst (λ r. ReadsForm r (hook_form d)) (sym is) (hook_read d name (Some key) e h)
