-- A list of names read from the front on.
use Rattle.std.proofs.Common.{◌≡◌, ℕ, ◌+◌, List, [], ◌∷◌, Bool, true, false, ◌||◌, cond, Option, Some, None, is_none, refl, sym, ap, ◌∙◌}
use Rattle.std.specs.List.{position_from, cons_option}
use Rattle.std.proofs.lemmas.Iterator.Adapters.{position_from-zero}
use Rattle.hook_select.specs.declared.GroupName.{GroupName}
use Rattle.hook_select.specs.declared.Hooks.{Hooks}
use Rattle.hook_select.specs.Groups.{ListReading, has, hooks_of, group_eq, is_among, group_named, groups_named, reading_of, list_pieces, with_group}
use Rattle.hook_select.specs.Groups.ListReading.{reads, unknown}
use Rattle.hook_select.proofs.Sets.{hooks_alike, has_test}

abbrev pub read_next : (place : ℕ) → Option GroupName → (GroupName → ListReading) → ListReading
read_next place None later = unknown place
read_next place (Some g) later = later g

-- what names read as, where those before gave this set, and this is the place of the first of them
abbrev pub rest_reads : (place : ℕ) → Hooks → List (List ℕ) → ListReading
rest_reads place hooks [] = reads hooks
rest_reads place hooks (name ∷ names) = read_next place (group_named name) (λ g. rest_reads (place + 1) (with_group hooks g) names)

-- the first place that is unknown, else the set
ends : Option ℕ → Hooks → ListReading
ends None hooks = reads hooks
ends (Some place) hooks = unknown place

or_none : (a : Bool) → a ≡ (a || false)
or_none true = refl
or_none false = refl

or_turned : (a b c : Bool) → ((a || b) || c) ≡ (b || (a || c))
or_turned true true c = refl
or_turned true false c = refl
or_turned false true c = refl
or_turned false false c = refl

read_on : (names : List (List ℕ)) (place : ℕ) (test : GroupName → Bool)
    → rest_reads place (hooks_of test) names ≡ ends (position_from (λ name. is_none (group_named name)) place names) (hooks_of (λ g. test g || is_among (groups_named names) g))
unfolding ends
read_on [] place test = ap reads (hooks_alike test (λ g. test g || false) (λ g. or_none (test g)))
read_on (name ∷ names) place test = by (group_named name) (read_on names (place + 1))
  where
    by : (o : Option GroupName)
        → ((t : GroupName → Bool) → rest_reads (place + 1) (hooks_of t) names ≡ ends (position_from (λ n. is_none (group_named n)) (place + 1) names) (hooks_of (λ g. t g || is_among (groups_named names) g)))
        → read_next place o (λ g. rest_reads (place + 1) (with_group (hooks_of test) g) names)
        ≡ ends (cond (is_none o) (Some place) (position_from (λ n. is_none (group_named n)) (place + 1) names)) (hooks_of (λ g. test g || is_among (cons_option o (groups_named names)) g))
    by None later = refl
    by (Some h) later =
        later (λ g. group_eq h g || has (hooks_of test) g)
        ∙ ap (ends (position_from (λ n. is_none (group_named n)) (place + 1) names))
        (hooks_alike (λ g. (group_eq h g || has (hooks_of test) g) || is_among (groups_named names) g) (λ g. test g || (group_eq h g || is_among (groups_named names) g))
        (λ g. ap (λ b. (group_eq h g || b) || is_among (groups_named names) g) (has_test test g) ∙ or_turned (group_eq h g) (test g) (is_among (groups_named names) g)))

same_end : (o : Option ℕ) (found : List GroupName) → ends o (hooks_of (is_among found)) ≡ reading_of o found
unfolding ends
same_end None found = refl
same_end (Some place) found = refl

pub list_reads : (names : List (List ℕ)) → list_pieces names ≡ rest_reads 0 (hooks_of (λ g. false)) names
list_reads names =
    let unnamed : List ℕ → Bool = λ name. is_none (group_named name) in
    ap (λ o. reading_of o (groups_named names)) (position_from-zero unnamed names) ∙ sym (same_end _ (groups_named names)) ∙ sym (read_on names 0 (λ g. false))
