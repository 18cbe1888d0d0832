-- The first rule that is not kept, among tests of some rules in their order.
use Rattle.std.proofs.Common.{◌≡◌, ℕ, ◌+◌, ◌-◌, ◌<◌, ◌≤◌, inl, inr, Bool, true, false, List, [], ◌∷◌, ◌++◌, length, refl, sym, ap, ◌∙◌, subst, arith}
use Rattle.std.proofs.lemmas.Bool.{cases_lt}
use Rattle.std.specs.Prelude.{◌↔◌, IsTrue, not, MatchOption, Option, Some, None, slice_get}
use Rattle.std.specs.List.{position_from}
use Rattle.module_ast.specs.declared.module.Module.{Module}
use Rattle.module_ast.specs.Validation.Validity as rules
use Rattle.module_ast.specs.Validation.{ValidityRule, number_of, Keeps, KeepsRules}
use Rattle.wasm_valid.specs.Broken.{KeepsBelow, BreaksFirst}

-- the rules that are tried first, and the others, in their order
abbrev pub eight : List ValidityRule
eight = rules.import_types ∷ rules.function_types ∷ rules.one_table ∷ rules.one_memory ∷ rules.table_limits ∷ rules.memory_pages ∷ rules.memory_limits ∷ rules.init_constant ∷ []

abbrev pub others : List ValidityRule
others = rules.init_global ∷ rules.init_type ∷ rules.export_indices ∷ rules.export_names ∷ rules.start_index ∷ rules.start_type ∷ rules.element_tables ∷ rules.element_offsets ∷ rules.element_funcs ∷ rules.segment_memories ∷ rules.segment_offsets ∷ []

-- the rule with a number
abbrev rule_at : ℕ → Option ValidityRule
rule_at n = slice_get (eight ++ others) (n - 2)

rule_at-number : (r : ValidityRule) → rule_at (number_of r) ≡ Some r
rule_at-number rules.import_types = refl
rule_at-number r = refl

same_rule : (r s : ValidityRule) → number_of r ≡ number_of s → r ≡ s
same_rule r s e =
    let p : Some r ≡ Some s = sym (rule_at-number r) ∙ ap rule_at e ∙ rule_at-number s in
    cc

-- one rule more that is kept
keeps_more : (m : Module) (r : ValidityRule) (n : ℕ) → number_of r ≡ n → KeepsBelow m n → Keeps m r → KeepsBelow m (n + 1)
keeps_more m r n e below here s h =
    elim (cases_lt (number_of s) n) [
      | inl lt ↦ below s lt
      | inr ge ↦ subst (Keeps m) (same_rule r s (omega arith)) here
    ]

-- the tests of rules with successive numbers
abbrev pub AreTests : Module → ℕ → List Bool → List ValidityRule → Type 0
AreTests m n [] [] = Unit {0}
AreTests m n (b ∷ bs) (r ∷ rs) = (number_of r ≡ n) × (IsTrue b ↔ Keeps m r) × AreTests m (n + 1) bs rs
AreTests m n _ _ = ⊥

pub first_found : (m : Module) (n : ℕ) (bs : List Bool) (rs : List ValidityRule) → AreTests m n bs rs → KeepsBelow m n → MatchOption (position_from not n bs) (KeepsBelow m (n + length bs)) (BreaksFirst m)
first_found m n [] [] h below = let e : n ≡ n + 0 = omega arith in subst (KeepsBelow m) e below
first_found m n [] (r ∷ rs) h below = absurd h
first_found m n (b ∷ bs) [] h below = absurd h
first_found m n (false ∷ bs) (r ∷ rs) (e, test, _) below =
    let before = λ (s : ValidityRule) (lt : number_of s < number_of r). below s (omega arith) in
    (r, e, (λ k. absurd (let t : false ≡ true = test.1 k in cc), before))
first_found m n (true ∷ bs) (r ∷ rs) (e, test, rest) below =
    let more = first_found m (n + 1) bs rs rest (keeps_more m r n e below (test.0 refl)) in
    let same : n + 1 + length bs ≡ n + length (true ∷ bs) = omega arith in
    subst (λ (k : ℕ). MatchOption (position_from not (n + 1) bs) (KeepsBelow m k) (BreaksFirst m)) same more

number_small : (r : ValidityRule) → number_of r < 21
number_small rules.import_types = omega arith
number_small r = omega arith

-- there are no rules but these
pub keeps_all : (m : Module) → KeepsBelow m 21 → KeepsRules m
keeps_all m h r = h r (number_small r)

number_some : (r : ValidityRule) → 2 ≤ number_of r
number_some rules.import_types = omega arith
number_some r = omega arith

pub keeps_none : (m : Module) → KeepsBelow m 2
keeps_none m r h = absurd (omega (arith, number_some r))

pub keeps_whole : (m : Module) (o : Option ℕ) → MatchOption o (KeepsBelow m 21) (BreaksFirst m) → MatchOption o (KeepsRules m) (BreaksFirst m)
keeps_whole m None h = keeps_all m h
keeps_whole m (Some n) h = h
