-- The first rule that a module breaks. 3.4
use Rattle.std.specs.Prelude.{◌≡◌, ℕ, ◌<◌}
use Rattle.module_ast.specs.declared.module.Module.{Module}
use Rattle.module_ast.specs.Validation.{ValidityRule, number_of, Keeps, IsFirstBroken}

-- the module keeps each rule whose number is below this one
abbrev pub KeepsBelow : Module → ℕ → Type 0
KeepsBelow m number = (rule : ValidityRule) → number_of rule < number → Keeps m rule

-- the first rule that the module breaks has this number
abbrev pub BreaksFirst : Module → ℕ → Type 0
BreaksFirst m number = (rule : ValidityRule) × (number_of rule ≡ number) × IsFirstBroken m rule
