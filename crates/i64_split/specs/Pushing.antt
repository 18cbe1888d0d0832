-- Instructions added to code.
use Rattle.std.specs.Prelude.{◌≡◌, List, ◌++◌, map}
use Rattle.module_ast.specs.declared.code.Instr.{Instr}
use Rattle.module_ast.specs.Structure.{instr_of, Plain}

-- plain instructions as values of the program
abbrev pub instrs : List Plain → List Instr
instrs is = map instr_of is

-- what was added is a prefix of `more`
abbrev pub AddsPrefix : {A : Type 0} → (old new more : List A) → Type 0
AddsPrefix {A} old new more = (part rest : List A) × (new ≡ old ++ part) × (more ≡ part ++ rest)
