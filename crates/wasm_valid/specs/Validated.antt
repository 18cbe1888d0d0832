-- A valid module with the marks of each body.
use Rattle.std.specs.Prelude.{◌≡◌, ℕ, List, length, slice_get, Some}
use Rattle.module_ast.specs.declared.module.Module.{Module}
use Rattle.module_ast.specs.Validation.{IsWhole, IsValid, HasBodyMarks}
use Rattle.code_valid.specs.declared.marks.Marks.{Marks}

-- each of these marks is that of the body with its index
abbrev pub MarkFirst : Module → List Marks → Type 0
MarkFirst m marks = (defined : ℕ) (found : Marks) → slice_get marks defined ≡ Some found → HasBodyMarks m defined found.types found.height

-- a whole and valid module, with the marks of each of its bodies
pub record IsValidated (m : Module) (marks : List Marks) : Type 0 where
  pub whole : IsWhole m
  pub valid : IsValid m
  pub count : length marks ≡ length m.bodies
  pub marks_of : MarkFirst m marks
