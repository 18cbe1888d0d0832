-- What is encoded is decoded again.
use Rattle.std.specs.Prelude.{◌≡◌, ℕ}
use Rattle.module_ast.specs.declared.module.Module.{Module}
use Rattle.module_ast.specs.declared.module.Limits.{Limits}
use Rattle.module_ast.specs.declared.module.Which.{Which}
use Rattle.module_ast.specs.Binary.{IsFault, module_bytes, without_customs, IsWithin, Gram, FileFloats, FileExceeds, Fits}

-- An exact decoder has one answer for the canonical bytes of a module, unless memory runs out: the module without its
-- custom sections, if that is within the limits.
pub record IsDecodedAgain (m : Module) : Type 0 where
  pub answer : (decoded : Module) → Gram (module_bytes m) decoded → decoded ≡ without_customs m
  pub not_malformed : (section : ℕ) → IsFault (module_bytes m) section → ⊥
  pub not_floating : (section : ℕ) → FileFloats (module_bytes m) section → ⊥
  pub not_exceeding : (limits : Limits) (which : Which) (value : ℕ) → IsWithin limits (without_customs m) → FileExceeds limits (module_bytes m) which value → ⊥

abbrev pub EncodedIsDecoded : Type 0
EncodedIsDecoded = (m : Module) → Fits m → IsDecodedAgain m
