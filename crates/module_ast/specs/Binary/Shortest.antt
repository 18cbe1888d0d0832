-- 5 No bytes of a module are fewer than its canonical bytes.
use Rattle.std.specs.Prelude.{ℕ, ◌≤◌, List, length}
use Rattle.module_ast.specs.declared.module.Module.{Module}
use Rattle.module_ast.specs.Binary.Canonical.{module_bytes}
use Rattle.module_ast.specs.Binary.Decoding.{Gram}

-- all bytes that spell a module are at least as many as its canonical bytes
abbrev pub CanonicalBytesAreShortest : Type 0
CanonicalBytesAreShortest = (bytes : List ℕ) (m : Module) → Gram bytes m → length (module_bytes m) ≤ length bytes
