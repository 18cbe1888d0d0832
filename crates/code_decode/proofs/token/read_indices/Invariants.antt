use Rattle.std.proofs.Common.{◌≡◌, length}
use Rattle.module_ast.specs.Binary.{IsU32}
use Rattle.module_ast.proofs.Compose.{Read}
use Rattle.code_decode.proofs.token.read_indices.Given as goal

abbrev pub invariant-loop-i : goal.invariant-loop-i
invariant-loop-i l = Read IsU32 l.initial.cursor.left l.cursor.left l.items.items × (length l.items.items ≡ l._i)
