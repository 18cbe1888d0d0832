use Rattle.std.proofs.Common.{◌≡◌, ◌*◌, ◌≤◌, List, length}
use Rattle.module_ast.specs.Binary.{GroupNode, IsGroup, local_count, group_node}
use Rattle.module_ast.proofs.Compose.{Read}
use Rattle.code_decode.specs.Locals.{group_floats}
use Rattle.code_decode.specs.Stands.{StandFor}
use Rattle.code_decode.proofs.locals.read_locals.Given as goal

abbrev pub invariant-loop-i : goal.invariant-loop-i
invariant-loop-i l =
    (gs : List GroupNode) × Read IsGroup l.initial.cursor.left l.cursor.left gs × (length gs ≡ l._i) × StandFor group_floats group_node l.floats l.items.items gs × (l.total ≡ local_count gs) × (l.total ≤ 4294967295 * l._i)
