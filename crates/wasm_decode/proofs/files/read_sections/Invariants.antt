use Rattle.std.proofs.Common.{◌≡◌, ◌≤◌, List, length}
use Rattle.module_ast.specs.Binary.{Section, IsSection, AreOrdered, module_of}
use Rattle.module_ast.proofs.Compose.{Read}
use Rattle.module_ast.specs.Validation.Limits.{longest_file}
use Rattle.wasm_decode.specs.Drafts.{IsDraft}
use Rattle.wasm_decode.specs.Files.{AreBytes, last_of}
use Rattle.wasm_decode.proofs.files.read_sections.Given as goal

-- the sections so far
abbrev pub invariant-loop-id : goal.invariant-loop-id
invariant-loop-id l =
    (ss : List Section) × Read IsSection l.initial.cursor.left l.cursor.left ss × AreOrdered 0 ss × (l.last ≡ last_of 0 ss) × IsDraft l.nesting l.draft (module_of ss) × AreBytes l.cursor.left × (length l.cursor.left ≤ longest_file)

abbrev pub decreases-loop-id : goal.decreases-loop-id
decreases-loop-id l = length l.cursor.left
