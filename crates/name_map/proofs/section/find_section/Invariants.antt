use Rattle.std.proofs.Common.{List, length}
use Rattle.module_ast.proofs.Compose.{Read}
use Rattle.name_map.specs.Sections.{Chunk, IsChunk, IsFirstNameSection}
use Rattle.name_map.proofs.Chunks.{seen}
use Rattle.name_map.proofs.section.find_section.Given as goal

abbrev pub invariant-loop-id : goal.invariant-loop-id
invariant-loop-id l = (cs : List Chunk) × Read IsChunk l.initial.cursor.left l.cursor.left cs × IsFirstNameSection cs (seen l.found)

abbrev pub decreases-loop-id : goal.decreases-loop-id
decreases-loop-id l = length l.cursor.left
