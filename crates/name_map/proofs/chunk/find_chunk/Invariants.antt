use Rattle.std.proofs.Common.{◌≡◌, List, length}
use Rattle.module_ast.proofs.Compose.{Read}
use Rattle.name_map.specs.Sections.{Chunk, IsChunk, content_of}
use Rattle.name_map.proofs.Chunks.{seen}
use Rattle.name_map.proofs.chunk.find_chunk.Given as goal

abbrev pub invariant-loop-cursor : goal.invariant-loop-cursor
invariant-loop-cursor l = (cs : List Chunk) × Read IsChunk l.initial.cursor.left l.cursor.left cs × (seen l.found ≡ content_of l.id cs)

abbrev pub decreases-loop-cursor : goal.decreases-loop-cursor
decreases-loop-cursor l = length l.cursor.left
