use Rattle.std.proofs.Common.{List, [], ◌∷◌, ◌++◌, length, ◌==◌, ap, ap₂, sym, ◌∙◌, arith}
use Rattle.std.specs.Option.{option_or}
use Rattle.module_ast.specs.Binary.{AreItems}
use Rattle.module_ast.proofs.Compose.{read_more}
use Rattle.name_map.specs.Sections.{Chunk, chunk, IsChunk}
use Rattle.name_map.proofs.Chunks.{on_err, not_chunks, content_push, seen, seen_or, seen_then}
use Rattle.name_map.proofs.chunk.find_chunk.Goals as goal

pub returns-in_err-next-clause-bad : goal.returns-in_err-next-clause-bad
returns-in_err-next-clause-bad c =
    let i = c.loop-cursor.invariant in
    on_err _ {P = (ds : List Chunk) → AreItems IsChunk c.args.bytes.now ds → ⊥} (λ ds items. not_chunks c.args.bytes.now c.loop-cursor.cursor.left i.0 ds (rw c.new-cursor.ensures.left at i.1) c.in_err-next.ensures.bad
    (λ z. omega (arith, c.loop-cursor-test.true, c.left.ensures, ap length z)) items)

pub loop-cursor-preserved : goal.loop-cursor-preserved
loop-cursor-preserved c =
    let i = c.loop-cursor.invariant in
    let d = chunk c.in_ok-next.next c.in_ok-next.content.now in (
      i.0 ++ d ∷ [],
      read_more IsChunk _ _ _ i.0 d i.1 c.in_ok-next.ensures.ok,
      ap seen c.or-found.ensures ∙ (seen_or c.loop-cursor.found c.then_some.result
          ∙ (ap₂ option_or i.2 (ap seen c.then_some.ensures ∙ seen_then (c.in_ok-next.next == c.args.id) c.in_ok-next.content) ∙ sym (content_push c.args.id i.0 d))),
    )
