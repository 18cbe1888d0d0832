use Rattle.std.proofs.Common.{[], ◌∷◌, ◌++◌, ap, sym, ◌∙◌, subst}
use Rattle.module_ast.proofs.Compose.{read_more}
use Rattle.name_map.specs.Sections.{chunk, IsChunk, IsNameSection, IsFirstNameSection}
use Rattle.name_map.proofs.Chunks.{all_chunks, first_push, seen, seen_or, seen_matches}
use Rattle.name_map.proofs.section.find_section.Goals as goal

pub loop-id-preserved : goal.loop-id-preserved
loop-id-preserved c =
    let i = c.loop-id.invariant in
    let d = chunk c.in-Ok.id c.in-Ok.content.now in (
      i.0 ++ d ∷ [],
      read_more IsChunk _ _ _ i.0 d i.1 c.in-Ok.ensures.ok,
      subst (IsFirstNameSection (i.0 ++ d ∷ [])) (sym (ap seen c.or-found.ensures ∙ seen_or c.loop-id.found c.name_data.result))
          (first_push i.0 d (seen c.loop-id.found) (seen c.name_data.result) i.2 (seen_matches _ (IsNameSection d) c.name_data.result c.name_data.ensures)),
    )

pub returns : goal.returns
returns c =
    let i = c.loop-id.invariant in
    let file = c.requires in
    (i.0, all_chunks _ c.loop-id.cursor.left i.0 file.0 (rw c.new-cursor.ensures.left at i.1) c.in_default.ensures.bad file.1, i.2)
