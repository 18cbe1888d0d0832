use Rattle.std.proofs.Common.{ap, sym, ◌∙◌, subst, rules}
use Rattle.name_map.specs.NameMaps.{IsNameMap, IsIndirectNameMap}
use Rattle.name_map.specs.Sections.{IsModuleNameIn, AreEntriesIn, content_of}
use Rattle.name_map.proofs.Chunks.{one_list}
use Rattle.name_map.proofs.Forms.{one_named, one_locals}
use Rattle.name_map.proofs.section.read_subsections.Goals as goal

pub entries_in-requires : goal.entries_in-requires
entries_in-requires c = record { one = one_named }

pub entries_in-requires-2 : goal.entries_in-requires-2
entries_in-requires-2 c = record { one = one_locals }

pub returns-in_err-module-clause-malformed : goal.returns-in_err-module-clause-malformed
returns-in_err-module-clause-malformed c = λ e names q.
    let o = c.in_ok-find_chunk.ensures.ok in
    c.in_err-module.ensures.malformed (search rules) names.module (subst (λ s. IsModuleNameIn s names.module) (sym (o.2 ∙ ap (content_of 0) (one_list c.args.bytes.now o.0 q.0 o.1 q.1))) q.2)

pub returns-in_err-functions-clause-malformed : goal.returns-in_err-functions-clause-malformed
returns-in_err-functions-clause-malformed c = λ e names q.
    let o = c.in_ok-find_chunk-2.ensures.ok in
    c.in_err-functions.ensures.malformed (search rules) names.functions (subst (λ s. AreEntriesIn IsNameMap s names.functions) (sym (o.2 ∙ ap (content_of 1) (one_list c.args.bytes.now o.0 q.0 o.1 q.1))) q.3)

pub returns-in_err-locals-clause-malformed : goal.returns-in_err-locals-clause-malformed
returns-in_err-locals-clause-malformed c = λ e names q.
    let o = c.in_ok-find_chunk-3.ensures.ok in
    c.in_err-locals.ensures.malformed (search rules) names.locals (subst (λ s. AreEntriesIn IsIndirectNameMap s names.locals) (sym (o.2 ∙ ap (content_of 2) (one_list c.args.bytes.now o.0 q.0 o.1 q.1))) q.4)

pub returns-clause-ok : goal.returns-clause-ok
returns-clause-ok c =
    let o = c.in_ok-find_chunk.ensures.ok in
    let p = c.in_ok-find_chunk-2.ensures.ok in
    let q = c.in_ok-find_chunk-3.ensures.ok in
    let second = p.2 ∙ ap (content_of 1) (one_list c.args.bytes.now p.0 o.0 p.1 o.1) in
    let third = q.2 ∙ ap (content_of 2) (one_list c.args.bytes.now q.0 o.0 q.1 o.1) in (
      o.0,
      o.1,
      subst (λ s. IsModuleNameIn s c.in_ok-module.module) o.2 c.in_ok-module.ensures.ok,
      rw c.from_vec.ensures (subst (λ s. AreEntriesIn IsNameMap s c.in_ok-functions.functions.items) second c.in_ok-functions.ensures.ok),
      rw c.from_vec-2.ensures (subst (λ s. AreEntriesIn IsIndirectNameMap s c.in_ok-locals.locals.items) third c.in_ok-locals.ensures.ok),
    )
