use Rattle.std.proofs.Common.{rules}
use Rattle.module_ast.specs.Binary.{custom_section, type_section, import_section, function_section, table_section, memory_section, global_section, export_section, start_section, element_section, code_section, data_section}
use Rattle.wasm_decode.proofs.BodyParts.{few_locals}
use Rattle.wasm_decode.proofs.SectionKinds.{wrong_content}
use Rattle.wasm_decode.proofs.Sectioned.{with_types, with_imports, with_funcs, with_tables, with_memories, with_globals, with_exports, with_start, with_elements, with_bodies, with_segments, with_customs}
use Rattle.wasm_decode.proofs.sections.read_content.Goals as goal

pub returns-in_err-name-in-0-clause-malformed : goal.returns-in_err-name-in-0-clause-malformed
returns-in_err-name-in-0-clause-malformed c = λ e s i p. wrong_content custom_section _ _ (c.in_err-name-in-0.ensures.malformed (search rules)) c.in-0.is s i p

pub returns-in_err-draft-in-1-clause-malformed : goal.returns-in_err-draft-in-1-clause-malformed
returns-in_err-draft-in-1-clause-malformed c = λ e s i p. wrong_content type_section _ _ (c.in_err-draft-in-1.ensures.malformed (search rules)) c.in-1.is s i p

pub returns-in_err-draft-in-2-clause-malformed : goal.returns-in_err-draft-in-2-clause-malformed
returns-in_err-draft-in-2-clause-malformed c = λ e s i p. wrong_content import_section _ _ (c.in_err-draft-in-2.ensures.malformed (search rules)) c.in-2.is s i p

pub returns-in_err-draft-in-3-clause-malformed : goal.returns-in_err-draft-in-3-clause-malformed
returns-in_err-draft-in-3-clause-malformed c = λ e s i p. wrong_content function_section _ _ (c.in_err-draft-in-3.ensures.malformed (search rules)) c.in-3.is s i p

pub returns-in_err-draft-in-4-clause-malformed : goal.returns-in_err-draft-in-4-clause-malformed
returns-in_err-draft-in-4-clause-malformed c = λ e s i p. wrong_content table_section _ _ (c.in_err-draft-in-4.ensures.malformed (search rules)) c.in-4.is s i p

pub returns-in_err-draft-in-5-clause-malformed : goal.returns-in_err-draft-in-5-clause-malformed
returns-in_err-draft-in-5-clause-malformed c = λ e s i p. wrong_content memory_section _ _ (c.in_err-draft-in-5.ensures.malformed (search rules)) c.in-5.is s i p

pub returns-in_err-draft-in-6-clause-malformed : goal.returns-in_err-draft-in-6-clause-malformed
returns-in_err-draft-in-6-clause-malformed c = λ e s i p. wrong_content global_section _ _ (c.in_err-draft-in-6.ensures.malformed (search rules)) c.in-6.is s i p

pub returns-in_err-draft-in-7-clause-malformed : goal.returns-in_err-draft-in-7-clause-malformed
returns-in_err-draft-in-7-clause-malformed c = λ e s i p. wrong_content export_section _ _ (c.in_err-draft-in-7.ensures.malformed (search rules)) c.in-7.is s i p

pub returns-in_err-draft-in-9-clause-malformed : goal.returns-in_err-draft-in-9-clause-malformed
returns-in_err-draft-in-9-clause-malformed c = λ e s i p. wrong_content element_section _ _ (c.in_err-draft-in-9.ensures.malformed (search rules)) c.in-9.is s i p

pub returns-in_err-draft-in-10-clause-malformed : goal.returns-in_err-draft-in-10-clause-malformed
returns-in_err-draft-in-10-clause-malformed c = λ e s i p. wrong_content code_section _ _ (c.in_err-draft-in-10.ensures.malformed (search rules)) c.in-10.is s i p

pub returns-in_err-draft-in-11-clause-malformed : goal.returns-in_err-draft-in-11-clause-malformed
returns-in_err-draft-in-11-clause-malformed c = λ e s i p. wrong_content data_section _ _ (c.in_err-draft-in-11.ensures.malformed (search rules)) c.in-11.is s i p

pub returns-in_ok-push-in-0-clause-ok : goal.returns-in_ok-push-in-0-clause-ok
returns-in_ok-push-in-0-clause-ok c =
    ((custom_section, c.in_ok-name-in-0.name), c.in-0.is, c.in_ok-name-in-0.ensures.ok, λ m d. with_customs c.args.nesting c.args.draft.now m c.push.new.self c.in_ok-name-in-0.name d c.in_ok-push-in-0.ensures.items)

pub returns-in_ok-start-in-8-clause-ok : goal.returns-in_ok-start-in-8-clause-ok
returns-in_ok-start-in-8-clause-ok c =
    ((start_section, c.in_ok-start-in-8.field-0), c.in-8.is, c.in_ok-start-in-8.ensures.ok, λ m d. with_start c.args.nesting c.args.draft.now m c.in_ok-start-in-8.field-0 d)

pub returns-in_ok-draft-in-1-clause-ok : goal.returns-in_ok-draft-in-1-clause-ok
returns-in_ok-draft-in-1-clause-ok c =
    let r = c.in_ok-draft-in-1.ensures.ok in
    ((type_section, r.0), c.in-1.is, r.1, λ m d. with_types c.args.nesting c.args.draft.now m c.in_ok-draft-in-1.field-0 r.0 d r.2)

pub returns-in_ok-draft-in-2-clause-ok : goal.returns-in_ok-draft-in-2-clause-ok
returns-in_ok-draft-in-2-clause-ok c =
    let r = c.in_ok-draft-in-2.ensures.ok in
    ((import_section, r.0), c.in-2.is, r.1, λ m d. with_imports c.args.nesting c.args.draft.now m c.in_ok-draft-in-2.field-0 r.0 d r.2)

pub returns-in_ok-draft-in-3-clause-ok : goal.returns-in_ok-draft-in-3-clause-ok
returns-in_ok-draft-in-3-clause-ok c =
    let r = c.in_ok-draft-in-3.ensures.ok in
    ((function_section, r.0), c.in-3.is, r.1, λ m d. with_funcs c.args.nesting c.args.draft.now m c.in_ok-draft-in-3.field-0 r.0 d r.2)

pub returns-in_ok-draft-in-4-clause-ok : goal.returns-in_ok-draft-in-4-clause-ok
returns-in_ok-draft-in-4-clause-ok c =
    let r = c.in_ok-draft-in-4.ensures.ok in
    ((table_section, r.0), c.in-4.is, r.1, λ m d. with_tables c.args.nesting c.args.draft.now m c.in_ok-draft-in-4.field-0 r.0 d r.2)

pub returns-in_ok-draft-in-5-clause-ok : goal.returns-in_ok-draft-in-5-clause-ok
returns-in_ok-draft-in-5-clause-ok c =
    let r = c.in_ok-draft-in-5.ensures.ok in
    ((memory_section, r.0), c.in-5.is, r.1, λ m d. with_memories c.args.nesting c.args.draft.now m c.in_ok-draft-in-5.field-0 r.0 d r.2)

pub returns-in_ok-draft-in-6-clause-ok : goal.returns-in_ok-draft-in-6-clause-ok
returns-in_ok-draft-in-6-clause-ok c =
    let r = c.in_ok-draft-in-6.ensures.ok in
    ((global_section, r.0), c.in-6.is, r.1, λ m d. with_globals c.args.nesting c.args.draft.now m c.in_ok-draft-in-6.field-0 r.0 d r.2)

pub returns-in_ok-draft-in-7-clause-ok : goal.returns-in_ok-draft-in-7-clause-ok
returns-in_ok-draft-in-7-clause-ok c =
    let r = c.in_ok-draft-in-7.ensures.ok in
    ((export_section, r.0), c.in-7.is, r.1, λ m d. with_exports c.args.nesting c.args.draft.now m c.in_ok-draft-in-7.field-0 r.0 d r.2)

pub returns-in_ok-draft-in-9-clause-ok : goal.returns-in_ok-draft-in-9-clause-ok
returns-in_ok-draft-in-9-clause-ok c =
    let r = c.in_ok-draft-in-9.ensures.ok in
    ((element_section, r.0), c.in-9.is, r.1, λ m d. with_elements c.args.nesting c.args.draft.now m c.in_ok-draft-in-9.field-0 r.0 d r.2)

pub returns-in_ok-draft-in-10-clause-ok : goal.returns-in_ok-draft-in-10-clause-ok
returns-in_ok-draft-in-10-clause-ok c =
    let r = c.in_ok-draft-in-10.ensures.ok in
    ((code_section, r.0), c.in-10.is, r.1, λ m d. with_bodies c.args.nesting c.args.draft.now m c.in_ok-draft-in-10.field-0 r.0 d r.2 (few_locals _ r.0 r.1.4))

pub returns-in_ok-draft-in-11-clause-ok : goal.returns-in_ok-draft-in-11-clause-ok
returns-in_ok-draft-in-11-clause-ok c =
    let r = c.in_ok-draft-in-11.ensures.ok in
    ((data_section, r.0), c.in-11.is, r.1, λ m d. with_segments c.args.nesting c.args.draft.now m c.in_ok-draft-in-11.field-0 r.0 d r.2)
