use Rattle.std.proofs.Common.{refl, arith}
use Rattle.module_ast.specs.Binary.{type_section, import_section, global_section, element_section, code_section, data_section}
use Rattle.wasm_decode.specs.Kinds.{func_type_form, import_form, global_form, element_form, segment_form, body_form}
use Rattle.wasm_decode.proofs.BodyParts.{part_floats}
use Rattle.module_ast.proofs.Trees.{func_type_back, func_type_view, import_back, import_view, global_back, global_view, element_back, element_view, body_back, body_view}
use Rattle.wasm_decode.proofs.Clean.{part_clean, earlier_clean}
use Rattle.wasm_decode.proofs.settle.first_float.Goals as goal

pub returns-then-draft : goal.returns-then-draft
returns-then-draft c = λ bound m d.
    (type_section, (part_floats func_type_form bound _ _ _ m.types (d type_section).0 c.if-draft.true, λ j l. earlier_clean m 1 (λ k. absurd (omega arith)) (λ k. absurd (omega arith)) (λ k. absurd (omega arith)) (λ k. absurd (omega arith)) (λ k. absurd (omega arith)) j l (omega arith)), refl)

pub returns-then-draft-2 : goal.returns-then-draft-2
returns-then-draft-2 c = λ bound m d.
    (import_section, (part_floats import_form bound _ _ _ m.imports (d import_section).0 c.if-draft-2.true, λ j l. earlier_clean m 2 (λ k. part_clean func_type_form func_type_back func_type_view bound _ _ _ m.types (d type_section).0 c.if-draft.false) (λ k. absurd (omega arith)) (λ k. absurd (omega arith)) (λ k. absurd (omega arith)) (λ k. absurd (omega arith)) j l (omega arith)), refl)

pub returns-then-draft-3 : goal.returns-then-draft-3
returns-then-draft-3 c = λ bound m d.
    (global_section, (part_floats global_form bound _ _ _ m.globals (d global_section).0 c.if-draft-3.true, λ j l. earlier_clean m 6 (λ k. part_clean func_type_form func_type_back func_type_view bound _ _ _ m.types (d type_section).0 c.if-draft.false) (λ k. part_clean import_form import_back import_view bound _ _ _ m.imports (d import_section).0 c.if-draft-2.false) (λ k. absurd (omega arith)) (λ k. absurd (omega arith)) (λ k. absurd (omega arith)) j l (omega arith)), refl)

pub returns-then-draft-4 : goal.returns-then-draft-4
returns-then-draft-4 c = λ bound m d.
    (element_section, (part_floats element_form bound _ _ _ m.elements (d element_section).0 c.if-draft-4.true, λ j l. earlier_clean m 9 (λ k. part_clean func_type_form func_type_back func_type_view bound _ _ _ m.types (d type_section).0 c.if-draft.false) (λ k. part_clean import_form import_back import_view bound _ _ _ m.imports (d import_section).0 c.if-draft-2.false) (λ k. part_clean global_form global_back global_view bound _ _ _ m.globals (d global_section).0 c.if-draft-3.false) (λ k. absurd (omega arith)) (λ k. absurd (omega arith)) j l (omega arith)), refl)

pub returns-then-draft-5 : goal.returns-then-draft-5
returns-then-draft-5 c = λ bound m d.
    (code_section, (part_floats body_form bound _ _ _ m.bodies (d code_section).0.0 c.if-draft-5.true, λ j l. earlier_clean m 10 (λ k. part_clean func_type_form func_type_back func_type_view bound _ _ _ m.types (d type_section).0 c.if-draft.false) (λ k. part_clean import_form import_back import_view bound _ _ _ m.imports (d import_section).0 c.if-draft-2.false) (λ k. part_clean global_form global_back global_view bound _ _ _ m.globals (d global_section).0 c.if-draft-3.false) (λ k. part_clean element_form element_back element_view bound _ _ _ m.elements (d element_section).0 c.if-draft-4.false) (λ k. absurd (omega arith)) j l (omega arith)), refl)

pub returns-then-draft-6 : goal.returns-then-draft-6
returns-then-draft-6 c = λ bound m d.
    (data_section, (part_floats segment_form bound _ _ _ m.segments (d data_section).0 c.if-draft-6.true, λ j l. earlier_clean m 11 (λ k. part_clean func_type_form func_type_back func_type_view bound _ _ _ m.types (d type_section).0 c.if-draft.false) (λ k. part_clean import_form import_back import_view bound _ _ _ m.imports (d import_section).0 c.if-draft-2.false) (λ k. part_clean global_form global_back global_view bound _ _ _ m.globals (d global_section).0 c.if-draft-3.false) (λ k. part_clean element_form element_back element_view bound _ _ _ m.elements (d element_section).0 c.if-draft-4.false) (λ k. part_clean body_form body_back body_view bound _ _ _ m.bodies (d code_section).0.0 c.if-draft-5.false) j l (omega arith)), refl)
