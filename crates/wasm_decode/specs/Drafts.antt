-- What was read of a module so far.
use Rattle.std.specs.Prelude.{◌≡◌, ℕ, ◌^◌, ◌<◌, List, [], ◌∷◌, length}
use Rattle.module_ast.specs.Binary.Grammar as grammar
use Rattle.module_ast.specs.Binary.{Kind, custom_section, type_section, import_section, function_section, table_section, memory_section, global_section, export_section, start_section, element_section, code_section, data_section, local_count}
use Rattle.wasm_decode.specs.declared.part.Part.{Part}
use Rattle.wasm_decode.specs.declared.draft.Draft.{Draft}
use Rattle.wasm_decode.specs.Forms.{Form}
use Rattle.wasm_decode.specs.Parts.{IsPart}
use Rattle.wasm_decode.specs.Kinds.{index_form, range_form, func_type_form, import_form, export_form, global_form, element_form, segment_form, body_form}

-- a whole vector
abbrev pub IsVectorRead : {T G : Type 0} → Form T G → (bound : ℕ) → Part T → List G → Type 0
IsVectorRead f bound p gs = IsPart f bound p gs × (p.count ≡ length gs)

-- each body has fewer than 2 ^ 32 locals
abbrev pub HaveFewLocals : List grammar.BodyNode → Type 0
HaveFewLocals [] = Unit {0}
HaveFewLocals (b ∷ bs) = (local_count b.groups < 2 ^ 32) × HaveFewLocals bs

-- the draft has what the module has in sections of one kind
abbrev pub DraftHolds : (bound : ℕ) → Draft → grammar.ModuleNode → Kind → Type 0
DraftHolds bound d m custom_section = d.customs.items ≡ m.customs
DraftHolds bound d m type_section = IsVectorRead func_type_form bound d.types m.types
DraftHolds bound d m import_section = IsVectorRead import_form bound d.imports m.imports
DraftHolds bound d m function_section = IsVectorRead index_form bound d.funcs m.funcs
DraftHolds bound d m table_section = IsVectorRead range_form bound d.tables m.tables
DraftHolds bound d m memory_section = IsVectorRead range_form bound d.memories m.memories
DraftHolds bound d m global_section = IsVectorRead global_form bound d.globals m.globals
DraftHolds bound d m export_section = IsVectorRead export_form bound d.exports m.exports
DraftHolds bound d m start_section = d.start ≡ m.start
DraftHolds bound d m element_section = IsVectorRead element_form bound d.elements m.elements
DraftHolds bound d m code_section = IsVectorRead body_form bound d.bodies m.bodies × HaveFewLocals m.bodies
DraftHolds bound d m data_section = IsVectorRead segment_form bound d.segments m.segments

abbrev pub IsDraft : (bound : ℕ) → Draft → grammar.ModuleNode → Type 0
IsDraft bound d m = (k : Kind) → DraftHolds bound d m k
