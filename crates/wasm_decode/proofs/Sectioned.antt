-- A draft with one section more.
use Rattle.std.proofs.Common.{◌≡◌, ℕ, List, [], ◌∷◌, ◌++◌, ap, refl, ◌∙◌}
use Rattle.std.specs.Prelude.{Some}
use Rattle.std.specs.Global.{Vec}
use Rattle.leb_binary.specs.Texts.{Text}
use Rattle.module_ast.specs.declared.module.Range.{Range}
use Rattle.module_ast.specs.declared.module.FuncType.{FuncType}
use Rattle.module_ast.specs.declared.module.Import.{Import}
use Rattle.module_ast.specs.declared.module.GlobalDef.{GlobalDef}
use Rattle.module_ast.specs.declared.module.Export.{Export}
use Rattle.module_ast.specs.declared.module.Element.{Element}
use Rattle.module_ast.specs.declared.module.Segment.{Segment}
use Rattle.module_ast.specs.declared.module.Body.{Body}
use Rattle.module_ast.specs.Binary.Grammar as grammar
use Rattle.module_ast.specs.Binary.{ModuleNode, Kind, with_section, custom_section, type_section, import_section, function_section, table_section, memory_section, global_section, export_section, start_section, element_section, code_section, data_section}
use Rattle.wasm_decode.specs.declared.part.Part.{Part}
use Rattle.wasm_decode.specs.declared.draft.Draft.{Draft}
use Rattle.wasm_decode.specs.Drafts.{IsVectorRead, HaveFewLocals, IsDraft}
use Rattle.wasm_decode.specs.Kinds.{index_form, range_form, func_type_form, import_form, export_form, global_form, element_form, segment_form, body_form}

pub with_types : (bound : ℕ) (d : Draft) (m : ModuleNode) (p : Part FuncType) (gs : List grammar.FuncTypeNode) → IsDraft bound d m → IsVectorRead func_type_form bound p gs → IsDraft bound (record d { types = p }) (with_section (type_section, gs) m)
with_types bound d m p gs h r type_section = r
with_types bound d m p gs h r k = h k

pub with_imports : (bound : ℕ) (d : Draft) (m : ModuleNode) (p : Part Import) (gs : List grammar.ImportNode) → IsDraft bound d m → IsVectorRead import_form bound p gs → IsDraft bound (record d { imports = p }) (with_section (import_section, gs) m)
with_imports bound d m p gs h r import_section = r
with_imports bound d m p gs h r k = h k

pub with_funcs : (bound : ℕ) (d : Draft) (m : ModuleNode) (p : Part ℕ) (gs : List ℕ) → IsDraft bound d m → IsVectorRead index_form bound p gs → IsDraft bound (record d { funcs = p }) (with_section (function_section, gs) m)
with_funcs bound d m p gs h r function_section = r
with_funcs bound d m p gs h r k = h k

pub with_tables : (bound : ℕ) (d : Draft) (m : ModuleNode) (p : Part Range) (gs : List Range) → IsDraft bound d m → IsVectorRead range_form bound p gs → IsDraft bound (record d { tables = p }) (with_section (table_section, gs) m)
with_tables bound d m p gs h r table_section = r
with_tables bound d m p gs h r k = h k

pub with_memories : (bound : ℕ) (d : Draft) (m : ModuleNode) (p : Part Range) (gs : List Range) → IsDraft bound d m → IsVectorRead range_form bound p gs → IsDraft bound (record d { memories = p }) (with_section (memory_section, gs) m)
with_memories bound d m p gs h r memory_section = r
with_memories bound d m p gs h r k = h k

pub with_globals : (bound : ℕ) (d : Draft) (m : ModuleNode) (p : Part GlobalDef) (gs : List grammar.GlobalNode) → IsDraft bound d m → IsVectorRead global_form bound p gs → IsDraft bound (record d { globals = p }) (with_section (global_section, gs) m)
with_globals bound d m p gs h r global_section = r
with_globals bound d m p gs h r k = h k

pub with_exports : (bound : ℕ) (d : Draft) (m : ModuleNode) (p : Part Export) (gs : List grammar.ExportNode) → IsDraft bound d m → IsVectorRead export_form bound p gs → IsDraft bound (record d { exports = p }) (with_section (export_section, gs) m)
with_exports bound d m p gs h r export_section = r
with_exports bound d m p gs h r k = h k

pub with_elements : (bound : ℕ) (d : Draft) (m : ModuleNode) (p : Part Element) (gs : List grammar.ElementNode) → IsDraft bound d m → IsVectorRead element_form bound p gs → IsDraft bound (record d { elements = p }) (with_section (element_section, gs) m)
with_elements bound d m p gs h r element_section = r
with_elements bound d m p gs h r k = h k

pub with_segments : (bound : ℕ) (d : Draft) (m : ModuleNode) (p : Part Segment) (gs : List grammar.SegmentNode) → IsDraft bound d m → IsVectorRead segment_form bound p gs → IsDraft bound (record d { segments = p }) (with_section (data_section, gs) m)
with_segments bound d m p gs h r data_section = r
with_segments bound d m p gs h r k = h k

pub with_bodies : (bound : ℕ) (d : Draft) (m : ModuleNode) (p : Part Body) (gs : List grammar.BodyNode) → IsDraft bound d m → IsVectorRead body_form bound p gs → HaveFewLocals gs → IsDraft bound (record d { bodies = p }) (with_section (code_section, gs) m)
with_bodies bound d m p gs h r few code_section = (r, few)
with_bodies bound d m p gs h r few k = h k

pub with_start : (bound : ℕ) (d : Draft) (m : ModuleNode) (x : ℕ) → IsDraft bound d m → IsDraft bound (record d { start = Some x }) (with_section (start_section, x) m)
with_start bound d m x h start_section = refl
with_start bound d m x h k = h k

pub with_customs : (bound : ℕ) (d : Draft) (m : ModuleNode) (v : Vec Text) (x : Text) → IsDraft bound d m → v.items ≡ d.customs.items ++ x ∷ [] → IsDraft bound (record d { customs = v }) (with_section (custom_section, x) m)
with_customs bound d m v x h e custom_section = e ∙ ap (λ l. l ++ x ∷ []) (h custom_section)
with_customs bound d m v x h e k = h k
