-- The canonical bytes of a module that fits are in the grammar, and are that module without its custom sections.
use Rattle.std.proofs.Common.{◌≡◌, ℕ, List, [], ◌∷◌, length, refl, sym, ap, ◌∙◌, subst, ◌^◌, ◌<◌, arith}
use Rattle.std.specs.Prelude.{map}
use Rattle.std.proofs.lemmas.List.{length-map, map-id}
use Rattle.module_ast.specs.declared.module.Range.{Range}
use Rattle.module_ast.specs.declared.module.Module.{Module}
use Rattle.leb_binary.specs.Shortest.{unsigned_bytes}
use Rattle.module_ast.specs.Binary.Grammar as grammar
use Rattle.module_ast.specs.Binary.{IsU32, IsFuncType, IsImport, IsTableType, IsMemoryType, IsGlobal, IsExport, IsElement, IsSized, IsBody, IsSegment, header, IsModule, empty_module, type_section, import_section, function_section, table_section, memory_section, global_section, export_section, element_section, code_section, data_section, sized_bytes, module_bytes, without_customs, func_type_bytes, import_bytes, table_bytes, limits_bytes, global_bytes, export_bytes, element_bytes, body_bytes, segment_bytes, tree_of, func_type_node, import_node, global_node, export_node, element_node, body_node, segment_node, Fits, FitsIndex, FitsRange, FitsImport, FitsGlobal, FitsExport, FitsElement, FitsBody, FitsSegment}
use Rattle.module_ast.proofs.Writers.{back_short, index_writes, sized_writes}
use Rattle.module_ast.proofs.WrittenEntries.{func_type_writes, import_writes, table_writes, memory_writes, global_writes, export_writes, element_writes, body_writes, segment_writes}
use Rattle.module_ast.proofs.Parts.{Part, IsPart, entries, entries_part, start_of, start_part, all_bytes, all_sections, set_all, AreParts, AreClear, behind_front, all_spelled, all_ordered, all_collected}

abbrev same : ℕ → ℕ
same n = n

abbrev same_range : Range → Range
same_range r = r

-- the parts of a module, and that each is a section of the grammar or none
abbrev types_of : Module → Part
types_of m = entries func_type_bytes func_type_node (λ ys. (type_section, ys)) 1 (λ ys v. record v { types = ys }) m.types

types_part : (m : Module) → Fits m → IsPart (types_of m)
types_part m h = entries_part func_type_bytes func_type_node (λ ys. (type_section, ys)) IsFuncType (λ t. Unit {0}) func_type_writes 1 (λ ys v. record v { types = ys }) (λ b ys s. (b, refl, s)) (λ ys. refl) (λ ys v. refl) m.types (λ i d k. tt)

abbrev imports_of : Module → Part
imports_of m = entries import_bytes import_node (λ ys. (import_section, ys)) 2 (λ ys v. record v { imports = ys }) m.imports

imports_part : (m : Module) → Fits m → IsPart (imports_of m)
imports_part m h = entries_part import_bytes import_node (λ ys. (import_section, ys)) IsImport FitsImport import_writes 2 (λ ys v. record v { imports = ys }) (λ b ys s. (b, refl, s)) (λ ys. refl) (λ ys v. refl) m.imports h.imports

abbrev funcs_of : Module → Part
funcs_of m = entries unsigned_bytes same (λ ys. (function_section, ys)) 3 (λ ys v. record v { funcs = ys }) m.funcs

funcs_part : (m : Module) → Fits m → IsPart (funcs_of m)
funcs_part m h = entries_part unsigned_bytes same (λ ys. (function_section, ys)) IsU32 FitsIndex index_writes 3 (λ ys v. record v { funcs = ys }) (λ b ys s. (b, refl, s)) (λ ys. refl) (λ ys v. refl) m.funcs h.funcs

abbrev tables_of : Module → Part
tables_of m = entries table_bytes same_range (λ ys. (table_section, ys)) 4 (λ ys v. record v { tables = ys }) m.tables

tables_part : (m : Module) → Fits m → IsPart (tables_of m)
tables_part m h = entries_part table_bytes same_range (λ ys. (table_section, ys)) IsTableType FitsRange table_writes 4 (λ ys v. record v { tables = ys }) (λ b ys s. (b, refl, s)) (λ ys. refl) (λ ys v. refl) m.tables h.tables

abbrev memories_of : Module → Part
memories_of m = entries limits_bytes same_range (λ ys. (memory_section, ys)) 5 (λ ys v. record v { memories = ys }) m.memories

memories_part : (m : Module) → Fits m → IsPart (memories_of m)
memories_part m h = entries_part limits_bytes same_range (λ ys. (memory_section, ys)) IsMemoryType FitsRange memory_writes 5 (λ ys v. record v { memories = ys }) (λ b ys s. (b, refl, s)) (λ ys. refl) (λ ys v. refl) m.memories h.memories

abbrev globals_of : Module → Part
globals_of m = entries global_bytes global_node (λ ys. (global_section, ys)) 6 (λ ys v. record v { globals = ys }) m.globals

globals_part : (m : Module) → Fits m → IsPart (globals_of m)
globals_part m h = entries_part global_bytes global_node (λ ys. (global_section, ys)) IsGlobal FitsGlobal global_writes 6 (λ ys v. record v { globals = ys }) (λ b ys s. (b, refl, s)) (λ ys. refl) (λ ys v. refl) m.globals h.globals

abbrev exports_of : Module → Part
exports_of m = entries export_bytes export_node (λ ys. (export_section, ys)) 7 (λ ys v. record v { exports = ys }) m.exports

exports_part : (m : Module) → Fits m → IsPart (exports_of m)
exports_part m h = entries_part export_bytes export_node (λ ys. (export_section, ys)) IsExport FitsExport export_writes 7 (λ ys v. record v { exports = ys }) (λ b ys s. (b, refl, s)) (λ ys. refl) (λ ys v. refl) m.exports h.exports

abbrev elements_of : Module → Part
elements_of m = entries element_bytes element_node (λ ys. (element_section, ys)) 9 (λ ys v. record v { elements = ys }) m.elements

elements_part : (m : Module) → Fits m → IsPart (elements_of m)
elements_part m h = entries_part element_bytes element_node (λ ys. (element_section, ys)) IsElement FitsElement element_writes 9 (λ ys v. record v { elements = ys }) (λ b ys s. (b, refl, s)) (λ ys. refl) (λ ys v. refl) m.elements h.elements

abbrev bodies_of : Module → Part
bodies_of m = entries (λ b. sized_bytes (body_bytes b)) body_node (λ ys. (code_section, ys)) 10 (λ ys v. record v { bodies = ys }) m.bodies

bodies_part : (m : Module) → Fits m → IsPart (bodies_of m)
bodies_part m h = entries_part (λ b. sized_bytes (body_bytes b)) body_node (λ ys. (code_section, ys)) (IsSized IsBody) FitsBody (sized_writes IsBody body_bytes body_node FitsBody body_writes) 10 (λ ys v. record v { bodies = ys }) (λ b ys s. (b, refl, s)) (λ ys. refl) (λ ys v. refl) m.bodies h.bodies

abbrev segments_of : Module → Part
segments_of m = entries segment_bytes segment_node (λ ys. (data_section, ys)) 11 (λ ys v. record v { segments = ys }) m.segments

segments_part : (m : Module) → Fits m → IsPart (segments_of m)
segments_part m h = entries_part segment_bytes segment_node (λ ys. (data_section, ys)) IsSegment FitsSegment segment_writes 11 (λ ys v. record v { segments = ys }) (λ b ys s. (b, refl, s)) (λ ys. refl) (λ ys v. refl) m.segments h.segments

-- what stands behind the header
abbrev parts : Module → List Part
parts m =
    types_of m ∷ imports_of m ∷ funcs_of m ∷ tables_of m ∷ memories_of m ∷ globals_of m ∷ exports_of m ∷ start_of m.start
    ∷ elements_of m ∷ bodies_of m ∷ segments_of m ∷ []

-- they stand in the order of the sections
parts_fit : (m : Module) → Fits m → AreParts 0 (parts m)
parts_fit m h = (omega arith, types_part m h, (omega arith, imports_part m h, (omega arith, funcs_part m h, (omega arith, tables_part m h, (omega arith, memories_part m h, (omega arith, globals_part m h, (omega arith, exports_part m h, (omega arith, start_part m.start h.start, (omega arith, elements_part m h, (omega arith, bodies_part m h, (omega arith, segments_part m h, tt)))))))))))

-- each is set once
parts_clear : (m : Module) → AreClear empty_module (parts m)
parts_clear m = (refl, (refl, (refl, (refl, (refl, (refl, (refl, (refl, (refl, (refl, (refl, tt)))))))))))

-- what they set is the module
parts_set : (m : Module) → set_all empty_module (parts m) ≡ tree_of (without_customs m)
parts_set m =
    ap (λ v. shape v (map same_range m.tables) (map same_range m.memories)) (map-id m.funcs)
    ∙ ap (λ v. shape m.funcs v (map same_range m.memories)) (map-id m.tables)
    ∙ ap (λ v. shape m.funcs m.tables v) (map-id m.memories)
  where
    shape : List ℕ → List Range → List Range → grammar.ModuleNode
    shape fs ts ms = record { types = map func_type_node m.types; imports = map import_node m.imports; funcs = fs; tables = ts; memories = ms; globals = map global_node m.globals; exports = map export_node m.exports; start = m.start; elements = map element_node m.elements; bodies = map body_node m.bodies; segments = map segment_node m.segments; customs = [] }

-- the law
pub module_spelled : (m : Module) → Fits m → IsModule (module_bytes m) (tree_of (without_customs m))
module_spelled m h =
    let ps = parts_fit m h in
    let split = behind_front header (parts m) in
    let short = back_short header (all_bytes (parts m)) (subst (λ b. length b < 2 ^ 32) split h.size) in
    record {
      sections = all_sections (parts m);
      spelled = (all_bytes (parts m), split, all_spelled 0 (parts m) ps short, all_ordered 0 (parts m) ps);
      collected = sym (all_collected 0 (parts m) ps empty_module (parts_clear m) ∙ parts_set m);
      bodies = h.counts ∙ sym (length-map m.bodies body_node);
    }
