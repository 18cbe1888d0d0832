-- A module of the grammar without a floating node is one module of the program, and no module of the program has one.
use Rattle.std.proofs.Common.{◌≡◌, refl, sym, ap, ◌∙◌}
use Rattle.std.specs.Prelude.{map, false}
use Rattle.module_ast.specs.declared.module.Module.{Module}
use Rattle.module_ast.specs.Binary.Grammar as grammar
use Rattle.module_ast.specs.Binary.{type_section, import_section, global_section, element_section, code_section, data_section, some_in, func_type_node, import_node, global_node, export_node, element_node, body_node, segment_node, tree_of, section_floats, body_floats}
use Rattle.module_ast.specs.Laws.{ModulesAreUnique, ModulesHaveNoFloat, TreesWithoutFloatAreModules}
use Rattle.module_ast.proofs.Trees.{IsView, list_alone, list_view, func_type_back, func_type_floats, func_type_view, import_back, import_floats, import_view, global_back, global_floats, global_view, export_back, element_back, element_floats, element_view, body_back, body_view, segment_back, segment_floats, segment_view}

-- 5.5.15 modules
abbrev pub module_back : grammar.ModuleNode → Module
module_back g = record {
  types = map func_type_back g.types;
  imports = map import_back g.imports;
  funcs = g.funcs;
  tables = g.tables;
  memories = g.memories;
  globals = map global_back g.globals;
  exports = map export_back g.exports;
  start = g.start;
  elements = map element_back g.elements;
  bodies = map body_back g.bodies;
  segments = map segment_back g.segments;
  customs = g.customs;
}

-- the lists of a module, section by section
types_view : IsView (map func_type_node) (map func_type_back) (some_in func_type_floats)
types_view = list_view func_type_node func_type_back func_type_floats func_type_view

imports_view : IsView (map import_node) (map import_back) (some_in import_floats)
imports_view = list_view import_node import_back import_floats import_view

globals_view : IsView (map global_node) (map global_back) (some_in global_floats)
globals_view = list_view global_node global_back global_floats global_view

elements_view : IsView (map element_node) (map element_back) (some_in element_floats)
elements_view = list_view element_node element_back element_floats element_view

bodies_view : IsView (map body_node) (map body_back) (some_in body_floats)
bodies_view = list_view body_node body_back body_floats body_view

segments_view : IsView (map segment_node) (map segment_back) (some_in segment_floats)
segments_view = list_view segment_node segment_back segment_floats segment_view

-- a module has one tree
pub module_alone : (m : Module) → module_back (tree_of m) ≡ m
module_alone m =
    rw (types_view.alone m.types, imports_view.alone m.imports, globals_view.alone m.globals, list_alone export_node export_back (λ e. refl) m.exports, elements_view.alone m.elements, bodies_view.alone m.bodies, segments_view.alone m.segments)
    refl

-- modules with one tree are one
pub modules_unique : ModulesAreUnique
modules_unique a b e = sym (module_alone a) ∙ ap module_back e ∙ module_alone b

-- no section of a module of the program floats
pub modules_plain : ModulesHaveNoFloat
modules_plain m type_section = types_view.plain m.types
modules_plain m import_section = imports_view.plain m.imports
modules_plain m global_section = globals_view.plain m.globals
modules_plain m element_section = elements_view.plain m.elements
modules_plain m code_section = bodies_view.plain m.bodies
modules_plain m data_section = segments_view.plain m.segments
modules_plain m _ = refl

-- a tree without floating nodes is that of a module
pub module_whole : (g : grammar.ModuleNode) → ((kind : grammar.Kind) → section_floats g kind ≡ false) → tree_of (module_back g) ≡ g
module_whole g p =
    rw (types_view.whole g.types (p type_section), imports_view.whole g.imports (p import_section), globals_view.whole g.globals (p global_section), list_alone export_back export_node (λ e. refl) g.exports, elements_view.whole g.elements (p element_section), bodies_view.whole g.bodies (p code_section), segments_view.whole g.segments (p data_section))
    refl

-- such a tree, and the module
pub trees_are_modules : TreesWithoutFloatAreModules
trees_are_modules g p = (module_back g, module_whole g p)
