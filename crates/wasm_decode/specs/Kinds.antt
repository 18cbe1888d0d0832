-- The kinds of items that a module has.
use Rattle.std.specs.Prelude.{ℕ, Bool, false, ◌||◌}
use Rattle.module_ast.specs.declared.module.Range.{Range}
use Rattle.module_ast.specs.declared.module.FuncType.{FuncType}
use Rattle.module_ast.specs.declared.module.Import.{Import}
use Rattle.module_ast.specs.declared.module.GlobalDef.{GlobalDef}
use Rattle.module_ast.specs.declared.module.Export.{Export}
use Rattle.module_ast.specs.declared.module.Element.{Element}
use Rattle.module_ast.specs.declared.module.Segment.{Segment}
use Rattle.module_ast.specs.declared.module.Body.{Body}
use Rattle.module_ast.specs.Structure.{done}
use Rattle.module_ast.specs.Binary.Grammar as grammar
use Rattle.module_ast.specs.Places.{code_nesting}
use Rattle.module_ast.specs.Binary.{is_floating, some_in, item_floats, code_floats, func_type_node, import_node, global_node, export_node, element_node, segment_node, body_node}
use Rattle.wasm_decode.specs.Forms.{Form}

-- items without code
abbrev pub flat : {T G : Type 0} → (G → Bool) → (T → G) → Form T G
flat floats view = record { floats = floats; view = view; nests = λ x. 0; blank = λ x. x }

abbrev pub index_form : Form ℕ ℕ
index_form = flat (λ x. false) (λ x. x)

abbrev pub range_form : Form Range Range
range_form = flat (λ r. false) (λ r. r)

abbrev pub func_type_form : Form FuncType grammar.FuncTypeNode
func_type_form = flat (λ (t : grammar.FuncTypeNode). some_in is_floating t.params || some_in is_floating t.results) func_type_node

abbrev pub import_form : Form Import grammar.ImportNode
import_form = flat (λ (i : grammar.ImportNode). item_floats i.item) import_node

abbrev pub export_form : Form Export grammar.ExportNode
export_form = flat (λ e. false) export_node

-- items with code
abbrev pub global_form : Form GlobalDef grammar.GlobalNode
global_form = record {
  floats = λ g. is_floating g.ty.ty || code_floats g.init;
  view = global_node;
  nests = λ g. code_nesting g.init;
  blank = λ g. record g { init = done };
}

abbrev pub element_form : Form Element grammar.ElementNode
element_form = record {
  floats = λ e. code_floats e.offset;
  view = element_node;
  nests = λ e. code_nesting e.offset;
  blank = λ e. record e { offset = done };
}

abbrev pub segment_form : Form Segment grammar.SegmentNode
segment_form = record {
  floats = λ d. code_floats d.offset;
  view = segment_node;
  nests = λ d. code_nesting d.offset;
  blank = λ d. record d { offset = done };
}

abbrev pub body_form : Form Body grammar.BodyNode
body_form = record {
  floats = λ b. some_in (λ (g : grammar.GroupNode). is_floating g.ty) b.groups || code_floats b.code;
  view = body_node;
  nests = λ b. code_nesting b.code;
  blank = λ b. record b { code = done };
}
