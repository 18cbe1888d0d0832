-- A draft as a module of the program.
use Rattle.std.specs.Prelude.{◌≡◌, ℕ, map, Option, Some, None, false}
use Rattle.module_ast.specs.declared.module.Module.{Module}
use Rattle.wasm_decode.specs.declared.draft.Draft.{Draft}
use Rattle.wasm_decode.specs.Forms.{draft_items}
use Rattle.wasm_decode.specs.Kinds.{global_form, element_form, segment_form, body_form}

-- what the draft has, as a module
abbrev pub module_in : Draft → Module
module_in d = record {
  types = d.types.items.items;
  imports = d.imports.items.items;
  funcs = d.funcs.items.items;
  tables = d.tables.items.items;
  memories = d.memories.items.items;
  globals = d.globals.items.items;
  exports = d.exports.items.items;
  start = d.start;
  elements = d.elements.items.items;
  bodies = d.bodies.items.items;
  segments = d.segments.items.items;
  customs = d.customs.items;
}

-- the module, without the code that nests deeper than the bound
abbrev pub without_deep : (bound : ℕ) → Module → Module
without_deep bound m = record m {
  globals = map (draft_items global_form bound) m.globals;
  elements = map (draft_items element_form bound) m.elements;
  bodies = map (draft_items body_form bound) m.bodies;
  segments = map (draft_items segment_form bound) m.segments;
}

-- no part has a floating-point node
pub record FloatsNowhere (d : Draft) : Type 0 where
  pub types : d.types.floats ≡ false
  pub imports : d.imports.floats ≡ false
  pub globals : d.globals.floats ≡ false
  pub elements : d.elements.floats ≡ false
  pub bodies : d.bodies.floats ≡ false
  pub segments : d.segments.floats ≡ false

-- the first of two that is there
abbrev pub or_else : Option ℕ → Option ℕ → Option ℕ
or_else None b = b
or_else (Some x) b = Some x

-- the first nesting that was found above the bound
abbrev pub deep_in : Draft → Option ℕ
deep_in d = or_else d.globals.deep (or_else d.elements.deep (or_else d.bodies.deep d.segments.deep))
