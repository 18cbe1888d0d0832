-- Where no part of a draft floats, no section does.
use Rattle.std.proofs.Common.{◌≡◌, ℕ, ◌<◌, ◌≤◌, List, refl, ap, ◌∙◌, arith}
use Rattle.std.specs.Prelude.{Bool, true, false, Option}
use Rattle.module_ast.specs.Binary.{ModuleNode, Kind, id_of, type_section, import_section, global_section, element_section, code_section, data_section, some_in, section_floats}
use Rattle.module_ast.proofs.Trees.{IsView, list_view}
use Rattle.wasm_decode.specs.Forms.{Form, ItemsStandFor}

-- where the part of a draft does not float, its section does not
pub part_clean : {T G : Type 0} (f : Form T G) (back : G → T) → IsView f.view back f.floats → (bound : ℕ) (a : Bool) (xs : List T) (deep : Option ℕ) (gs : List G) → ItemsStandFor f bound a xs deep gs → a ≡ false → some_in f.floats gs ≡ false
part_clean f back v bound true xs deep gs p k = cc
part_clean f back v bound false xs deep gs (ys, e, d, a) k = ap (some_in f.floats) e ∙ (list_view f.view back f.floats v).plain ys

-- sections below an id
pub earlier_clean : (m : ModuleNode) (n : ℕ) → (1 < n → section_floats m type_section ≡ false) → (2 < n → section_floats m import_section ≡ false) → (6 < n → section_floats m global_section ≡ false) → (9 < n → section_floats m element_section ≡ false) → (10 < n → section_floats m code_section ≡ false) → (j : Kind) → id_of j < n → n ≤ 11 → section_floats m j ≡ false
earlier_clean m n h1 h2 h6 h9 h10 type_section l b = h1 l
earlier_clean m n h1 h2 h6 h9 h10 import_section l b = h2 l
earlier_clean m n h1 h2 h6 h9 h10 global_section l b = h6 l
earlier_clean m n h1 h2 h6 h9 h10 element_section l b = h9 l
earlier_clean m n h1 h2 h6 h9 h10 code_section l b = h10 l
earlier_clean m n h1 h2 h6 h9 h10 data_section l b = absurd (omega arith)
earlier_clean m n h1 h2 h6 h9 h10 j l b = refl
