-- Modules of the program and trees of the grammar: each part of a tree without floating nodes is seen from one part of
-- the program, which the functions named `.._back` give.
use Rattle.std.proofs.Common.{◌≡◌, List, [], ◌∷◌, refl, ap, ap₂}
use Rattle.std.specs.Prelude.{map, Bool, false, ◌||◌}
use Rattle.std.proofs.lemmas.Bool.{or_from, or_parts}
use Rattle.wasm_num.specs.declared.ValType.{ValType}
use Rattle.wasm_num.specs.declared.ValType.TheVariants.{I32}
use Rattle.module_ast.specs.declared.code.BlockType.{BlockType}
use Rattle.module_ast.specs.declared.code.BlockType.TheVariants as blocks
use Rattle.module_ast.specs.declared.module.GlobalType.{GlobalType}
use Rattle.module_ast.specs.declared.module.FuncType.{FuncType}
use Rattle.module_ast.specs.declared.module.Item.{Item}
use Rattle.module_ast.specs.declared.module.Item.TheVariants as items
use Rattle.module_ast.specs.declared.module.Import.{Import}
use Rattle.module_ast.specs.declared.module.GlobalDef.{GlobalDef}
use Rattle.module_ast.specs.declared.module.Export.{Export}
use Rattle.module_ast.specs.declared.module.Element.{Element}
use Rattle.module_ast.specs.declared.module.Segment.{Segment}
use Rattle.module_ast.specs.declared.module.Group.{Group}
use Rattle.module_ast.specs.declared.module.Body.{Body}
use Rattle.module_ast.specs.Structure.{Tree, done, plain, block, loop, if_then, if_else}
use Rattle.module_ast.specs.Binary.Grammar as grammar
use Rattle.module_ast.specs.Binary.{block_type_node, code_node, func_type_node, global_type_node, item_node, import_node, global_node, element_node, segment_node, group_node, body_node, is_floating, some_in, block_floats, code_floats, item_floats, body_floats}

-- A view of the program's values as parts of the grammar: none of them floats, each part that does not float is the
-- view of one, and of one alone.
pub record IsView {A G : Type 0} (view : A → G) (back : G → A) (floats : G → Bool) : Type 0 where
  pub plain : (x : A) → floats (view x) ≡ false
  pub alone : (x : A) → back (view x) ≡ x
  pub whole : (g : G) → floats g ≡ false → view (back g) ≡ g

-- no item of a list of views floats
list_plain : {A G : Type 0} (view : A → G) (floats : G → Bool) → ((x : A) → floats (view x) ≡ false) → (xs : List A) → some_in floats (map view xs) ≡ false
list_plain view floats h [] = refl
list_plain view floats h (x ∷ xs) = or_from (floats (view x)) (some_in floats (map view xs)) (h x) (list_plain view floats h xs)

-- a list has one view
pub list_alone : {A G : Type 0} (view : A → G) (back : G → A) → ((x : A) → back (view x) ≡ x) → (xs : List A) → map back (map view xs) ≡ xs
list_alone view back h [] = refl
list_alone view back h (x ∷ xs) = ap₂ (λ y ys. y ∷ ys) (h x) (list_alone view back h xs)

-- a list without floating items is a view
list_whole : {A G : Type 0} (view : A → G) (back : G → A) (floats : G → Bool) → ((g : G) → floats g ≡ false → view (back g) ≡ g) → (gs : List G) → some_in floats gs ≡ false → map view (map back gs) ≡ gs
list_whole view back floats h [] p = refl
list_whole view back floats h (g ∷ gs) p =
    let parts = or_parts (floats g) (some_in floats gs) p in
    ap₂ (λ y ys. y ∷ ys) (h g parts.0) (list_whole view back floats h gs parts.1)

-- a view of values is one of lists of them
pub list_view : {A G : Type 0} (view : A → G) (back : G → A) (floats : G → Bool) → IsView view back floats → IsView (map view) (map back) (some_in floats)
list_view view back floats v = record {
  plain = list_plain view floats v.plain;
  alone = list_alone view back v.alone;
  whole = list_whole view back floats v.whole;
}

-- 5.3.1 types of values
abbrev pub number_back : grammar.NumberType → ValType
number_back (grammar.integer t) = t
number_back grammar.f32 = I32
number_back grammar.f64 = I32

-- a type that does not float is an integer one
number_whole : (t : grammar.NumberType) → is_floating t ≡ false → grammar.integer (number_back t) ≡ t
number_whole (grammar.integer t) p = refl
number_whole grammar.f32 p = cc
number_whole grammar.f64 p = cc

-- integer types among the types of values
pub number_view : IsView grammar.integer number_back is_floating
number_view = record { plain = λ t. refl; alone = λ t. refl; whole = number_whole }

-- lists of them
pub numbers_view : IsView (map grammar.integer) (map number_back) (some_in is_floating)
numbers_view = list_view grammar.integer number_back is_floating number_view

-- 5.3.2 types of blocks
abbrev pub block_type_back : grammar.BlockTypeNode → BlockType
block_type_back grammar.empty = blocks.Empty
block_type_back (grammar.value t) = blocks.Value (number_back t)
block_type_back (grammar.indexed x) = blocks.Indexed x

-- no block type of the program floats
pub block_type_plain : (ty : BlockType) → block_floats (block_type_node ty) ≡ false
block_type_plain blocks.Empty = refl
block_type_plain (blocks.Value t) = refl
block_type_plain (blocks.Indexed x) = refl

-- a block type has one view
pub block_type_alone : (ty : BlockType) → block_type_back (block_type_node ty) ≡ ty
block_type_alone blocks.Empty = refl
block_type_alone (blocks.Value t) = refl
block_type_alone (blocks.Indexed x) = refl

-- a block type that does not float is a view
pub block_type_whole : (ty : grammar.BlockTypeNode) → block_floats ty ≡ false → block_type_node (block_type_back ty) ≡ ty
block_type_whole grammar.empty p = refl
block_type_whole (grammar.value t) p = ap grammar.value (number_whole t p)
block_type_whole (grammar.indexed x) p = refl

-- 5.4 instructions
abbrev pub code_back : grammar.CodeNode → Tree
code_back grammar.done = done
code_back (grammar.plain p k) = plain p (code_back k)
code_back (grammar.floating k) = code_back k
code_back (grammar.block ty b k) = block (block_type_back ty) (code_back b) (code_back k)
code_back (grammar.loop ty b k) = loop (block_type_back ty) (code_back b) (code_back k)
code_back (grammar.if_then ty b k) = if_then (block_type_back ty) (code_back b) (code_back k)
code_back (grammar.if_else ty b c k) = if_else (block_type_back ty) (code_back b) (code_back c) (code_back k)

-- no code of the program floats
pub code_plain : (t : Tree) → code_floats (code_node t) ≡ false
code_plain done = refl
code_plain (plain p k) = code_plain k
code_plain (block ty b k) = rw (block_type_plain ty, code_plain b, code_plain k) refl
code_plain (loop ty b k) = rw (block_type_plain ty, code_plain b, code_plain k) refl
code_plain (if_then ty b k) = rw (block_type_plain ty, code_plain b, code_plain k) refl
code_plain (if_else ty b c k) = rw (block_type_plain ty, code_plain b, code_plain c, code_plain k) refl

-- code has one view
pub code_alone : (t : Tree) → code_back (code_node t) ≡ t
code_alone done = refl
code_alone (plain p k) = ap (plain p) (code_alone k)
code_alone (block ty b k) = rw (block_type_alone ty, code_alone b, code_alone k) refl
code_alone (loop ty b k) = rw (block_type_alone ty, code_alone b, code_alone k) refl
code_alone (if_then ty b k) = rw (block_type_alone ty, code_alone b, code_alone k) refl
code_alone (if_else ty b c k) = rw (block_type_alone ty, code_alone b, code_alone c, code_alone k) refl

-- none of three floats
three_parts : (a b c : Bool) → (a || b || c) ≡ false → (a ≡ false) × (b ≡ false) × (c ≡ false)
three_parts a b c p =
    let outer = or_parts (a || b) c p in
    let inner = or_parts a b outer.0 in
    (inner.0, inner.1, outer.1)

-- code without a floating node is a view
pub code_whole : (g : grammar.CodeNode) → code_floats g ≡ false → code_node (code_back g) ≡ g
code_whole grammar.done p = refl
code_whole (grammar.plain i k) p = ap (grammar.plain i) (code_whole k p)
code_whole (grammar.floating k) p = cc
code_whole (grammar.block ty b k) p =
    let parts = three_parts (block_floats ty) (code_floats b) (code_floats k) p in
    rw (block_type_whole ty parts.0, code_whole b parts.1, code_whole k parts.2) refl
code_whole (grammar.loop ty b k) p =
    let parts = three_parts (block_floats ty) (code_floats b) (code_floats k) p in
    rw (block_type_whole ty parts.0, code_whole b parts.1, code_whole k parts.2) refl
code_whole (grammar.if_then ty b k) p =
    let parts = three_parts (block_floats ty) (code_floats b) (code_floats k) p in
    rw (block_type_whole ty parts.0, code_whole b parts.1, code_whole k parts.2) refl
code_whole (grammar.if_else ty b c k) p =
    let outer = or_parts (block_floats ty || code_floats b || code_floats c) (code_floats k) p in
    let parts = three_parts (block_floats ty) (code_floats b) (code_floats c) outer.0 in
    rw (block_type_whole ty parts.0, code_whole b parts.1, code_whole c parts.2, code_whole k outer.1) refl

-- code of the program among code of the grammar
pub code_view : IsView code_node code_back code_floats
code_view = record { plain = code_plain; alone = code_alone; whole = code_whole }

-- 5.3.3 types of functions
abbrev pub func_type_back : grammar.FuncTypeNode → FuncType
func_type_back t = record { params = map number_back t.params; results = map number_back t.results }

-- a parameter or a result floats
abbrev pub func_type_floats : grammar.FuncTypeNode → Bool
func_type_floats t = some_in is_floating t.params || some_in is_floating t.results

-- a type from its parameters and results
abbrev make_func_type : List ValType → List ValType → FuncType
make_func_type a b = record { params = a; results = b }

-- the same in the grammar
abbrev grammar_func_type : List grammar.NumberType → List grammar.NumberType → grammar.FuncTypeNode
grammar_func_type a b = record { params = a; results = b }

-- types of functions of the program among those of the grammar
pub func_type_view : IsView func_type_node func_type_back func_type_floats
func_type_view = record {
  plain = λ t. or_from (some_in is_floating (map grammar.integer t.params)) (some_in is_floating (map grammar.integer t.results)) (numbers_view.plain t.params) (numbers_view.plain t.results);
  alone = λ t. ap₂ make_func_type (numbers_view.alone t.params) (numbers_view.alone t.results);
  whole = λ t p.
      let parts = or_parts (some_in is_floating t.params) (some_in is_floating t.results) p in
      ap₂ grammar_func_type (numbers_view.whole t.params parts.0) (numbers_view.whole t.results parts.1);
}

-- 5.3.7 types of globals
abbrev pub global_type_back : grammar.GlobalTypeNode → GlobalType
global_type_back g = record { ty = number_back g.ty; mutable = g.mutable }

-- a global's type that does not float is a view
global_type_whole : (g : grammar.GlobalTypeNode) → is_floating g.ty ≡ false → global_type_node (global_type_back g) ≡ g
global_type_whole g p = ap (λ (t : grammar.NumberType). (let r : grammar.GlobalTypeNode = record { ty = t; mutable = g.mutable } in r)) (number_whole g.ty p)

-- 5.5.5 imports
abbrev pub item_back : grammar.ItemNode → Item
item_back (grammar.func_item ty) = items.Func ty
item_back (grammar.table_item r) = items.Table r
item_back (grammar.memory_item r) = items.Memory r
item_back (grammar.global_item g) = items.Global (global_type_back g)

-- no item of the program floats
item_plain : (i : Item) → item_floats (item_node i) ≡ false
item_plain (items.Func ty) = refl
item_plain i = refl

-- an item has one view
item_alone : (i : Item) → item_back (item_node i) ≡ i
item_alone (items.Func ty) = refl
item_alone i = refl

-- an item that does not float is a view
item_whole : (i : grammar.ItemNode) → item_floats i ≡ false → item_node (item_back i) ≡ i
item_whole (grammar.global_item g) p = ap grammar.global_item (global_type_whole g p)
item_whole i p = refl

-- an import of the program, by its item
abbrev pub import_back : grammar.ImportNode → Import
import_back i = record { «module» = i.module_name; name = i.name; item = item_back i.item }

-- the item floats
abbrev pub import_floats : grammar.ImportNode → Bool
import_floats i = item_floats i.item

-- imports of the program among those of the grammar
pub import_view : IsView import_node import_back import_floats
import_view = record {
  plain = λ i. item_plain i.item;
  alone = λ i. ap (λ (x : Item). (let r : Import = record { «module» = i.module; name = i.name; item = x } in r)) (item_alone i.item);
  whole = λ i p. ap (λ (x : grammar.ItemNode). (let r : grammar.ImportNode = record { module_name = i.module_name; name = i.name; item = x } in r)) (item_whole i.item p);
}

-- 5.5.9 globals
abbrev pub global_back : grammar.GlobalNode → GlobalDef
global_back g = record { ty = global_type_back g.ty; init = code_back g.init }

-- the type or the initial value floats
abbrev pub global_floats : grammar.GlobalNode → Bool
global_floats g = is_floating g.ty.ty || code_floats g.init

-- a global of the grammar from its type and initial value
abbrev grammar_global : grammar.GlobalTypeNode → grammar.CodeNode → grammar.GlobalNode
grammar_global a b = record { ty = a; init = b }

-- globals of the program among those of the grammar
pub global_view : IsView global_node global_back global_floats
global_view = record {
  plain = λ g. code_plain g.init;
  alone = λ g. ap (λ (x : Tree). (let r : GlobalDef = record { ty = g.ty; init = x } in r)) (code_alone g.init);
  whole = λ g p.
      let parts = or_parts (is_floating g.ty.ty) (code_floats g.init) p in
      ap₂ grammar_global (global_type_whole g.ty parts.0) (code_whole g.init parts.1);
}

-- 5.5.10 exports, which have nothing that floats
abbrev pub export_back : grammar.ExportNode → Export
export_back e = record { name = e.name; kind = e.kind; index = e.index }

-- 5.5.12 element segments
abbrev pub element_back : grammar.ElementNode → Element
element_back e = record { table = e.table; offset = code_back e.offset; funcs = e.funcs }

-- the offset floats
abbrev pub element_floats : grammar.ElementNode → Bool
element_floats e = code_floats e.offset

-- element segments of the program among those of the grammar
pub element_view : IsView element_node element_back element_floats
element_view = record {
  plain = λ e. code_plain e.offset;
  alone = λ e. ap (λ (x : Tree). (let r : Element = record { table = e.table; offset = x; funcs = e.funcs } in r)) (code_alone e.offset);
  whole = λ e p. ap (λ (x : grammar.CodeNode). (let r : grammar.ElementNode = record { table = e.table; offset = x; funcs = e.funcs } in r)) (code_whole e.offset p);
}

-- 5.5.13 groups of locals
abbrev pub group_back : grammar.GroupNode → Group
group_back g = record { count = g.count; ty = number_back g.ty }

-- the type floats
abbrev pub group_floats : grammar.GroupNode → Bool
group_floats g = is_floating g.ty

-- groups of locals of the program among those of the grammar
pub group_view : IsView group_node group_back group_floats
group_view = record {
  plain = λ g. refl;
  alone = λ g. refl;
  whole = λ g p. ap (λ (x : grammar.NumberType). (let r : grammar.GroupNode = record { count = g.count; ty = x } in r)) (number_whole g.ty p);
}

-- lists of them
pub groups_view : IsView (map group_node) (map group_back) (some_in group_floats)
groups_view = list_view group_node group_back group_floats group_view

-- 5.5.13 bodies
abbrev pub body_back : grammar.BodyNode → Body
body_back b = record { groups = map group_back b.groups; code = code_back b.code }

-- a body from its groups and code
abbrev make_body : List Group → Tree → Body
make_body a b = record { groups = a; code = b }

-- the same in the grammar
abbrev grammar_body : List grammar.GroupNode → grammar.CodeNode → grammar.BodyNode
grammar_body a b = record { groups = a; code = b }

-- bodies of the program among those of the grammar
pub body_view : IsView body_node body_back body_floats
body_view = record {
  plain = λ b. or_from (some_in group_floats (map group_node b.groups)) (code_floats (code_node b.code)) (groups_view.plain b.groups) (code_plain b.code);
  alone = λ b. ap₂ make_body (groups_view.alone b.groups) (code_alone b.code);
  whole = λ b p.
      let parts = or_parts (some_in group_floats b.groups) (code_floats b.code) p in
      ap₂ grammar_body (groups_view.whole b.groups parts.0) (code_whole b.code parts.1);
}

-- 5.5.14 data segments
abbrev pub segment_back : grammar.SegmentNode → Segment
segment_back d = record { memory = d.memory; offset = code_back d.offset; bytes = d.bytes }

-- the offset floats
abbrev pub segment_floats : grammar.SegmentNode → Bool
segment_floats d = code_floats d.offset

-- data segments of the program among those of the grammar
pub segment_view : IsView segment_node segment_back segment_floats
segment_view = record {
  plain = λ d. code_plain d.offset;
  alone = λ d. ap (λ (x : Tree). (let r : Segment = record { memory = d.memory; offset = x; bytes = d.bytes } in r)) (code_alone d.offset);
  whole = λ d p. ap (λ (x : grammar.CodeNode). (let r : grammar.SegmentNode = record { memory = d.memory; offset = x; bytes = d.bytes } in r)) (code_whole d.offset p);
}
