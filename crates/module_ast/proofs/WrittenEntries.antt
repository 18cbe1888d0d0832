-- The canonical bytes of each entry of a section are in the grammar, where the entry fits.
use Rattle.std.proofs.Common.{◌≡◌, ℕ, ◌^◌, ◌<◌, ◌≤◌, List, [], ◌∷◌, ◌++◌, length, refl, append_assoc, length-append, arith}
use Rattle.std.specs.Prelude.{map, All, Option, Some, None, Bool, true, false}
use Rattle.std.proofs.lemmas.List.Elements.{All-nil, All-cons, All-head, All-tail}
use Rattle.wasm_num.specs.declared.ValType.{ValType}
use Rattle.module_ast.specs.declared.module.Range.{Range}
use Rattle.module_ast.specs.declared.module.GlobalType.{GlobalType}
use Rattle.module_ast.specs.declared.module.Item.{Item}
use Rattle.module_ast.specs.declared.module.Item.TheVariants as items
use Rattle.module_ast.specs.declared.module.ExportKind.{ExportKind}
use Rattle.module_ast.specs.declared.module.ExportKind.TheVariants as kinds
use Rattle.module_ast.specs.declared.module.Group.{Group}
use Rattle.leb_binary.specs.Shortest.{unsigned_bytes}
use Rattle.module_ast.specs.Binary.Grammar as grammar
use Rattle.leb_binary.specs.Reading.{IsByte}
use Rattle.module_ast.specs.Binary.{AreItems, IsVec, IsValType, IsFuncType, IsMemoryType, IsTableType, IsMutability, IsGlobalType, IsItem, IsImport, IsGlobal, IsExportKind, IsExport, IsElement, IsGroup, IsBody, IsSegment, local_count, vec_bytes, sized_bytes, items_bytes, val_type_bytes, expr_bytes, func_type_bytes, limits_bytes, table_bytes, mutability_bytes, global_type_bytes, item_bytes, import_bytes, global_bytes, kind_byte, export_bytes, element_bytes, group_bytes, body_bytes, segment_bytes, func_type_node, global_type_node, item_node, import_node, global_node, export_node, element_node, group_node, body_node, segment_node, locals_of, FitsIndex, FitsOption, FitsRange, FitsItem, FitsImport, FitsGlobal, FitsExport, FitsElement, FitsBody, FitsSegment}
use Rattle.module_ast.proofs.Writers.{Writes, front_short, back_short, rest_short, three_short, u32_spelled, unsigned_some, counted_some, counted_short, vec_writes, name_writes}
use Rattle.module_ast.proofs.WrittenCode.{val_type_spelled, indices_spelled, expr_spelled}

-- bytes in front that are some are some with those behind
front_some : (a b : List ℕ) → 1 ≤ length a → 1 ≤ length (a ++ b)
front_some a b h = omega (arith, length-append a b)

-- 5.3.6 types of functions
val_type_writes : Writes IsValType val_type_bytes grammar.integer (λ t. Unit {0})
val_type_writes = record { some = λ t. omega arith; spelled = λ t h l. val_type_spelled t }

types_spelled : (ts : List ValType) → length (vec_bytes val_type_bytes ts) < 2 ^ 32 → IsVec IsValType (vec_bytes val_type_bytes ts) (map grammar.integer ts)
types_spelled ts l = (vec_writes IsValType val_type_bytes grammar.integer (λ t. Unit {0}) val_type_writes).spelled ts (λ i d h. tt) l

pub func_type_writes : Writes IsFuncType func_type_bytes func_type_node (λ t. Unit {0})
func_type_writes = record {
  some = λ t. omega arith;
  spelled = λ t h l.
      let params = vec_bytes val_type_bytes t.params in
      let results = vec_bytes val_type_bytes t.results in
      let both = rest_short 0x60 (params ++ results) l in
      (params ++ results, refl, (params, results, refl, types_spelled t.params (front_short params results both), types_spelled t.results (back_short params results both)));
}

-- 5.3.7 limits
limits_some : (m : ℕ) (n : Option ℕ) → (let r : Range = record { min = m; max = n } in 1 ≤ length (limits_bytes r))
limits_some m None = omega arith
limits_some m (Some n) = omega arith

limits_spelled : (m : ℕ) (n : Option ℕ) → FitsIndex m → FitsOption n → (let r : Range = record { min = m; max = n } in IsMemoryType (limits_bytes r) r)
limits_spelled m None h k = (unsigned_bytes m, refl, u32_spelled m h)
limits_spelled m (Some n) h k = (unsigned_bytes m ++ unsigned_bytes n, refl, (unsigned_bytes m, unsigned_bytes n, refl, u32_spelled m h, u32_spelled n k))

pub memory_writes : Writes IsMemoryType limits_bytes (λ r. r) FitsRange
memory_writes = record { some = λ r. limits_some r.min r.max; spelled = λ r h l. limits_spelled r.min r.max h.0 h.1 }

table_spelled : (r : Range) → FitsRange r → IsTableType (table_bytes r) r
table_spelled r h = (limits_bytes r, refl, limits_spelled r.min r.max h.0 h.1)

pub table_writes : Writes IsTableType table_bytes (λ r. r) FitsRange
table_writes = record { some = λ r. omega arith; spelled = λ r h l. table_spelled r h }

-- 5.3.10 types of globals
mutability_spelled : (b : Bool) → IsMutability (mutability_bytes b) b
mutability_spelled false = refl
mutability_spelled true = refl

global_type_spelled : (g : GlobalType) → IsGlobalType (global_type_bytes g) (global_type_node g)
global_type_spelled g = (val_type_bytes g.ty, mutability_bytes g.mutable, refl, val_type_spelled g.ty, mutability_spelled g.mutable)

-- 5.5.5 imports
item_spelled : (i : Item) → FitsItem i → IsItem (item_bytes i) (item_node i)
item_spelled (items.Func ty) h = (unsigned_bytes ty, refl, u32_spelled ty h)
item_spelled (items.Table r) h = (table_bytes r, refl, table_spelled r h)
item_spelled (items.Memory r) h = (limits_bytes r, refl, limits_spelled r.min r.max h.0 h.1)
item_spelled (items.Global g) h = (global_type_bytes g, refl, global_type_spelled g)

pub import_writes : Writes IsImport import_bytes import_node FitsImport
import_writes = record {
  some = λ i. front_some (sized_bytes i.module.bytes ++ sized_bytes i.name.bytes) (item_bytes i.item) (front_some (sized_bytes i.module.bytes) (sized_bytes i.name.bytes) (counted_some (length i.module.bytes) i.module.bytes));
  spelled = λ i h l.
      let owner = sized_bytes i.module.bytes in
      let name = sized_bytes i.name.bytes in
      let s = three_short owner name (item_bytes i.item) l in
      (owner, name ++ item_bytes i.item, append_assoc owner name (item_bytes i.item), name_writes.spelled i.module tt s.front, (name, item_bytes i.item, refl, name_writes.spelled i.name tt s.middle, item_spelled i.item h));
}

-- 5.5.9 globals
pub global_writes : Writes IsGlobal global_bytes global_node FitsGlobal
global_writes = record {
  some = λ g. omega arith;
  spelled = λ g h l.
      let ty = global_type_bytes g.ty in
      (ty, expr_bytes g.init, refl, global_type_spelled g.ty, expr_spelled g.init h (back_short ty (expr_bytes g.init) l));
}

-- 5.5.10 exports
kind_spelled : (k : ExportKind) → IsExportKind (kind_byte k ∷ []) k
kind_spelled kinds.Func = refl
kind_spelled k = refl

pub export_writes : Writes IsExport export_bytes export_node FitsExport
export_writes = record {
  some = λ e. front_some (sized_bytes e.name.bytes) (kind_byte e.kind ∷ unsigned_bytes e.index) (counted_some (length e.name.bytes) e.name.bytes);
  spelled = λ e h l.
      let name = sized_bytes e.name.bytes in
      let target = kind_byte e.kind ∷ unsigned_bytes e.index in
      (name, target, refl, name_writes.spelled e.name tt (front_short name target l), (kind_byte e.kind ∷ [], unsigned_bytes e.index, refl, kind_spelled e.kind, u32_spelled e.index h));
}

-- 5.5.12 element segments
pub element_writes : Writes IsElement element_bytes element_node FitsElement
element_writes = record {
  some = λ e. front_some (unsigned_bytes e.table ++ expr_bytes e.offset) (vec_bytes unsigned_bytes e.funcs) (front_some (unsigned_bytes e.table) (expr_bytes e.offset) (unsigned_some e.table));
  spelled = λ e h l.
      let table = unsigned_bytes e.table in
      let offset = expr_bytes e.offset in
      let funcs = vec_bytes unsigned_bytes e.funcs in
      let s = three_short table offset funcs l in
      (table, offset ++ funcs, append_assoc table offset funcs, u32_spelled e.table h.table, (offset, funcs, refl, expr_spelled e.offset h.offset s.middle, indices_spelled e.funcs h.funcs s.back));
}

-- 5.5.13 bodies
group_writes : Writes IsGroup group_bytes group_node (λ g. FitsIndex g.count)
group_writes = record {
  some = λ g. front_some (unsigned_bytes g.count) (val_type_bytes g.ty) (unsigned_some g.count);
  spelled = λ g h l. (unsigned_bytes g.count, val_type_bytes g.ty, refl, u32_spelled g.count h, val_type_spelled g.ty);
}

groups_fit : (gs : List Group) → FitsIndex (locals_of gs) → All (λ (g : Group). FitsIndex g.count) gs
groups_fit [] h = All-nil (λ (g : Group). FitsIndex g.count)
groups_fit (g ∷ gs) h = All-cons (λ (g : Group). FitsIndex g.count) g gs (omega arith) (groups_fit gs (omega arith))

same_locals : (gs : List Group) → local_count (map group_node gs) ≡ locals_of gs
same_locals [] = refl
same_locals (g ∷ gs) = let h = same_locals gs in omega arith

pub body_writes : Writes IsBody body_bytes body_node FitsBody
body_writes = record {
  some = λ b. front_some (vec_bytes group_bytes b.groups) (expr_bytes b.code) (counted_some (length b.groups) (items_bytes group_bytes b.groups));
  spelled = λ b h l.
      let groups = vec_bytes group_bytes b.groups in
      let locals = (vec_writes IsGroup group_bytes group_node (λ g. FitsIndex g.count) group_writes).spelled b.groups (groups_fit b.groups h.locals) (front_short groups (expr_bytes b.code) l) in
      let e = same_locals b.groups in
      let few = h.locals in
      (omega arith, (groups, expr_bytes b.code, refl, locals, expr_spelled b.code h.code (back_short groups (expr_bytes b.code) l)));
}

-- 5.5.14 data segments
bytes_spelled : (bytes : List ℕ) → All (λ b. b < 256) bytes → AreItems IsByte bytes bytes
bytes_spelled [] h = refl
bytes_spelled (b ∷ bs) h = (b ∷ [], bs, refl, (refl, All-head (λ b. b < 256) b bs h), bytes_spelled bs (All-tail (λ b. b < 256) b bs h))

pub segment_writes : Writes IsSegment segment_bytes segment_node FitsSegment
segment_writes = record {
  some = λ d. front_some (unsigned_bytes d.memory ++ expr_bytes d.offset) (sized_bytes d.bytes) (front_some (unsigned_bytes d.memory) (expr_bytes d.offset) (unsigned_some d.memory));
  spelled = λ d h l.
      let memory = unsigned_bytes d.memory in
      let offset = expr_bytes d.offset in
      let content = sized_bytes d.bytes in
      let s = three_short memory offset content l in
      (memory, offset ++ content, append_assoc memory offset content, u32_spelled d.memory h.memory, (offset, content, refl, expr_spelled d.offset h.offset s.middle, (unsigned_bytes (length d.bytes), d.bytes, refl, counted_short (length d.bytes) d.bytes (omega arith) s.back, bytes_spelled d.bytes h.bytes)));
}
