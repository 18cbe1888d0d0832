-- The canonical bytes of each entry of a section are the least that spell it.
use Rattle.std.proofs.Common.{◌≡◌, ℕ, ◌≤◌, List, [], ◌∷◌, ◌++◌, length, ap, length-append, arith}
use Rattle.std.specs.Prelude.{map, Option, Some, None, Bool, true, false}
use Rattle.module_ast.specs.declared.module.Range.{Range}
use Rattle.module_ast.specs.declared.module.GlobalType.{GlobalType}
use Rattle.module_ast.specs.declared.module.FuncType.{FuncType}
use Rattle.module_ast.specs.declared.module.Item.{Item}
use Rattle.module_ast.specs.declared.module.Item.TheVariants as items
use Rattle.module_ast.specs.declared.module.Import.{Import}
use Rattle.module_ast.specs.declared.module.GlobalDef.{GlobalDef}
use Rattle.module_ast.specs.declared.module.ExportKind.{ExportKind}
use Rattle.module_ast.specs.declared.module.ExportKind.TheVariants as kinds
use Rattle.module_ast.specs.declared.module.Export.{Export}
use Rattle.module_ast.specs.declared.module.Element.{Element}
use Rattle.module_ast.specs.declared.module.Segment.{Segment}
use Rattle.module_ast.specs.declared.module.Group.{Group}
use Rattle.module_ast.specs.declared.module.Body.{Body}
use Rattle.leb_binary.specs.Shortest.{unsigned_bytes}
use Rattle.module_ast.specs.Binary.Grammar as grammar
use Rattle.leb_binary.specs.Reading.{IsByte}
use Rattle.module_ast.specs.Binary.{AreItems, IsVec, IsValType, IsFuncType, IsMemoryType, IsTableType, IsMutability, IsGlobalType, IsItem, IsImport, IsGlobal, IsExportKind, IsExport, IsElement, IsGroup, IsBody, IsSegment, vec_bytes, sized_bytes, val_type_bytes, expr_bytes, func_type_bytes, limits_bytes, table_bytes, mutability_bytes, global_type_bytes, item_bytes, import_bytes, global_bytes, kind_byte, export_bytes, element_bytes, group_bytes, body_bytes, segment_bytes, func_type_node, global_type_node, item_node, import_node, global_node, export_node, element_node, group_node, body_node, segment_node}
use Rattle.module_ast.proofs.Least.{AtLeast, least_same, least_both, least_op, u32_least, indices_least, name_least, vec_least}
use Rattle.module_ast.proofs.LeastCode.{val_type_least, expr_least}

-- three parts, one after another
least_three : (a b c front middle back rest bytes : List ℕ) → bytes ≡ front ++ rest → rest ≡ middle ++ back → length a ≤ length front → length b ≤ length middle → length c ≤ length back → length (a ++ b ++ c) ≤ length bytes
least_three a b c front middle back rest bytes e f h i j =
    let n = length-append (a ++ b) c in
    let u = length-append a b in
    let v = length-append front rest in
    let w = length-append middle back in
    omega (arith, ap length e, ap length f)

-- 5.3.3 types of functions
types_least : AtLeast (IsVec IsValType) (vec_bytes val_type_bytes) (map grammar.integer)
types_least = vec_least IsValType val_type_bytes grammar.integer (record { least = val_type_least })

func_type_at_least : (bytes : List ℕ) (t : FuncType) → IsFuncType bytes (func_type_node t) → length (func_type_bytes t) ≤ length bytes
func_type_at_least bytes t (rest, e, (a, b, f, h, k)) =
    let params = vec_bytes val_type_bytes t.params in
    let results = vec_bytes val_type_bytes t.results in
    least_op 0x60 (params ++ results) rest bytes e (least_both params results a b rest f (types_least.least a t.params h) (types_least.least b t.results k))

pub func_type_least : AtLeast IsFuncType func_type_bytes func_type_node
func_type_least = record { least = func_type_at_least }

-- 5.3.4 limits
limits_least : (bytes : List ℕ) (m : ℕ) (n : Option ℕ) → (let r : Range = record { min = m; max = n } in IsMemoryType bytes r → length (limits_bytes r) ≤ length bytes)
limits_least bytes m None (rest, e, h) = least_op 0x00 (unsigned_bytes m) rest bytes e (u32_least rest m h)
limits_least bytes m (Some n) (rest, e, (a, b, f, h, k)) =
    least_op 0x01 (unsigned_bytes m ++ unsigned_bytes n) rest bytes e (least_both (unsigned_bytes m) (unsigned_bytes n) a b rest f (u32_least a m h) (u32_least b n k))

pub memory_least : AtLeast IsMemoryType limits_bytes (λ r. r)
memory_least = record { least = λ bytes r h. limits_least bytes r.min r.max h }

table_at_least : (bytes : List ℕ) (r : Range) → IsTableType bytes r → length (table_bytes r) ≤ length bytes
table_at_least bytes r (rest, e, h) = least_op 0x70 (limits_bytes r) rest bytes e (limits_least rest r.min r.max h)

pub table_least : AtLeast IsTableType table_bytes (λ r. r)
table_least = record { least = table_at_least }

-- 5.3.7 types of globals
mutability_least : (bytes : List ℕ) (b : Bool) → IsMutability bytes b → length (mutability_bytes b) ≤ length bytes
mutability_least bytes false h = omega (arith, ap length h)
mutability_least bytes true h = omega (arith, ap length h)

global_type_least : (bytes : List ℕ) (g : GlobalType) → IsGlobalType bytes (global_type_node g) → length (global_type_bytes g) ≤ length bytes
global_type_least bytes g (a, b, e, h, k) = least_both (val_type_bytes g.ty) (mutability_bytes g.mutable) a b bytes e (val_type_least a g.ty h) (mutability_least b g.mutable k)

-- 5.5.5 imports
item_least : (bytes : List ℕ) (i : Item) → IsItem bytes (item_node i) → length (item_bytes i) ≤ length bytes
item_least bytes (items.Func ty) (rest, e, h) = least_op 0x00 (unsigned_bytes ty) rest bytes e (u32_least rest ty h)
item_least bytes (items.Table r) (rest, e, h) = least_op 0x01 (table_bytes r) rest bytes e (table_at_least rest r h)
item_least bytes (items.Memory r) (rest, e, h) = least_op 0x02 (limits_bytes r) rest bytes e (limits_least rest r.min r.max h)
item_least bytes (items.Global g) (rest, e, h) = least_op 0x03 (global_type_bytes g) rest bytes e (global_type_least rest g h)

import_at_least : (bytes : List ℕ) (i : Import) → IsImport bytes (import_node i) → length (import_bytes i) ≤ length bytes
import_at_least bytes i (front, rest, e, h, (middle, back, f, j, k)) =
    least_three (sized_bytes i.module.bytes) (sized_bytes i.name.bytes) (item_bytes i.item) front middle back rest bytes e f (name_least front i.module h) (name_least middle i.name j) (item_least back i.item k)

pub import_least : AtLeast IsImport import_bytes import_node
import_least = record { least = import_at_least }

-- 5.5.9 globals
global_at_least : (bytes : List ℕ) (g : GlobalDef) → IsGlobal bytes (global_node g) → length (global_bytes g) ≤ length bytes
global_at_least bytes g (a, b, e, h, k) = least_both (global_type_bytes g.ty) (expr_bytes g.init) a b bytes e (global_type_least a g.ty h) (expr_least b g.init k)

pub global_least : AtLeast IsGlobal global_bytes global_node
global_least = record { least = global_at_least }

-- 5.5.10 exports
kind_least : (bytes : List ℕ) (k : ExportKind) → IsExportKind bytes k → length (kind_byte k ∷ []) ≤ length bytes
kind_least bytes kinds.Func h = omega (arith, ap length h)
kind_least bytes k h = omega (arith, ap length h)

export_at_least : (bytes : List ℕ) (x : Export) → IsExport bytes (export_node x) → length (export_bytes x) ≤ length bytes
export_at_least bytes x (front, rest, e, h, (a, b, f, j, k)) =
    let target = kind_byte x.kind ∷ unsigned_bytes x.index in
    least_both (sized_bytes x.name.bytes) target front rest bytes e (name_least front x.name h) (least_both (kind_byte x.kind ∷ []) (unsigned_bytes x.index) a b rest f (kind_least a x.kind j) (u32_least b x.index k))

pub export_least : AtLeast IsExport export_bytes export_node
export_least = record { least = export_at_least }

-- 5.5.12 element segments
element_at_least : (bytes : List ℕ) (x : Element) → IsElement bytes (element_node x) → length (element_bytes x) ≤ length bytes
element_at_least bytes x (front, rest, e, h, (middle, back, f, j, k)) =
    least_three (unsigned_bytes x.table) (expr_bytes x.offset) (vec_bytes unsigned_bytes x.funcs) front middle back rest bytes e f (u32_least front x.table h) (expr_least middle x.offset j) (indices_least back x.funcs k)

pub element_least : AtLeast IsElement element_bytes element_node
element_least = record { least = element_at_least }

-- 5.5.13 bodies
group_at_least : (bytes : List ℕ) (g : Group) → IsGroup bytes (group_node g) → length (group_bytes g) ≤ length bytes
group_at_least bytes g (a, b, e, h, k) = least_both (unsigned_bytes g.count) (val_type_bytes g.ty) a b bytes e (u32_least a g.count h) (val_type_least b g.ty k)

groups_least : AtLeast (IsVec IsGroup) (vec_bytes group_bytes) (map group_node)
groups_least = vec_least IsGroup group_bytes group_node (record { least = group_at_least })

body_at_least : (bytes : List ℕ) (x : Body) → IsBody bytes (body_node x) → length (body_bytes x) ≤ length bytes
body_at_least bytes x (few, (a, b, e, h, k)) = least_both (vec_bytes group_bytes x.groups) (expr_bytes x.code) a b bytes e (groups_least.least a x.groups h) (expr_least b x.code k)

pub body_least : AtLeast IsBody body_bytes body_node
body_least = record { least = body_at_least }

-- 5.5.14 data segments
bytes_least : (bytes xs : List ℕ) → AreItems IsByte bytes xs → length xs ≤ length bytes
bytes_least bytes [] h = omega arith
bytes_least bytes (x ∷ xs) (front, rest, e, p, q) = least_both (x ∷ []) xs front rest bytes e (least_same (x ∷ []) front p.0) (bytes_least rest xs q)

content_least : (bytes xs : List ℕ) → IsVec IsByte bytes xs → length (sized_bytes xs) ≤ length bytes
content_least bytes xs (size, rest, e, n, h) = least_both (unsigned_bytes (length xs)) xs size rest bytes e (u32_least size (length xs) n) (bytes_least rest xs h)

segment_at_least : (bytes : List ℕ) (x : Segment) → IsSegment bytes (segment_node x) → length (segment_bytes x) ≤ length bytes
segment_at_least bytes x (front, rest, e, h, (middle, back, f, j, k)) =
    least_three (unsigned_bytes x.memory) (expr_bytes x.offset) (sized_bytes x.bytes) front middle back rest bytes e f (u32_least front x.memory h) (expr_least middle x.offset j) (content_least back x.bytes k)

pub segment_least : AtLeast IsSegment segment_bytes segment_node
segment_least = record { least = segment_at_least }
