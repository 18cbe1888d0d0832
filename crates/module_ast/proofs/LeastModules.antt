-- The canonical bytes of a module are the least that spell it: each section that it needs stands in the file.
use Rattle.std.proofs.Common.{◌≡◌, ℕ, ◌+◌, ◌≤◌, ◌⊎◌, inl, inr, List, [], ◌∷◌, ◌++◌, length, refl, sym, ap, ◌∙◌, subst, length-append, arith}
use Rattle.std.specs.Prelude.{map, Option, Some, None}
use Rattle.std.proofs.lemmas.List.{map-id}
use Rattle.module_ast.specs.declared.module.Range.{Range}
use Rattle.module_ast.specs.declared.module.Module.{Module}
use Rattle.leb_binary.specs.Shortest.{unsigned_bytes}
use Rattle.module_ast.specs.Binary.Grammar as grammar
use Rattle.module_ast.specs.Binary.{IsU32, AreItems, IsVec, IsSized, IsBody, IsOp, Section, IsSection, IsFuncType, IsImport, IsTableType, IsMemoryType, IsGlobal, IsExport, IsElement, IsSegment, IsModule, header, empty_module, with_section, with_sections, custom_section, type_section, import_section, function_section, table_section, memory_section, global_section, export_section, start_section, element_section, code_section, data_section, vec_bytes, sized_bytes, vec_section, start_bytes, module_bytes, func_type_bytes, import_bytes, table_bytes, limits_bytes, global_bytes, export_bytes, element_bytes, body_bytes, segment_bytes, tree_of, func_type_node, import_node, global_node, export_node, element_node, body_node, segment_node, CanonicalBytesAreShortest}
use Rattle.module_ast.proofs.Least.{AtLeast, least_op, u32_least, index_least, least_sized, vec_least, sized_least}
use Rattle.module_ast.proofs.LeastEntries.{func_type_least, import_least, table_least, memory_least, global_least, export_least, element_least, body_least, segment_least}

abbrev same : ℕ → ℕ
same n = n

abbrev same_range : Range → Range
same_range r = r

-- entries of a module that are absent, or are those of a tree
abbrev Held : {A B : Type 0} → (A → B) → List A → List B → Type 0
Held view xs ys = (xs ≡ []) ⊎ (map view xs ≡ ys)

-- a module of which each part is absent, or is that of a tree; its custom sections are not asked for
record IsHeld (m : Module) (v : grammar.ModuleNode) : Type 0 where
  types : Held func_type_node m.types v.types
  imports : Held import_node m.imports v.imports
  funcs : Held same m.funcs v.funcs
  tables : Held same_range m.tables v.tables
  memories : Held same_range m.memories v.memories
  globals : Held global_node m.globals v.globals
  exports : Held export_node m.exports v.exports
  start : (m.start ≡ None) ⊎ (m.start ≡ v.start)
  elements : Held element_node m.elements v.elements
  bodies : Held body_node m.bodies v.bodies
  segments : Held segment_node m.segments v.segments

-- how many bytes are canonical, summed over the header and the sections
abbrev size_of : Module → ℕ
size_of m =
    8
    + length (vec_section 1 func_type_bytes m.types)
    + length (vec_section 2 import_bytes m.imports)
    + length (vec_section 3 unsigned_bytes m.funcs)
    + length (vec_section 4 table_bytes m.tables)
    + length (vec_section 5 limits_bytes m.memories)
    + length (vec_section 6 global_bytes m.globals)
    + length (vec_section 7 export_bytes m.exports)
    + length (start_bytes m.start)
    + length (vec_section 9 element_bytes m.elements)
    + length (vec_section 10 (λ b. sized_bytes (body_bytes b)) m.bodies)
    + length (vec_section 11 segment_bytes m.segments)

-- lists one after another are as long as all together
all_lengths : (h a b c d e f g i j k l : List ℕ) → length (h ++ a ++ b ++ c ++ d ++ e ++ f ++ g ++ i ++ j ++ k ++ l) ≡ length h + length a + length b + length c + length d + length e + length f + length g + length i + length j + length k + length l
all_lengths h a b c d e f g i j k l = simp length-append

-- this sum is the length of the bytes
size_is : (m : Module) → length (module_bytes m) ≡ size_of m
size_is m = all_lengths header (vec_section 1 func_type_bytes m.types) (vec_section 2 import_bytes m.imports) (vec_section 3 unsigned_bytes m.funcs) (vec_section 4 table_bytes m.tables) (vec_section 5 limits_bytes m.memories) (vec_section 6 global_bytes m.globals) (vec_section 7 export_bytes m.exports) (start_bytes m.start) (vec_section 9 element_bytes m.elements) (vec_section 10 (λ b. sized_bytes (body_bytes b)) m.bodies) (vec_section 11 segment_bytes m.segments)

module _ {A B : Type 0} (item : List ℕ → B → Type 0) (f : A → List ℕ) (view : A → B) (w : AtLeast item f view) (id : ℕ) where
  -- a section of these entries, of which there is one at least
  some_least : (x : A) (xs : List A) (ys : List B) (bytes : List ℕ) → map view (x ∷ xs) ≡ ys → IsOp id (λ rest. IsSized (IsVec item) rest ys) bytes → length (vec_section id f (x ∷ xs)) ≤ length bytes
  some_least x xs ys bytes e (rest, b, s) =
      let k : IsSized (IsVec item) rest (map view (x ∷ xs)) = subst (IsSized (IsVec item) rest) (sym e) s in
      least_op id (sized_bytes (vec_bytes f (x ∷ xs))) rest bytes b ((sized_least (IsVec item) (vec_bytes f) (map view) (vec_least item f view w)).least rest (x ∷ xs) k)

  -- the section of entries that are absent or are the tree's
  section_least : (xs : List A) (ys : List B) (bytes : List ℕ) → Held view xs ys → IsOp id (λ rest. IsSized (IsVec item) rest ys) bytes → length (vec_section id f xs) ≤ length bytes
  section_least [] ys bytes h s = omega arith
  section_least (x ∷ xs) ys bytes (inl e) s = cc
  section_least (x ∷ xs) ys bytes (inr e) s = some_least x xs ys bytes e s

  -- nothing is written where the tree has none
  none_least : (xs : List A) → Held view xs [] → length (vec_section id f xs) ≡ 0
  none_least [] h = refl
  none_least (x ∷ xs) (inl e) = cc
  none_least (x ∷ xs) (inr e) = cc

-- the start function
start_least : (o : Option ℕ) (n : ℕ) (bytes : List ℕ) → (o ≡ None) ⊎ (o ≡ Some n) → IsSection bytes (start_section, n) → length (start_bytes o) ≤ length bytes
start_least None n bytes h s = omega arith
start_least (Some x) n bytes (inl e) s = cc
start_least (Some x) n bytes (inr e) (rest, b, (size, content, c, k, u)) =
    let same_number : n ≡ x = cc in
    let v = subst (IsU32 content) same_number u in
    least_op 8 (sized_bytes (unsigned_bytes x)) rest bytes b (least_sized (unsigned_bytes x) size content rest c k (u32_least content x v))

-- nothing is written where there is none
start_none : (o : Option ℕ) → (o ≡ None) ⊎ (o ≡ None) → length (start_bytes o) ≡ 0
start_none None h = refl
start_none (Some x) (inl e) = cc
start_none (Some x) (inr e) = cc

-- that many bytes are enough for what a module holds of the tree
record IsEnough (v : grammar.ModuleNode) (count : ℕ) : Type 0 where
  enough : (m : Module) → IsHeld m v → size_of m ≤ count

-- a header is enough for a module without a part
enough_first : IsEnough empty_module 8
enough_first = record { enough = none }
  where
    none : (m : Module) → IsHeld m empty_module → size_of m ≤ 8
    none m h =
        let a = none_least IsFuncType func_type_bytes func_type_node func_type_least 1 m.types h.types in
        let b = none_least IsImport import_bytes import_node import_least 2 m.imports h.imports in
        let c = none_least IsU32 unsigned_bytes same index_least 3 m.funcs h.funcs in
        let d = none_least IsTableType table_bytes same_range table_least 4 m.tables h.tables in
        let e = none_least IsMemoryType limits_bytes same_range memory_least 5 m.memories h.memories in
        let f = none_least IsGlobal global_bytes global_node global_least 6 m.globals h.globals in
        let g = none_least IsExport export_bytes export_node export_least 7 m.exports h.exports in
        let i = start_none m.start h.start in
        let j = none_least IsElement element_bytes element_node element_least 9 m.elements h.elements in
        let k = none_least (IsSized IsBody) (λ b. sized_bytes (body_bytes b)) body_node (sized_least IsBody body_bytes body_node body_least) 10 m.bodies h.bodies in
        let l = none_least IsSegment segment_bytes segment_node segment_least 11 m.segments h.segments in
        omega arith

-- A section more, and its bytes are enough for one part more: without this part, the tree before holds the module.
enough_next : (v : grammar.ModuleNode) (s : Section) (bytes : List ℕ) (count : ℕ) → IsSection bytes s → IsEnough v count → IsEnough (with_section s v) (count + length bytes)
enough_next v (custom_section, x) bytes count s b = record {
  enough = λ m h. let k = b.enough m (record { types = h.types; imports = h.imports; funcs = h.funcs; tables = h.tables; memories = h.memories; globals = h.globals; exports = h.exports; start = h.start; elements = h.elements; bodies = h.bodies; segments = h.segments }) in omega arith;
}
enough_next v (type_section, x) bytes count s b = record {
  enough = λ m h.
      let l = section_least IsFuncType func_type_bytes func_type_node func_type_least 1 m.types x bytes h.types s in
      let k = b.enough (record m { types = [] }) (record { types = inl refl; imports = h.imports; funcs = h.funcs; tables = h.tables; memories = h.memories; globals = h.globals; exports = h.exports; start = h.start; elements = h.elements; bodies = h.bodies; segments = h.segments }) in
      omega arith;
}
enough_next v (import_section, x) bytes count s b = record {
  enough = λ m h.
      let l = section_least IsImport import_bytes import_node import_least 2 m.imports x bytes h.imports s in
      let k = b.enough (record m { imports = [] }) (record { types = h.types; imports = inl refl; funcs = h.funcs; tables = h.tables; memories = h.memories; globals = h.globals; exports = h.exports; start = h.start; elements = h.elements; bodies = h.bodies; segments = h.segments }) in
      omega arith;
}
enough_next v (function_section, x) bytes count s b = record {
  enough = λ m h.
      let l = section_least IsU32 unsigned_bytes same index_least 3 m.funcs x bytes h.funcs s in
      let k = b.enough (record m { funcs = [] }) (record { types = h.types; imports = h.imports; funcs = inl refl; tables = h.tables; memories = h.memories; globals = h.globals; exports = h.exports; start = h.start; elements = h.elements; bodies = h.bodies; segments = h.segments }) in
      omega arith;
}
enough_next v (table_section, x) bytes count s b = record {
  enough = λ m h.
      let l = section_least IsTableType table_bytes same_range table_least 4 m.tables x bytes h.tables s in
      let k = b.enough (record m { tables = [] }) (record { types = h.types; imports = h.imports; funcs = h.funcs; tables = inl refl; memories = h.memories; globals = h.globals; exports = h.exports; start = h.start; elements = h.elements; bodies = h.bodies; segments = h.segments }) in
      omega arith;
}
enough_next v (memory_section, x) bytes count s b = record {
  enough = λ m h.
      let l = section_least IsMemoryType limits_bytes same_range memory_least 5 m.memories x bytes h.memories s in
      let k = b.enough (record m { memories = [] }) (record { types = h.types; imports = h.imports; funcs = h.funcs; tables = h.tables; memories = inl refl; globals = h.globals; exports = h.exports; start = h.start; elements = h.elements; bodies = h.bodies; segments = h.segments }) in
      omega arith;
}
enough_next v (global_section, x) bytes count s b = record {
  enough = λ m h.
      let l = section_least IsGlobal global_bytes global_node global_least 6 m.globals x bytes h.globals s in
      let k = b.enough (record m { globals = [] }) (record { types = h.types; imports = h.imports; funcs = h.funcs; tables = h.tables; memories = h.memories; globals = inl refl; exports = h.exports; start = h.start; elements = h.elements; bodies = h.bodies; segments = h.segments }) in
      omega arith;
}
enough_next v (export_section, x) bytes count s b = record {
  enough = λ m h.
      let l = section_least IsExport export_bytes export_node export_least 7 m.exports x bytes h.exports s in
      let k = b.enough (record m { exports = [] }) (record { types = h.types; imports = h.imports; funcs = h.funcs; tables = h.tables; memories = h.memories; globals = h.globals; exports = inl refl; start = h.start; elements = h.elements; bodies = h.bodies; segments = h.segments }) in
      omega arith;
}
enough_next v (start_section, x) bytes count s b = record {
  enough = λ m h.
      let l = start_least m.start x bytes h.start s in
      let k = b.enough (record m { start = None }) (record { types = h.types; imports = h.imports; funcs = h.funcs; tables = h.tables; memories = h.memories; globals = h.globals; exports = h.exports; start = inl refl; elements = h.elements; bodies = h.bodies; segments = h.segments }) in
      omega arith;
}
enough_next v (element_section, x) bytes count s b = record {
  enough = λ m h.
      let l = section_least IsElement element_bytes element_node element_least 9 m.elements x bytes h.elements s in
      let k = b.enough (record m { elements = [] }) (record { types = h.types; imports = h.imports; funcs = h.funcs; tables = h.tables; memories = h.memories; globals = h.globals; exports = h.exports; start = h.start; elements = inl refl; bodies = h.bodies; segments = h.segments }) in
      omega arith;
}
enough_next v (code_section, x) bytes count s b = record {
  enough = λ m h.
      let l = section_least (IsSized IsBody) (λ b. sized_bytes (body_bytes b)) body_node (sized_least IsBody body_bytes body_node body_least) 10 m.bodies x bytes h.bodies s in
      let k = b.enough (record m { bodies = [] }) (record { types = h.types; imports = h.imports; funcs = h.funcs; tables = h.tables; memories = h.memories; globals = h.globals; exports = h.exports; start = h.start; elements = h.elements; bodies = inl refl; segments = h.segments }) in
      omega arith;
}
enough_next v (data_section, x) bytes count s b = record {
  enough = λ m h.
      let l = section_least IsSegment segment_bytes segment_node segment_least 11 m.segments x bytes h.segments s in
      let k = b.enough (record m { segments = [] }) (record { types = h.types; imports = h.imports; funcs = h.funcs; tables = h.tables; memories = h.memories; globals = h.globals; exports = h.exports; start = h.start; elements = h.elements; bodies = h.bodies; segments = inl refl }) in
      omega arith;
}

-- the sections of a file, one after another
enough_all : (v : grammar.ModuleNode) (ss : List Section) (bytes : List ℕ) (count : ℕ) → AreItems IsSection bytes ss → IsEnough v count → IsEnough (with_sections v ss) (count + length bytes)
enough_all v [] bytes count h b = record { enough = λ m k. let l = b.enough m k in omega arith }
enough_all v (s ∷ ss) bytes count (front, rest, e, p, q) b =
    let n = enough_all (with_section s v) ss rest (count + length front) q (enough_next v s front count p b) in
    let l = length-append front rest in
    record { enough = λ m k. let r = n.enough m k in omega (arith, ap length e) }

-- a module is held by its own tree
held_by : (m : Module) (v : grammar.ModuleNode) → tree_of m ≡ v → IsHeld m v
held_by m v e = record {
  types = inr (ap (λ u. u.types) e);
  imports = inr (ap (λ u. u.imports) e);
  funcs = inr (map-id m.funcs ∙ ap (λ u. u.funcs) e);
  tables = inr (map-id m.tables ∙ ap (λ u. u.tables) e);
  memories = inr (map-id m.memories ∙ ap (λ u. u.memories) e);
  globals = inr (ap (λ u. u.globals) e);
  exports = inr (ap (λ u. u.exports) e);
  start = inr (ap (λ u. u.start) e);
  elements = inr (ap (λ u. u.elements) e);
  bodies = inr (ap (λ u. u.bodies) e);
  segments = inr (ap (λ u. u.segments) e);
}

-- the law
pub module_least : CanonicalBytesAreShortest
module_least bytes m g =
    let rest = g.spelled.0 in
    let e : bytes ≡ header ++ rest = g.spelled.1 in
    let n = enough_all empty_module g.sections rest 8 g.spelled.2 enough_first in
    let k = n.enough m (held_by m (with_sections empty_module g.sections) g.collected) in
    let l = size_is m in
    omega (arith, ap length e)
