-- A module has fewer entries than canonical bytes, and no more functions are imported than there are imports.
use Rattle.std.proofs.Common.{◌≡◌, ℕ, ◌+◌, ◌≤◌, List, [], ◌∷◌, ◌++◌, length, length-append, arith}
use Rattle.module_ast.specs.declared.module.GlobalDef.{GlobalDef}
use Rattle.module_ast.specs.declared.module.Item.{Item}
use Rattle.module_ast.specs.declared.module.Item.TheVariants as items
use Rattle.module_ast.specs.declared.module.Import.{Import}
use Rattle.module_ast.specs.declared.module.Module.{Module}
use Rattle.leb_binary.specs.Shortest.{unsigned_bytes}
use Rattle.module_ast.specs.Binary.{header, items_bytes, vec_bytes, sized_bytes, vec_section, start_bytes, module_bytes, func_type_bytes, import_bytes, table_bytes, limits_bytes, global_bytes, export_bytes, element_bytes, body_bytes, segment_bytes}
use Rattle.module_ast.specs.Structure.{imported_funcs}
use Rattle.module_ast.specs.Validation.{IsWhole, longest_file}
use Rattle.module_ast.proofs.Writers.{unsigned_some, items_many}
use Rattle.module_ast.proofs.WrittenEntries.{import_writes, memory_writes}

-- lists one after another are as long as all together
all_lengths : (h a b c d e f g i j k l : List ℕ) → length (h ++ a ++ b ++ c ++ d ++ e ++ f ++ g ++ i ++ j ++ k ++ l) ≡ length h + length a + length b + length c + length d + length e + length f + length g + length i + length j + length k + length l
all_lengths h a b c d e f g i j k l = simp length-append

module _ {A : Type 0} (f : A → List ℕ) (one : (x : A) → 1 ≤ length (f x)) where
  -- each entry has a byte of its section
  few_entries : (id : ℕ) (xs : List A) → length xs ≤ length (vec_section id f xs)
  few_entries id [] = omega arith
  few_entries id (x ∷ xs) =
      let content = vec_bytes f (x ∷ xs) in
      let inner = length-append (unsigned_bytes (length (x ∷ xs))) (items_bytes f (x ∷ xs)) in
      let outer = length-append (unsigned_bytes (length content)) content in
      omega (arith, items_many f one (x ∷ xs), inner, outer)

-- entries that have an index, imports among them once
abbrev pub entries : Module → ℕ
entries m = length m.imports + length m.funcs + length m.tables + length m.memories + length m.globals

pub entries_few : (m : Module) → entries m ≤ length (module_bytes m)
entries_few m =
    let imports = vec_section 2 import_bytes m.imports in
    let funcs = vec_section 3 unsigned_bytes m.funcs in
    let tables = vec_section 4 table_bytes m.tables in
    let memories = vec_section 5 limits_bytes m.memories in
    let globals = vec_section 6 global_bytes m.globals in
    let whole = all_lengths header (vec_section 1 func_type_bytes m.types) imports funcs tables memories globals (vec_section 7 export_bytes m.exports) (start_bytes m.start) (vec_section 9 element_bytes m.elements) (vec_section 10 (λ b. sized_bytes (body_bytes b)) m.bodies) (vec_section 11 segment_bytes m.segments) in
    let i : length m.imports ≤ length imports = few_entries import_bytes import_writes.some 2 m.imports in
    let f : length m.funcs ≤ length funcs = few_entries unsigned_bytes unsigned_some 3 m.funcs in
    let t : length m.tables ≤ length tables = few_entries table_bytes (λ r. omega arith) 4 m.tables in
    let s : length m.memories ≤ length memories = few_entries limits_bytes memory_writes.some 5 m.memories in
    let g : length m.globals ≤ length globals = few_entries global_bytes (λ (d : GlobalDef). omega arith) 6 m.globals in
    omega (arith, whole)

-- in a whole module
pub entries_fit : (m : Module) → IsWhole m → entries m ≤ longest_file
entries_fit m w = omega (arith, entries_few m, w.size)

imported_one : (i : Import) (item : Item) (is : List Import) → length (imported_funcs is) ≤ length is → (let j = record i { item = item } in length (imported_funcs (j ∷ is)) ≤ length (j ∷ is))
imported_one i (items.Func ty) is h = omega arith
imported_one i item is h = omega arith

pub imported_few : (is : List Import) → length (imported_funcs is) ≤ length is
imported_few [] = omega arith
imported_few (i ∷ is) = imported_one i i.item is (imported_few is)
