-- Parts of canonical bytes are no longer than the whole, and an opcode takes a byte at least.
--     code_counts, body_counts      code and a body have no more positions than bytes
--     sized_counts, item_counts, section_counts      bytes behind their number, an entry, and entries in their section
--     bodies_count      the section of bodies in its module
--     within_front, within_back, within_both      numbers within a bound, in two parts
--     within_more, within_all, all_within      within a greater one;  by elements
use Rattle.std.proofs.Common.{ℕ, suc, ◌+◌, ◌≤◌, inl, inr, List, [], ◌∷◌, ◌++◌, length, map, ap, ◌≡◌, arith, length-append}
use Rattle.std.specs.List.{AllByRecursion}
use Rattle.leb_binary.specs.Shortest.{unsigned_bytes}
use Rattle.module_ast.specs.declared.module.Body.{Body}
use Rattle.module_ast.specs.declared.module.Module.{Module}
use Rattle.module_ast.specs.Structure.{Tree, done, plain, block, loop, if_then, if_else, Plain, unreachable}
use Rattle.module_ast.specs.Binary.{header, func_type_bytes, import_bytes, table_bytes, limits_bytes, global_bytes, export_bytes, start_bytes, element_bytes, items_bytes, vec_bytes, vec_section, sized_bytes, block_type_bytes, plain_bytes, code_bytes, expr_bytes, group_bytes, body_bytes, segment_bytes, module_bytes, AreWithin}
use Rattle.module_ast.specs.Places.{code_size}
use Rattle.module_ast.proofs.Indexed.{IsIn}

-- ---- a byte for each opcode

-- an instruction with no sequence in it
plain_counts : (i : Plain) → 1 ≤ length (plain_bytes i)
plain_counts unreachable = omega arith
plain_counts i = omega arith

-- a block has its own two opcodes beside those of its parts, n and r of them
block_counts : (type body rest : List ℕ) (n r : ℕ) → n ≤ length body → r ≤ length rest → n + 2 + r ≤ suc (length (type ++ body ++ 0x0B ∷ rest))
block_counts type body rest n r inside behind = omega (arith, length-append (type ++ body) (0x0B ∷ rest), length-append type body)

-- and an `if` with an else part three
else_counts : (type body other rest : List ℕ) (n e r : ℕ) → n ≤ length body → e ≤ length other → r ≤ length rest
    → n + e + 3 + r ≤ suc (length (type ++ body ++ 0x05 ∷ (other ++ 0x0B ∷ rest)))
else_counts type body other rest n e r inside els behind =
    omega (arith, length-append (type ++ body) (0x05 ∷ (other ++ 0x0B ∷ rest)), length-append type body, length-append other (0x0B ∷ rest))

-- a sequence
pub code_counts : (k : Tree) → code_size k ≤ length (code_bytes k)
code_counts done = omega arith
code_counts (plain i k) = omega (arith, plain_counts i, code_counts k, length-append (plain_bytes i) (code_bytes k))
code_counts (block ty body k) = block_counts (block_type_bytes ty) (code_bytes body) (code_bytes k) _ _ (code_counts body) (code_counts k)
code_counts (loop ty body k) = block_counts (block_type_bytes ty) (code_bytes body) (code_bytes k) _ _ (code_counts body) (code_counts k)
code_counts (if_then ty body k) = block_counts (block_type_bytes ty) (code_bytes body) (code_bytes k) _ _ (code_counts body) (code_counts k)
code_counts (if_else ty body other k) =
    else_counts (block_type_bytes ty) (code_bytes body) (code_bytes other) (code_bytes k) _ _ _ (code_counts body) (code_counts other) (code_counts k)

-- ---- a part is no longer than the whole

-- bytes behind their number
pub sized_counts : (bytes : List ℕ) → length bytes ≤ length (sized_bytes bytes)
sized_counts bytes = omega (arith, length-append (unsigned_bytes (length bytes)) bytes)

-- a body with its end, behind its size
pub body_counts : (b : Body) → code_size b.code + 1 ≤ length (sized_bytes (body_bytes b))
body_counts b =
    omega (
      arith,
      code_counts b.code,
      sized_counts (body_bytes b),
      length-append (vec_bytes group_bytes b.groups) (expr_bytes b.code),
      length-append (code_bytes b.code) (0x0B ∷ []),
    )

-- an entry among all of them
pub item_counts : {A : Type 0} (f : A → List ℕ) (xs : List A) (x : A) → IsIn x xs → length (f x) ≤ length (items_bytes f xs)
item_counts f [] x h = absurd h
item_counts f (y ∷ ys) x (inl e) = let same : length (f x) ≡ length (f y) = ap (λ z. length (f z)) e in omega (arith, same, length-append (f y) (items_bytes f ys))
item_counts f (y ∷ ys) x (inr h) = omega (arith, item_counts f ys x h, length-append (f y) (items_bytes f ys))

-- the entries in their section
pub section_counts : {A : Type 0} (id : ℕ) (f : A → List ℕ) (xs : List A) → length (items_bytes f xs) ≤ length (vec_section id f xs)
section_counts id f [] = omega arith
section_counts id f (x ∷ xs) =
    let content = vec_bytes f (x ∷ xs) in
    omega (arith, length-append (unsigned_bytes (length (x ∷ xs))) (items_bytes f (x ∷ xs)), sized_counts content)

-- what stands before the bodies
abbrev front_bytes : Module → List ℕ
front_bytes m =
    header
    ++ vec_section 1 func_type_bytes m.types
    ++ vec_section 2 import_bytes m.imports
    ++ vec_section 3 unsigned_bytes m.funcs
    ++ vec_section 4 table_bytes m.tables
    ++ vec_section 5 limits_bytes m.memories
    ++ vec_section 6 global_bytes m.globals
    ++ vec_section 7 export_bytes m.exports
    ++ start_bytes m.start
    ++ vec_section 9 element_bytes m.elements

-- the bodies with their sizes, in their module
pub bodies_count : (m : Module) → length (items_bytes (λ b. sized_bytes (body_bytes b)) m.bodies) ≤ length (module_bytes m)
bodies_count m =
    let front = front_bytes m in
    let bodies = vec_section 10 (λ b. sized_bytes (body_bytes b)) m.bodies in
    let behind = vec_section 11 segment_bytes m.segments in
    omega (arith, section_counts 10 (λ b. sized_bytes (body_bytes b)) m.bodies, length-append (front ++ bodies) behind, length-append front bodies)

-- so each body has no more positions than its module has bytes
pub body_within : (m : Module) (b : Body) → IsIn b m.bodies → code_size b.code + 1 ≤ length (module_bytes m)
body_within m b h = omega (arith, body_counts b, item_counts (λ b. sized_bytes (body_bytes b)) m.bodies b h, bodies_count m)

-- ---- numbers within a bound

-- in two parts
pub within_front : (n : ℕ) (xs ys : List ℕ) → AreWithin n (xs ++ ys) → AreWithin n xs
within_front n [] ys h = tt
within_front n (x ∷ xs) ys h = (h.0, within_front n xs ys h.1)

pub within_back : (n : ℕ) (xs ys : List ℕ) → AreWithin n (xs ++ ys) → AreWithin n ys
within_back n [] ys h = h
within_back n (x ∷ xs) ys h = within_back n xs ys h.1

pub within_both : (n : ℕ) (xs ys : List ℕ) → AreWithin n xs → AreWithin n ys → AreWithin n (xs ++ ys)
within_both n [] ys h k = k
within_both n (x ∷ xs) ys h k = (h.0, within_both n xs ys h.1 k)

-- within a greater bound
pub within_more : (m n : ℕ) (xs : List ℕ) → m ≤ n → AreWithin m xs → AreWithin n xs
within_more m n [] l h = tt
within_more m n (x ∷ xs) l h = (omega (arith, h.0), within_more m n xs l h.1)

-- by elements, and back
pub within_all : {A : Type 0} (f : A → ℕ) (n : ℕ) (xs : List A) → AreWithin n (map f xs) → AllByRecursion (λ (x : A). f x ≤ n) xs
within_all f n [] h = tt
within_all f n (x ∷ xs) h = (h.0, within_all f n xs h.1)

pub all_within : {A : Type 0} (f : A → ℕ) (n : ℕ) (xs : List A) → AllByRecursion (λ (x : A). f x ≤ n) xs → AreWithin n (map f xs)
all_within f n [] h = tt
all_within f n (x ∷ xs) h = (h.0, all_within f n xs h.1)
