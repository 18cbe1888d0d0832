-- The canonical bytes of code that fits are in the grammar.
use Rattle.std.proofs.Common.{ℕ, ◌^◌, ◌<◌, pos, List, [], ◌∷◌, ◌++◌, length, refl, append_assoc}
use Rattle.wasm_num.specs.declared.ValType.{ValType}
use Rattle.wasm_num.specs.declared.ValType.TheVariants.{I32, I64}
use Rattle.module_ast.specs.declared.code.BlockType.{BlockType}
use Rattle.module_ast.specs.declared.code.BlockType.TheVariants.{Empty, Value, Indexed}
use Rattle.module_ast.specs.declared.ops.MemArg.{MemArg}
use Rattle.std.specs.Prelude.{All}
use Rattle.leb_binary.specs.Shortest.{unsigned_bytes, signed_bytes}
use Rattle.leb_binary.proofs.Spelled.{spelled_signed}
use Rattle.module_ast.specs.Binary.Grammar as grammar
use Rattle.module_ast.specs.Binary.{IsU32, IsVec, IsValType, IsBlockType, IsMemArg, IsPlain, IsCode, IsExpr, vec_bytes, val_type_bytes, block_type_bytes, mem_arg_bytes, plain_bytes, code_bytes, expr_bytes, code_node, block_type_node, FitsIndex, FitsBlockType, FitsMemArg, FitsPlain, FitsCode}
use Rattle.module_ast.specs.Structure.{Tree, done, plain, block, loop, if_then, if_else, Plain, br, br_if, br_table, call, call_indirect, local_get, local_set, local_tee, global_get, global_set, load, store, i32_const, i64_const}
use Rattle.module_ast.proofs.Writers.{front_short, back_short, rest_short, three_short, u32_spelled, index_writes, list_writes}

-- types
pub val_type_spelled : (t : ValType) → IsValType (val_type_bytes t) (grammar.integer t)
val_type_spelled I32 = refl
val_type_spelled I64 = refl

block_type_spelled : (t : BlockType) → FitsBlockType t → IsBlockType (block_type_bytes t) (block_type_node t)
block_type_spelled Empty h = refl
block_type_spelled (Value t) h = val_type_spelled t
block_type_spelled (Indexed x) h = spelled_signed 33 (pos x) h

-- lists of indices
pub indices_spelled : (xs : List ℕ) → All FitsIndex xs → length (vec_bytes unsigned_bytes xs) < 2 ^ 32 → IsVec IsU32 (vec_bytes unsigned_bytes xs) xs
indices_spelled = (list_writes IsU32 unsigned_bytes FitsIndex index_writes).spelled

mem_arg_spelled : (m : MemArg) → FitsMemArg m → IsMemArg (mem_arg_bytes m) m
mem_arg_spelled m h = (unsigned_bytes m.align, unsigned_bytes m.offset, refl, u32_spelled m.align h.0, u32_spelled m.offset h.1)

-- instructions without code of their own
pub plain_spelled : (p : Plain) → FitsPlain p → length (plain_bytes p) < 2 ^ 32 → IsPlain (plain_bytes p) p
plain_spelled (br x) h l = (unsigned_bytes x, refl, u32_spelled x h)
plain_spelled (br_if x) h l = (unsigned_bytes x, refl, u32_spelled x h)
plain_spelled (call x) h l = (unsigned_bytes x, refl, u32_spelled x h)
plain_spelled (local_get x) h l = (unsigned_bytes x, refl, u32_spelled x h)
plain_spelled (local_set x) h l = (unsigned_bytes x, refl, u32_spelled x h)
plain_spelled (local_tee x) h l = (unsigned_bytes x, refl, u32_spelled x h)
plain_spelled (global_get x) h l = (unsigned_bytes x, refl, u32_spelled x h)
plain_spelled (global_set x) h l = (unsigned_bytes x, refl, u32_spelled x h)
plain_spelled (br_table xs x) h l =
    let table = vec_bytes unsigned_bytes xs in
    let short = front_short table (unsigned_bytes x) (rest_short 0x0E (table ++ unsigned_bytes x) l) in
    (table ++ unsigned_bytes x, refl, (table, unsigned_bytes x, refl, indices_spelled xs h.0 short, u32_spelled x h.1))
plain_spelled (call_indirect t) h l = (unsigned_bytes t ++ 0 ∷ [], refl, (unsigned_bytes t, refl, u32_spelled t h))
plain_spelled (load op m) h l = (mem_arg_bytes m, refl, mem_arg_spelled m h)
plain_spelled (store op m) h l = (mem_arg_bytes m, refl, mem_arg_spelled m h)
plain_spelled (i32_const z) h l = (signed_bytes z, refl, spelled_signed 32 z h)
plain_spelled (i64_const z) h l = (signed_bytes z, refl, spelled_signed 64 z h)
plain_spelled p h l = refl

pub code_spelled : (t : Tree) → FitsCode t → length (code_bytes t) < 2 ^ 32 → IsCode (code_bytes t) (code_node t)
code_spelled done h l = refl
code_spelled (plain p k) h l = (plain_bytes p, code_bytes k, refl, plain_spelled p h.0 (front_short (plain_bytes p) (code_bytes k) l), code_spelled k h.1 (back_short (plain_bytes p) (code_bytes k) l))
code_spelled (block ty b k) h l =
    let inner = block_type_bytes ty ++ code_bytes b ++ 0x0B ∷ [] in
    let s = three_short (block_type_bytes ty) (code_bytes b) (0x0B ∷ code_bytes k) (rest_short 0x02 (block_type_bytes ty ++ code_bytes b ++ 0x0B ∷ code_bytes k) l) in
    (0x02 ∷ inner, code_bytes k, simp append_assoc, (inner, refl, (block_type_bytes ty, code_bytes b, refl, block_type_spelled ty h.0, code_spelled b h.1 s.middle)), code_spelled k h.2 (rest_short 0x0B (code_bytes k) s.back))
code_spelled (loop ty b k) h l =
    let inner = block_type_bytes ty ++ code_bytes b ++ 0x0B ∷ [] in
    let s = three_short (block_type_bytes ty) (code_bytes b) (0x0B ∷ code_bytes k) (rest_short 0x03 (block_type_bytes ty ++ code_bytes b ++ 0x0B ∷ code_bytes k) l) in
    (0x03 ∷ inner, code_bytes k, simp append_assoc, (inner, refl, (block_type_bytes ty, code_bytes b, refl, block_type_spelled ty h.0, code_spelled b h.1 s.middle)), code_spelled k h.2 (rest_short 0x0B (code_bytes k) s.back))
code_spelled (if_then ty b k) h l =
    let inner = block_type_bytes ty ++ code_bytes b ++ 0x0B ∷ [] in
    let s = three_short (block_type_bytes ty) (code_bytes b) (0x0B ∷ code_bytes k) (rest_short 0x04 (block_type_bytes ty ++ code_bytes b ++ 0x0B ∷ code_bytes k) l) in
    (0x04 ∷ inner, code_bytes k, simp append_assoc, (inner, refl, (block_type_bytes ty, code_bytes b, refl, block_type_spelled ty h.0, code_spelled b h.1 s.middle)), code_spelled k h.2 (rest_short 0x0B (code_bytes k) s.back))
code_spelled (if_else ty b o k) h l =
    let both = code_bytes b ++ 0x05 ∷ code_bytes o in
    let inner = block_type_bytes ty ++ both ++ 0x0B ∷ [] in
    let behind = code_bytes o ++ 0x0B ∷ code_bytes k in
    let s = three_short (block_type_bytes ty) (code_bytes b) (0x05 ∷ behind) (rest_short 0x04 (block_type_bytes ty ++ code_bytes b ++ 0x05 ∷ behind) l) in
    let other = rest_short 0x05 behind s.back in
    (0x04 ∷ inner, code_bytes k, simp append_assoc, (inner, refl, (block_type_bytes ty, both, refl, block_type_spelled ty h.0, (code_bytes b, code_bytes o, refl, code_spelled b h.1 s.middle, code_spelled o h.2 (front_short (code_bytes o) (0x0B ∷ code_bytes k) other)))), code_spelled k h.3 (rest_short 0x0B (code_bytes k) (back_short (code_bytes o) (0x0B ∷ code_bytes k) other)))

pub expr_spelled : (t : Tree) → FitsCode t → length (expr_bytes t) < 2 ^ 32 → IsExpr (expr_bytes t) (code_node t)
expr_spelled t h l = (code_bytes t, refl, code_spelled t h (front_short (code_bytes t) (0x0B ∷ []) l))
