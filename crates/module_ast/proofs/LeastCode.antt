-- The canonical bytes of code are the least that spell it.
use Rattle.std.proofs.Common.{◌≡◌, ℕ, ◌≤◌, pos, List, [], ◌∷◌, ◌++◌, length, ap, length-append, arith}
use Rattle.wasm_num.specs.declared.ValType.{ValType}
use Rattle.wasm_num.specs.declared.ValType.TheVariants.{I32, I64}
use Rattle.module_ast.specs.declared.code.BlockType.{BlockType}
use Rattle.module_ast.specs.declared.code.BlockType.TheVariants.{Empty, Value, Indexed}
use Rattle.module_ast.specs.declared.ops.MemArg.{MemArg}
use Rattle.leb_binary.specs.Shortest.{unsigned_bytes, signed_bytes}
use Rattle.leb_binary.proofs.Lengths.{shortest_signed}
use Rattle.module_ast.specs.Binary.Grammar as grammar
use Rattle.module_ast.specs.Binary.{IsU32, IsValType, IsBlockType, IsMemArg, IsPlain, IsCode, IsExpr, IsOp, vec_bytes, val_type_bytes, block_type_bytes, mem_arg_bytes, plain_bytes, code_bytes, expr_bytes, code_node, block_type_node, load_opcode, store_opcode}
use Rattle.wasm_num.specs.Opcodes.{num_opcode}
use Rattle.module_ast.specs.Structure.{Tree, done, plain, block, loop, if_then, if_else, Plain, br, br_if, br_table, call, call_indirect, local_get, local_set, local_tee, global_get, global_set, load, store, i32_const, i64_const, num}
use Rattle.module_ast.proofs.Least.{least_same, least_both, least_op, u32_least, indices_least}

-- types
pub val_type_least : (bytes : List ℕ) (t : ValType) → IsValType bytes (grammar.integer t) → length (val_type_bytes t) ≤ length bytes
val_type_least bytes I32 h = omega (arith, ap length h)
val_type_least bytes I64 h = omega (arith, ap length h)

block_type_least : (bytes : List ℕ) (t : BlockType) → IsBlockType bytes (block_type_node t) → length (block_type_bytes t) ≤ length bytes
block_type_least bytes Empty h = omega (arith, ap length h)
block_type_least bytes (Value t) h = val_type_least bytes t h
block_type_least bytes (Indexed x) h = shortest_signed 33 bytes (pos x) h

-- an opcode and an index
op_least : (op n : ℕ) (bytes : List ℕ) → IsOp op (λ rest. IsU32 rest n) bytes → length (op ∷ unsigned_bytes n) ≤ length bytes
op_least op n bytes (rest, e, h) = least_op op (unsigned_bytes n) rest bytes e (u32_least rest n h)

-- an opcode and what addresses memory
access_least : (op : ℕ) (m : MemArg) (bytes : List ℕ) → IsOp op (λ rest. IsMemArg rest m) bytes → length (op ∷ mem_arg_bytes m) ≤ length bytes
access_least op m bytes (rest, e, (a, b, f, h, k)) =
    least_op op (mem_arg_bytes m) rest bytes e (least_both (unsigned_bytes m.align) (unsigned_bytes m.offset) a b rest f (u32_least a m.align h) (u32_least b m.offset k))

-- instructions without code of their own
plain_least : (bytes : List ℕ) (p : Plain) → IsPlain bytes p → length (plain_bytes p) ≤ length bytes
plain_least bytes (num op) h = least_same (num_opcode op ∷ []) bytes h
plain_least bytes (br x) h = op_least 0x0C x bytes h
plain_least bytes (br_if x) h = op_least 0x0D x bytes h
plain_least bytes (call x) h = op_least 0x10 x bytes h
plain_least bytes (local_get x) h = op_least 0x20 x bytes h
plain_least bytes (local_set x) h = op_least 0x21 x bytes h
plain_least bytes (local_tee x) h = op_least 0x22 x bytes h
plain_least bytes (global_get x) h = op_least 0x23 x bytes h
plain_least bytes (global_set x) h = op_least 0x24 x bytes h
plain_least bytes (br_table xs x) (rest, e, (a, b, f, h, k)) =
    let table = vec_bytes unsigned_bytes xs in
    least_op 0x0E (table ++ unsigned_bytes x) rest bytes e (least_both table (unsigned_bytes x) a b rest f (indices_least a xs h) (u32_least b x k))
plain_least bytes (call_indirect t) (rest, e, (index, f, h)) =
    least_op 0x11 (unsigned_bytes t ++ 0 ∷ []) rest bytes e (least_both (unsigned_bytes t) (0 ∷ []) index (0 ∷ []) rest f (u32_least index t h) (omega arith))
plain_least bytes (load op m) h = access_least (load_opcode op) m bytes h
plain_least bytes (store op m) h = access_least (store_opcode op) m bytes h
plain_least bytes (i32_const z) (rest, e, h) = least_op 0x41 (signed_bytes z) rest bytes e (shortest_signed 32 rest z h)
plain_least bytes (i64_const z) (rest, e, h) = least_op 0x42 (signed_bytes z) rest bytes e (shortest_signed 64 rest z h)
plain_least bytes p h = omega (arith, ap length h)

-- a block of its type and body, and what follows it
block_least : (op : ℕ) (ty body k bytes front rest inner t b : List ℕ) → bytes ≡ front ++ rest → front ≡ op ∷ inner → inner ≡ t ++ b ++ 0x0B ∷ [] → length ty ≤ length t → length body ≤ length b → length k ≤ length rest → length (op ∷ (ty ++ body ++ 0x0B ∷ k)) ≤ length bytes
block_least op ty body k bytes front rest inner t b e f g h i j =
    let n = length-append front rest in
    let u = length-append (t ++ b) (0x0B ∷ []) in
    let v = length-append t b in
    let x = length-append (ty ++ body) (0x0B ∷ k) in
    let y = length-append ty body in
    omega (arith, ap length e, ap length f, ap length g)

-- the same with two bodies
if_else_least : (ty body other k bytes front rest inner t both b o : List ℕ) → bytes ≡ front ++ rest → front ≡ 0x04 ∷ inner → inner ≡ t ++ both ++ 0x0B ∷ [] → both ≡ b ++ 0x05 ∷ o → length ty ≤ length t → length body ≤ length b → length other ≤ length o → length k ≤ length rest → length (0x04 ∷ (ty ++ body ++ 0x05 ∷ (other ++ 0x0B ∷ k))) ≤ length bytes
if_else_least ty body other k bytes front rest inner t both b o e f g d h i j l =
    let n = length-append front rest in
    let u = length-append (t ++ both) (0x0B ∷ []) in
    let v = length-append t both in
    let w = length-append b (0x05 ∷ o) in
    let x = length-append (ty ++ body) (0x05 ∷ (other ++ 0x0B ∷ k)) in
    let y = length-append ty body in
    let z = length-append other (0x0B ∷ k) in
    omega (arith, ap length e, ap length f, ap length g, ap length d)

-- 5.4 sequences, by recursion on the tree
code_least : (bytes : List ℕ) (t : Tree) → IsCode bytes (code_node t) → length (code_bytes t) ≤ length bytes
code_least bytes done h = omega arith
code_least bytes (plain p k) (front, rest, e, h, i) = least_both (plain_bytes p) (code_bytes k) front rest bytes e (plain_least front p h) (code_least rest k i)
code_least bytes (block ty body k) (front, rest, e, (inner, f, (t, b, g, h, i)), j) =
    block_least 0x02 (block_type_bytes ty) (code_bytes body) (code_bytes k) bytes front rest inner t b e f g (block_type_least t ty h) (code_least b body i) (code_least rest k j)
code_least bytes (loop ty body k) (front, rest, e, (inner, f, (t, b, g, h, i)), j) =
    block_least 0x03 (block_type_bytes ty) (code_bytes body) (code_bytes k) bytes front rest inner t b e f g (block_type_least t ty h) (code_least b body i) (code_least rest k j)
code_least bytes (if_then ty body k) (front, rest, e, (inner, f, (t, b, g, h, i)), j) =
    block_least 0x04 (block_type_bytes ty) (code_bytes body) (code_bytes k) bytes front rest inner t b e f g (block_type_least t ty h) (code_least b body i) (code_least rest k j)
code_least bytes (if_else ty body other k) (front, rest, e, (inner, f, (t, both, g, h, (b, o, d, i, l))), j) =
    if_else_least (block_type_bytes ty) (code_bytes body) (code_bytes other) (code_bytes k) bytes front rest inner t both b o e f g d (block_type_least t ty h) (code_least b body i) (code_least o other l) (code_least rest k j)

-- expressions
pub expr_least : (bytes : List ℕ) (t : Tree) → IsExpr bytes (code_node t) → length (expr_bytes t) ≤ length bytes
expr_least bytes t (inner, e, h) = least_both (code_bytes t) (0x0B ∷ []) inner (0x0B ∷ []) bytes e (code_least inner t h) (omega arith)
