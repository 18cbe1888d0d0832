-- The bytes of instructions that a count took.
use Rattle.std.proofs.Common.{◌≡◌, ◌+◌, List, [], ◌∷◌, arith}
use Rattle.wasm_sem.specs.Types.{Instr}
use Rattle.module_ast.specs.declared.code.Instr.TheVariants.{Block, Loop, If, IfElse}
use Rattle.module_ast.specs.Structure.{Tree, done, plains, Plain, before, onto, code_of}
use Rattle.module_ast.specs.declared.code.BlockType.{BlockType}
use Rattle.rewrite.specs.declared.sink.Opening.{Opening}
use Rattle.rewrite.specs.declared.sink.Opening.TheVariants as openings
use Rattle.rewrite.specs.Emitted.{opened}
use Rattle.rewrite.specs.Sizes.{plains_length}
use Rattle.rewrite.proofs.CodeBytes.{code_length, type_length, plain_before, plains_before, block_length, both_length}
use Rattle.module_ast.proofs.Plains.{the_plain}

-- an instruction before a sequence
instr_bytes : (i : Instr) (t : Tree) → code_length (before i t) ≡ code_length (before i done) + code_length t
instr_bytes (Block ty a) t = omega (arith, block_length ty a t, block_length ty a done)
instr_bytes (Loop ty a) t = omega (arith, block_length ty a t, block_length ty a done)
instr_bytes (If ty a) t = omega (arith, block_length ty a t, block_length ty a done)
instr_bytes (IfElse ty a b) t = omega (arith, both_length ty a b t, both_length ty a b done)
instr_bytes i t = omega (arith, plain_before (the_plain i) t, plain_before (the_plain i) done)

-- some before a sequence
pub onto_bytes : (is : List Instr) (t : Tree) → code_length (onto is t) ≡ code_length (code_of is) + code_length t
onto_bytes [] t = omega arith
onto_bytes (i ∷ is) t = omega (arith, instr_bytes i (onto is t), instr_bytes i (code_of is), onto_bytes is t)

-- and plain ones between them
pub onto_plains : (is : List Instr) (js : List Plain) (t : Tree) → code_length (onto is (plains js t)) ≡ code_length (onto is t) + plains_length js
onto_plains is js t = omega (arith, onto_bytes is (plains js t), onto_bytes is t, plains_before js t)

-- a block with one sequence in it
pub opened_bytes : (o : Opening) (ty : BlockType) (a t : Tree) → code_length (opened o ty a t) ≡ 2 + type_length ty + code_length a + code_length t
opened_bytes openings.Block ty a t = omega (arith, block_length ty a t)
opened_bytes openings.Loop ty a t = omega (arith, block_length ty a t)
opened_bytes openings.If ty a t = omega (arith, block_length ty a t)
