-- The bytes of code: of plain instructions before a sequence, of blocks, and of an instruction before what follows it.
--     plains_append, plains_before      plain instructions before others, and before a sequence
--     block_length, both_length      of what opens a block: a loop, and an `if` with one sequence, are as long as a block
--     plain_before, instr_before      of an instruction before what follows it, as it was and as it is rewritten
use Rattle.std.proofs.Common.{◌≡◌, ℕ, ◌+◌, pos, List, [], ◌∷◌, ◌++◌, length, Bool, true, false, length-append, arith}
use Rattle.wasm_sem.specs.Types.{BlockType}
use Rattle.module_ast.specs.declared.code.BlockType.TheVariants.{Empty}
use Rattle.module_ast.specs.Structure.{plains, Tree, done, plain, block, if_then, if_else, Plain, br_if}
use Rattle.module_ast.specs.Binary.{block_type_bytes, plain_bytes, code_bytes}
use Rattle.module_ast.specs.Places.{Scope, left_by}
use Rattle.hook_select.specs.declared.GroupName.TheVariants as groups
use Rattle.hook_select.specs.Groups.{has}
use Rattle.hook_mono.specs.declared.HookKey.TheVariants as keys
use Rattle.i64_split.specs.declared.Temp.{Temp}
use Rattle.i64_split.specs.Split.{temps, gets, words_code}
use Rattle.wasm_num.specs.declared.ValType.TheVariants.{I32}
use Rattle.rewrite.specs.Setting.{Setting, constant, tells, tell_ends}
use Rattle.rewrite.specs.Templates.{template, tee_code, target_code}
use Rattle.rewrite_needs.specs.Temporaries.{watches_br_if}
use Rattle.rewrite.specs.Rewrite.{if_taken, br_if_before, instr_code}
use Rattle.rewrite.specs.Sizes.{plains_length}

-- how many bytes a sequence has
abbrev pub code_length : Tree → ℕ
code_length k = length (code_bytes k)

-- plain instructions before a sequence
pub plains_before : (is : List Plain) (k : Tree) → code_length (plains is k) ≡ plains_length is + code_length k
plains_before [] k = omega arith
plains_before (i ∷ is) k = omega (arith, length-append (plain_bytes i) (code_bytes (plains is k)), plains_before is k)

-- some before others
pub plains_append : (is js : List Plain) → plains_length (is ++ js) ≡ plains_length is + plains_length js
plains_append [] js = omega arith
plains_append (i ∷ is) js = omega (arith, plains_append is js)

-- ---- blocks in bytes

-- the bytes of a block's type
abbrev pub type_length : BlockType → ℕ
type_length ty = length (block_type_bytes ty)

pub block_length : (ty : BlockType) (body k : Tree) → code_length (block ty body k) ≡ 1 + (type_length ty + (code_length body + (1 + code_length k)))
block_length ty body k = omega (arith, length-append (block_type_bytes ty ++ code_bytes body) (0x0B ∷ code_bytes k), length-append (block_type_bytes ty) (code_bytes body))

pub both_length : (ty : BlockType) (body other k : Tree) → code_length (if_else ty body other k) ≡ 1 + (type_length ty + (code_length body + (1 + (code_length other + (1 + code_length k)))))
both_length ty body other k =
    omega (arith, length-append (block_type_bytes ty ++ code_bytes body) (0x05 ∷ (code_bytes other ++ 0x0B ∷ code_bytes k)), length-append (block_type_bytes ty) (code_bytes body), length-append (code_bytes other) (0x0B ∷ code_bytes k))

-- ---- an instruction before what follows it

pub plain_before : (i : Plain) (k : Tree) → code_length (plain i k) ≡ length (plain_bytes i) + code_length k
plain_before i k = length-append (plain_bytes i) (code_bytes k)

branch_before : (l : ℕ) (k : Tree) → code_length (plain (br_if l) k) ≡ code_length (plain (br_if l) done) + code_length k
branch_before l k = omega (arith, plain_before (br_if l) k, plain_before (br_if l) done)

-- an `if` behind some instructions, and a branch behind it
if_before : (is : List Plain) (inside : Tree) (l : ℕ) (k : Tree)
    → code_length (plains is (if_then Empty inside (plain (br_if l) k))) ≡ code_length (plains is (if_then Empty inside (plain (br_if l) done))) + code_length k
if_before is inside l k =
    omega (
      arith,
      plains_before is (if_then Empty inside (plain (br_if l) k)),
      plains_before is (if_then Empty inside (plain (br_if l) done)),
      block_length Empty inside (plain (br_if l) k),
      block_length Empty inside (plain (br_if l) done),
      branch_before l k,
    )

-- a branch with the ends that it passes, where they are told
taken_before : (told : Bool) (w : Setting) (left : List Scope) (ts : List Temp) (l : ℕ) (k : Tree)
    → code_length (if_taken told w left ts (plain (br_if l) k)) ≡ code_length (if_taken told w left ts (plain (br_if l) done)) + code_length k
taken_before false w left ts l k = branch_before l k
taken_before true w left ts l k = if_before (gets ts) (plains (tell_ends w left) done) l k

two_before : (is js : List Plain) (t u k : Tree) → code_length t ≡ code_length u + code_length k → code_length (plains is (plains js t)) ≡ code_length (plains is (plains js u)) + code_length k
two_before is js t u k e = omega (arith, plains_before is (plains js t), plains_before js t, plains_before is (plains js u), plains_before js u)

br_if_length : (told : Bool) (w : Setting) (scopes : List Scope) (p l : ℕ) (k : Tree)
    → code_length (br_if_before told w scopes p l k) ≡ code_length (br_if_before told w scopes p l done) + code_length k
br_if_length false w scopes p l k = branch_before l k
br_if_length true w scopes p l k =
    let ts = temps w.pool (I32 ∷ []) in
    let told = has w.hooks groups.End in
    two_before (tee_code ts) (tells w (pos p) (keys.Plain groups.BrIf) (constant l ∷ target_code scopes l ∷ words_code ts))
    (if_taken told w (left_by scopes l) ts (plain (br_if l) k)) (if_taken told w (left_by scopes l) ts (plain (br_if l) done)) k
    (taken_before told w (left_by scopes l) ts l k)

-- any instruction, as it is rewritten
pub instr_before : (w : Setting) (scopes : List Scope) (p : ℕ) (i : Plain) (k : Tree) → code_length (instr_code w scopes p i k) ≡ code_length (instr_code w scopes p i done) + code_length k
instr_before w scopes p (br_if l) k = br_if_length (watches_br_if w.hooks) w scopes p l k
instr_before w scopes p i k = omega (arith, plains_before (template w scopes p i) k, plains_before (template w scopes p i) done)
