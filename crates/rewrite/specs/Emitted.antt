-- The templates, over what the program keeps.
use Rattle.std.specs.Prelude.{ℕ, cond, pos, unwrap_or, List, [], ◌∷◌, ◌++◌, map}
use Rattle.std.specs.List.{AllByRecursion}
use Rattle.wasm_sem.specs.Types.{ValType, FuncType, Instr}
use Rattle.wasm_num.specs.declared.ValType.TheVariants.{I32, I64}
use Rattle.module_ast.specs.Places.{Scope}
use Rattle.module_ast.specs.declared.code.Instr.TheVariants.{Br, BrIf, Return}
use Rattle.module_ast.specs.declared.code.BlockType.{BlockType}
use Rattle.module_ast.specs.Structure.{Tree, block, loop, if_then, plain_of, Plain, i32_const, call_indirect}
use Rattle.i64_split.specs.declared.Pool.{Pool}
use Rattle.i64_split.specs.Split.{HasTemps, temps}
use Rattle.rewrite_needs.specs.Watching.{or_none}
use Rattle.rewrite.specs.declared.sink.Opening.{Opening}
use Rattle.rewrite.specs.declared.sink.Opening.TheVariants as openings
use Rattle.rewrite.specs.Templates.{branch_code, template, indirect_code}
use Rattle.hook_mono.specs.declared.HookKey.TheVariants as keys
use Rattle.std.specs.Int.{w32, cast_unsigned}
use Rattle.branch_resolve.specs.declared.Block.{Block}
use Rattle.branch_resolve.specs.Scopes.{target, end_of}
use Rattle.branch_resolve.specs.declared.EndOf.{EndOf}
use Rattle.rewrite.specs.Setting.{Setting, tells, wants}

-- the call of the end hook of a block, if ends are selected
abbrev pub block_end_code : Setting → EndOf → List Plain
block_end_code w b = tells w b.end (keys.End b.kind) (i32_const b.begin ∷ [])

abbrev pub block_ends_code : Setting → List EndOf → List Plain
block_ends_code w [] = []
block_ends_code w (b ∷ bs) = block_end_code w b ++ block_ends_code w bs

abbrev pub all_ends_code : Setting → List Block → List Plain
all_ends_code w blocks = block_ends_code w (map end_of blocks)

-- a block with one sequence in it, before what follows it
abbrev pub opened : Opening → BlockType → (inside t : Tree) → Tree
opened openings.Block ty a t = block ty a t
opened openings.Loop ty a t = loop ty a t
opened openings.If ty a t = if_then ty a t

-- 1 if the types are the same, and 0 otherwise
abbrev pub one_if_same : ValType → ValType → ℕ
one_if_same I32 I32 = 1
one_if_same I64 I64 = 1
one_if_same _ _ = 0

-- temporaries of each of these lists of types are in the pool
abbrev pub HasRoom : Pool → List (List ValType) → Type 0
HasRoom pool tss = AllByRecursion (HasTemps pool 0) tss

-- an instruction with no sequence in it, as a live instruction inside these blocks
abbrev pub template_of : Setting → List Scope → (p : ℕ) → Instr → List Plain
template_of w scopes p i = or_none (template w scopes p) (plain_of i)

-- the same as a live branch or call
abbrev pub branch_of : Setting → List Scope → (p : ℕ) → Instr → List Plain
branch_of w scopes p i = or_none (branch_code w scopes p) (plain_of i)

-- a call through the table, with its hook calls if calls are selected
abbrev pub indirect_template : Setting → (p ty : ℕ) → FuncType → List Plain
indirect_template w p ty t = cond (wants w (keys.IndirectPre t.params)) (indirect_code w p ty t (temps w.pool (I32 ∷ t.params))) (call_indirect ty ∷ [])

-- where a branch to the label leads, as a word
abbrev pub target_word : List Block → (label : ℕ) → ℕ
target_word blocks label = cast_unsigned w32 (unwrap_or (target blocks label) (pos 0))

-- an instruction of the program that passes no ends by itself, as each does but br, br_if and return
abbrev pub PassesNone : Instr → Type 0
PassesNone (Br l) = ⊥
PassesNone (BrIf l) = ⊥
PassesNone Return = ⊥
PassesNone _ = Unit {0}
