-- The blocks of a module, function by function and position by position.
use Rattle.std.specs.Prelude.{List, [], ◌∷◌, ◌++◌, map, ℤ, pos, negsuc, Option, None, Some, slice_index_or}
use Rattle.wasm_num.specs.declared.BlockKind.TheVariants as kinds
use Rattle.wasm_sem.specs.Types.{Module}
use Rattle.module_ast.specs.Structure.{Tree, done, plain, block, loop, if_then, if_else}
use Rattle.wasm_sem.specs.Execution.{Callee, host, hook, own, callees_of}
use Rattle.shadow_replay.specs.Blocks.{of_kind}
use Rattle.module_ast.specs.declared.code.BlockType.TheVariants.{Empty, Value, Indexed}
use Rattle.shadow_replay.specs.declared.blocks.Begun.{Begun}
use Rattle.shadow_replay.specs.declared.blocks.Begun.TheVariants as begins
use Rattle.shadow_replay.specs.declared.blocks.Block.{Block}

-- the block that a place has, if one begins there
abbrev pub begun_block : Begun → Option Block
begun_block begins.Nothing = None
begun_block (begins.Written kind None) = of_kind kind Empty
begun_block (begins.Written kind (Some t)) = of_kind kind (Value t)
begun_block (begins.Indexed kind x) = of_kind kind (Indexed x)

-- for each position of code the block that begins there, if one does
abbrev pub code_row : Tree → List (Option Block)
code_row done = []
code_row (plain i k) = None ∷ code_row k
code_row (block ty body k) = of_kind kinds.Block ty ∷ (code_row body ++ None ∷ code_row k)
code_row (loop ty body k) = of_kind kinds.Loop ty ∷ (code_row body ++ None ∷ code_row k)
code_row (if_then ty body k) = of_kind kinds.If ty ∷ (code_row body ++ None ∷ code_row k)
code_row (if_else ty body other k) = of_kind kinds.If ty ∷ (code_row body ++ of_kind kinds.Else ty ∷ (code_row other ++ None ∷ code_row k))

-- the block at a position; the function begins before the first
abbrev pub row_block : List (Option Block) → ℤ → Option Block
row_block row (pos n) = slice_index_or row n None
row_block row (negsuc n) = None

-- the row of a function
abbrev pub callee_row : Callee → List (Option Block)
callee_row (own ty locals code) = code_row code
callee_row (host ty) = []
callee_row (hook ty) = []

-- the rows of all functions
abbrev pub block_rows : Module → List (List (Option Block))
block_rows m = map callee_row (callees_of m)
