-- What the check of information asks of each part.
use Rattle.std.specs.Prelude.{◌≢◌, ℕ, ◌≤◌, ◌<◌, ◌^◌, ℤ, ◌<ℤ◌, List, length, take, drop, All}
use Rattle.wasm_num.specs.declared.BlockKind.TheVariants as kinds
use Rattle.branch_resolve.specs.declared.Block.{Block}
use Rattle.static_info.specs.declared.TableInfo.{TableInfo}
use Rattle.static_info.specs.declared.FuncInfo.{FuncInfo}
use Rattle.static_info.specs.Form.{IsPosition, AreLabels, IsImported, IsDefined}

-- a block inside a function that begins after position `last`
pub record IsNextBlock (last : ℤ) (b : Block) : Type 0 where
  pub inside : b.kind ≢ kinds.Function
  pub after : last <ℤ b.begin
  pub begin : IsPosition b.begin
  pub end : IsPosition b.end
  pub target : IsPosition b.target

-- a br_table after position `last`
pub record IsNextTable (last : ℤ) (t : TableInfo) : Type 0 where
  pub after : last <ℤ t.pos
  pub position : IsPosition t.pos
  pub labels : AreLabels t.labels

-- the functions of information: the first `imports` are imported, the others defined
pub record AreFunctions (imports : ℕ) (functions : List FuncInfo) : Type 0 where
  pub few : length functions < 2 ^ 32
  pub enough : imports ≤ length functions
  pub imported : All IsImported (take imports functions)
  pub defined : All IsDefined (drop imports functions)
