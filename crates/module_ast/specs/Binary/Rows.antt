-- The loads and stores, a row for each: its opcode (5.4.4), its name (6.5.6), the type of the value and its width in memory in
-- bytes (3.3.4).
use Rattle.std.specs.Prelude.{ℕ, List, codes}
use Rattle.wasm_num.specs.declared.ValType.{ValType}
use Rattle.wasm_num.specs.declared.ValType.TheVariants.{I32, I64}
use Rattle.module_ast.specs.declared.ops.LoadOp.{LoadOp}
use Rattle.module_ast.specs.declared.ops.LoadOp.TheVariants.{I32Load, I64Load, I32Load8S, I32Load8U, I32Load16S, I32Load16U, I64Load8S, I64Load8U, I64Load16S, I64Load16U, I64Load32S, I64Load32U}
use Rattle.module_ast.specs.declared.ops.StoreOp.{StoreOp}
use Rattle.module_ast.specs.declared.ops.StoreOp.TheVariants.{I32Store, I64Store, I32Store8, I32Store16, I64Store8, I64Store16, I64Store32}

pub record LoadRow : Type 0 where
  pub opcode : ℕ
  pub name : List ℕ
  pub ty : ValType
  pub width : ℕ

pub record StoreRow : Type 0 where
  pub opcode : ℕ
  pub name : List ℕ
  pub ty : ValType
  pub width : ℕ

abbrev pub a_load : (opcode : ℕ) → (name : List ℕ) → (ty : ValType) → (width : ℕ) → LoadRow
a_load opcode name ty width = record { opcode = opcode; name = name; ty = ty; width = width }

abbrev pub a_store : (opcode : ℕ) → (name : List ℕ) → (ty : ValType) → (width : ℕ) → StoreRow
a_store opcode name ty width = record { opcode = opcode; name = name; ty = ty; width = width }

abbrev pub load_row : LoadOp → LoadRow
load_row I32Load = a_load 0x28 (codes "i32.load") I32 4
load_row I64Load = a_load 0x29 (codes "i64.load") I64 8
load_row I32Load8S = a_load 0x2C (codes "i32.load8_s") I32 1
load_row I32Load8U = a_load 0x2D (codes "i32.load8_u") I32 1
load_row I32Load16S = a_load 0x2E (codes "i32.load16_s") I32 2
load_row I32Load16U = a_load 0x2F (codes "i32.load16_u") I32 2
load_row I64Load8S = a_load 0x30 (codes "i64.load8_s") I64 1
load_row I64Load8U = a_load 0x31 (codes "i64.load8_u") I64 1
load_row I64Load16S = a_load 0x32 (codes "i64.load16_s") I64 2
load_row I64Load16U = a_load 0x33 (codes "i64.load16_u") I64 2
load_row I64Load32S = a_load 0x34 (codes "i64.load32_s") I64 4
load_row I64Load32U = a_load 0x35 (codes "i64.load32_u") I64 4

abbrev pub store_row : StoreOp → StoreRow
store_row I32Store = a_store 0x36 (codes "i32.store") I32 4
store_row I64Store = a_store 0x37 (codes "i64.store") I64 8
store_row I32Store8 = a_store 0x3A (codes "i32.store8") I32 1
store_row I32Store16 = a_store 0x3B (codes "i32.store16") I32 2
store_row I64Store8 = a_store 0x3C (codes "i64.store8") I64 1
store_row I64Store16 = a_store 0x3D (codes "i64.store16") I64 2
store_row I64Store32 = a_store 0x3E (codes "i64.store32") I64 4
