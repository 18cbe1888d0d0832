-- Imports and exports: what stands at the front of bytes.
use Rattle.std.proofs.Common.{◌≡◌, ℕ, List, arith}
use Rattle.leb_binary.specs.Leb.{IsFront, HasNoFront}
use Rattle.leb_binary.specs.Reading.{IsByte}
use Rattle.module_ast.specs.declared.module.ExportKind.TheVariants as kinds
use Rattle.module_ast.specs.Binary.{IsU32, IsTableType, IsMemoryType, IsGlobalType, IsItem, func_item, table_item, memory_item, global_item, IsExportKind}
use Rattle.module_ast.proofs.Compose.{op_end}
use Rattle.code_decode.proofs.TypeBytes.{no_byte}
use Rattle.wasm_decode.proofs.Ops.{op_parts}

pub item_end : (bytes : List ℕ) → HasNoFront IsByte bytes → HasNoFront IsItem bytes
item_end bytes h after (func_item u) p = op_end IsU32 0 bytes (omega arith) h after u p
item_end bytes h after (table_item u) p = op_end IsTableType 1 bytes (omega arith) h after u p
item_end bytes h after (memory_item u) p = op_end IsMemoryType 2 bytes (omega arith) h after u p
item_end bytes h after (global_item u) p = op_end IsGlobalType 3 bytes (omega arith) h after u p

pub item_none : (bytes mid : List ℕ) (b : ℕ) → IsFront IsByte bytes mid b → (b ≡ 0 → HasNoFront IsU32 mid) → (b ≡ 1 → HasNoFront IsTableType mid) → (b ≡ 2 → HasNoFront IsMemoryType mid) → (b ≡ 3 → HasNoFront IsGlobalType mid) → HasNoFront IsItem bytes
item_none bytes mid b f h0 h1 h2 h3 after (func_item u) (front, e, i) =
    let r = op_parts 0 (λ rest. IsU32 rest u) bytes mid after front b f e i in h0 r.opcode after u (r.inner, r.behind, r.operands)
item_none bytes mid b f h0 h1 h2 h3 after (table_item u) (front, e, i) =
    let r = op_parts 1 (λ rest. IsTableType rest u) bytes mid after front b f e i in h1 r.opcode after u (r.inner, r.behind, r.operands)
item_none bytes mid b f h0 h1 h2 h3 after (memory_item u) (front, e, i) =
    let r = op_parts 2 (λ rest. IsMemoryType rest u) bytes mid after front b f e i in h2 r.opcode after u (r.inner, r.behind, r.operands)
item_none bytes mid b f h0 h1 h2 h3 after (global_item u) (front, e, i) =
    let r = op_parts 3 (λ rest. IsGlobalType rest u) bytes mid after front b f e i in h3 r.opcode after u (r.inner, r.behind, r.operands)

pub kind_end : (bytes : List ℕ) → HasNoFront IsByte bytes → HasNoFront IsExportKind bytes
kind_end bytes h after kinds.Func (front, e, i) = no_byte bytes after 0 front h (omega arith) e i
kind_end bytes h after kinds.Table (front, e, i) = no_byte bytes after 1 front h (omega arith) e i
kind_end bytes h after kinds.Memory (front, e, i) = no_byte bytes after 2 front h (omega arith) e i
kind_end bytes h after kinds.Global (front, e, i) = no_byte bytes after 3 front h (omega arith) e i
