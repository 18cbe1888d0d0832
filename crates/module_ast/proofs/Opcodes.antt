-- Loads and stores are found by their opcodes.
use Rattle.std.proofs.Common.{◌≡◌, ℕ, Some, None, refl}
use Rattle.std.specs.Prelude.{◌==◌}
use Rattle.std.proofs.lemmas.Bool.{eqb-true}
use Rattle.wasm_num.proofs.Opcodes.{found_passes, found_none}
use Rattle.module_ast.specs.declared.ops.LoadOp.{LoadOp}
use Rattle.module_ast.specs.declared.ops.LoadOp.TheVariants.{I32Load}
use Rattle.module_ast.specs.declared.ops.StoreOp.{StoreOp}
use Rattle.module_ast.specs.declared.ops.StoreOp.TheVariants.{I32Store}
use Rattle.module_ast.specs.Binary.{load_ops, load_opcode, load_of_opcode, store_ops, store_opcode, store_of_opcode}

pub load_found : (op : LoadOp) → load_of_opcode (load_opcode op) ≡ Some op
load_found I32Load = refl
load_found op = refl

pub load_exact : (opcode : ℕ) (op : LoadOp) → load_of_opcode opcode ≡ Some op → load_opcode op ≡ opcode
load_exact opcode op h = eqb-true (load_opcode op) opcode (found_passes (λ o. load_opcode o == opcode) load_ops op h)

pub load_none : (opcode : ℕ) → ((op : LoadOp) → load_opcode op ≡ opcode → ⊥) → load_of_opcode opcode ≡ None
load_none opcode never = found_none (λ op. load_opcode op == opcode) load_ops (λ op h. never op (eqb-true (load_opcode op) opcode h))

pub store_found : (op : StoreOp) → store_of_opcode (store_opcode op) ≡ Some op
store_found I32Store = refl
store_found op = refl

pub store_exact : (opcode : ℕ) (op : StoreOp) → store_of_opcode opcode ≡ Some op → store_opcode op ≡ opcode
store_exact opcode op h = eqb-true (store_opcode op) opcode (found_passes (λ o. store_opcode o == opcode) store_ops op h)

pub store_none : (opcode : ℕ) → ((op : StoreOp) → store_opcode op ≡ opcode → ⊥) → store_of_opcode opcode ≡ None
store_none opcode never = found_none (λ op. store_opcode op == opcode) store_ops (λ op h. never op (eqb-true (store_opcode op) opcode h))
