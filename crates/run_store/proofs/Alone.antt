-- Code that is no constant gives nothing as an initialiser or an offset.
use Rattle.std.proofs.Common.{◌≡◌, List, None, refl, sym}
use Rattle.wasm_sem.specs.Types.{ValType, Value}
use Rattle.module_ast.specs.Structure.{Tree, done, plain, global_get, i32_const, i64_const}
use Rattle.wasm_sem.specs.Execution.{zero_of, initial_value, offset_of}
use Rattle.wasm_sem.proofs.Straight.{none_some}
use Rattle.wasm_valid.specs.Constants.{constant_of}

pub no_initial : (ty : ValType) (imports : List Value) (k : Tree) → constant_of k ≡ None → initial_value ty imports k ≡ zero_of ty
no_initial ty imports (plain (i32_const z) done) h = absurd (none_some (sym h))
no_initial ty imports (plain (i64_const z) done) h = absurd (none_some (sym h))
no_initial ty imports (plain (global_get x) done) h = absurd (none_some (sym h))
no_initial ty imports _ h = refl

pub no_offset : (globals : List Value) (k : Tree) → constant_of k ≡ None → offset_of globals k ≡ 0
no_offset globals (plain (i32_const z) done) h = absurd (none_some (sym h))
no_offset globals (plain (global_get x) done) h = absurd (none_some (sym h))
no_offset globals _ h = refl
