-- A shadow takes what it is told: the output of a module that stores 2 is followed by the shadow of one that stores 1.
use Rattle.std.proofs.Common.{◌≡◌, ℕ, ℤ, pos, [], ◌∷◌, slice_get, Option, Some, None, refl}
use Rattle.std.specs.Prelude.{codes}
use Rattle.wasm_num.specs.declared.ValType.TheVariants as types
use Rattle.module_ast.specs.Ascii.{ascii_text}
use Rattle.module_ast.specs.declared.module.ExportKind.TheVariants as kinds
use Rattle.wasm_sem.specs.Types.{Module}
use Rattle.module_ast.specs.declared.ops.StoreOp.TheVariants.{I32Store8}
use Rattle.module_ast.specs.Structure.{done, plain, local_get, store, memory_grow, i32_const}
use Rattle.wasm_sem.specs.declared.Script.{Script}
use Rattle.wasm_sem.specs.Execution.{link, Configuration, configuration, run_of}
use Rattle.static_info.specs.Info.{info_of}
use Rattle.shadow_replay.specs.Laws.{tainted_shadow_after}
use Rattle.shadow_replay.specs.Taint.{Watch}
use Rattle.shadow_replay.specs.Tainted.{TaintedShadow}
use Rattle.instrument.specs.Output.{output}
use Rattle.app_runs.specs.Reporting.{items_told}
use Rattle.wasabi_app.specs.Modes.Trial.{all_hooks}

-- its function stores this number as a byte
abbrev storing : ℤ → Module
storing n = record {
  types = (record { params = []; results = [] } ∷ []);
  imports = [];
  funcs = (0 ∷ []);
  tables = [];
  memories = (record { min = 1; max = None } ∷ []);
  globals = [];
  exports = (record { name = ascii_text (codes "f") refl; kind = kinds.Func; index = 0 } ∷ []);
  start = None;
  elements = [];
  bodies = (record { groups = []; code = plain (i32_const (pos 0)) (plain (i32_const n) (plain (store I32Store8 (record { align = 0; offset = 0 })) done)) } ∷ []);
  segments = [];
  customs = [];
}

abbrev once : Script
once = record { calls = (record { export = ascii_text (codes "f") refl; args = [] } ∷ []); hosts = []; globals = []; pages = 1; depth = 10; steps = 100 }

abbrev unwatched : Watch
unwatched = record { sources = []; sinks = [] }

abbrev first_byte : Option TaintedShadow → Option ℕ
first_byte None = None
first_byte (Some sh) = slice_get sh.state.memory 0

abbrev stored_byte : Configuration → Option ℕ
stored_byte (configuration e frames) = slice_get e.store.memory 0

output_links : link (output (storing (pos 2)) all_hooks) once ≡ None
output_links = refl

-- the shadow's own module would have stored 1
own_byte : stored_byte (run_of (storing (pos 1)) once 10) ≡ Some 1
own_byte = refl

told_byte : first_byte (tainted_shadow_after (storing (pos 1)) once unwatched (items_told (info_of (storing (pos 2)) all_hooks) (output (storing (pos 2)) all_hooks) once 60)) ≡ Some 2
told_byte = refl

-- ---- a memory that grows

-- one function grows the memory, and the other stores 1 as a byte
abbrev growing : Module
growing = record (storing (pos 1)) {
  types = (record { params = types.I32 ∷ []; results = types.I32 ∷ [] } ∷ record { params = types.I32 ∷ []; results = [] } ∷ []);
  funcs = (0 ∷ 1 ∷ []);
  exports = (record { name = ascii_text (codes "g") refl; kind = kinds.Func; index = 0 } ∷ record { name = ascii_text (codes "s") refl; kind = kinds.Func; index = 1 } ∷ []);
  bodies = (record { groups = []; code = plain (local_get 0) (plain memory_grow done) } ∷ record { groups = []; code = plain (local_get 0) (plain (i32_const (pos 1)) (plain (store I32Store8 (record { align = 0; offset = 0 })) done)) } ∷ []);
}

abbrev growing_script : Script
growing_script = record {
  calls = (record { export = ascii_text (codes "g") refl; args = pos 1 ∷ [] } ∷ record { export = ascii_text (codes "s") refl; args = pos 131071 ∷ [] } ∷ []);
  hosts = [];
  globals = [];
  pages = 2;
  depth = 10;
  steps = 200;
}

abbrev byte_at : (address : ℕ) → Option TaintedShadow → Option ℕ
byte_at n None = None
byte_at n (Some sh) = slice_get sh.state.memory n

abbrev grown : Option TaintedShadow
grown = tainted_shadow_after growing growing_script unwatched (items_told (info_of growing all_hooks) (output growing all_hooks) growing_script 150)

-- there are 131,072 bytes, of which the last is 1
last_stored : byte_at 131071 grown ≡ Some 1
last_stored = refl

before_last : byte_at 131070 grown ≡ Some 0
before_last = refl

none_behind : byte_at 131072 grown ≡ None
none_behind = refl
