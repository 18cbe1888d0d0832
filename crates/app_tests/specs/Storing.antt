-- Modules of one function that stores a number as a byte, and a script that calls it once.
use Rattle.std.specs.Prelude.{ℤ, pos, [], ◌∷◌, None, refl, codes}
use Rattle.module_ast.specs.Ascii.{ascii_text}
use Rattle.module_ast.specs.declared.module.ExportKind.TheVariants as kinds
use Rattle.wasm_sem.specs.Types.{Module}
use Rattle.module_ast.specs.declared.ops.StoreOp.TheVariants.{I32Store8}
use Rattle.module_ast.specs.Structure.{done, plain, store, i32_const}
use Rattle.wasm_sem.specs.declared.Script.{Script}
use Rattle.static_info.specs.declared.Info.{Info}
use Rattle.static_info.specs.Info.{info_of}
use Rattle.instrument.specs.Output.{output}
use Rattle.wasabi_app.specs.Modes.Trial.{all_hooks}

-- the number is stored at 0
abbrev pub storing : ℤ → Module
storing n = record {
  types = (record { params = []; results = [] } ∷ []);
  imports = [];
  funcs = (0 ∷ []);
  tables = [];
  memories = (record { min = 1; max = None } ∷ []);
  globals = [];
  exports = (record { name = ascii_text (codes "f") refl; kind = kinds.Func; index = 0 } ∷ []);
  start = None;
  elements = [];
  bodies = (record { groups = []; code = plain (i32_const (pos 0)) (plain (i32_const n) (plain (store I32Store8 (record { align = 0; offset = 0 })) done)) } ∷ []);
  segments = [];
  customs = [];
}

abbrev pub storing_one : Module
storing_one = storing (pos 1)

abbrev pub storing_two : Module
storing_two = storing (pos 2)

-- the one that stores 2, with all hooks, and what is known of it
abbrev pub hooked_two : Module
hooked_two = output storing_two all_hooks

abbrev pub info_two : Info
info_two = info_of storing_two all_hooks

abbrev pub called_once : Script
called_once = record { calls = (record { export = ascii_text (codes "f") refl; args = [] } ∷ []); hosts = []; globals = []; pages = 1; depth = 10; steps = 60 }
