-- Bodies of small modules with hooks, by the greatest number of their operands.
use Rattle.std.specs.Prelude.{◌≡◌, ℕ, pos, List, [], ◌∷◌, Option, Some, None, option_map, slice_get, refl}
use Rattle.wasm_num.specs.declared.ValType.TheVariants.{I64}
use Rattle.wasm_num.specs.declared.NumOp.TheVariants.{I64Add}
use Rattle.wasm_sem.specs.Types.{FuncType, Body, Module, GroupName}
use Rattle.module_ast.specs.Structure.{Tree, done, plain, call, drop_, i64_const, num}
use Rattle.module_ast.specs.Places.{height}
use Rattle.module_ast.specs.Validation.{body_context}
use Rattle.hook_select.specs.declared.GroupName.TheVariants as groups
use Rattle.hook_select.specs.Groups.{hooks_of, is_among}
use Rattle.hook_select.specs.Selections.{everywhere}
use Rattle.instrument.specs.Output.{output}

-- a module of these types, functions and bodies without locals
abbrev module_of : List FuncType → List ℕ → List Body → Module
module_of types funcs bodies = record {
  types = types;
  imports = [];
  funcs = funcs;
  tables = [];
  memories = [];
  globals = [];
  exports = [];
  start = None;
  elements = [];
  bodies = bodies;
  segments = [];
  customs = [];
}

abbrev body_of : Tree → Body
body_of code = record { groups = []; code = code }

abbrev nothing : FuncType
nothing = record { params = []; results = [] }

-- the height of a body in the output if these groups are selected
abbrev height_with : List GroupName → Module → FuncType → (defined : ℕ) → Option ℕ
height_with selected m t defined =
    let o = output m (everywhere (hooks_of (is_among selected))) in option_map (λ (b : Body). height (body_context o t b) b.code) (slice_get o.bodies defined)

-- a sum of two i64, which are told with their sum: eight more, in a module whose types have no values
abbrev sum : Module
sum = module_of (nothing ∷ []) (0 ∷ []) (body_of (plain (i64_const (pos 1)) (plain (i64_const (pos 2)) (plain (num I64Add) (plain drop_ done)))) ∷ [])

sum_height : height_with [] sum nothing 0 ≡ Some 2
sum_height = refl

told_sum_height : height_with (groups.Binary ∷ []) sum nothing 0 ≡ Some 10
told_sum_height = refl

-- a call with two i64, which are told: twice their number and four
abbrev called : Module
called = module_of (record { params = I64 ∷ I64 ∷ []; results = [] } ∷ nothing ∷ []) (0 ∷ 1 ∷ [])
    (body_of done ∷ body_of (plain (i64_const (pos 1)) (plain (i64_const (pos 2)) (plain (call 0) done))) ∷ [])

told_call_height : height_with (groups.Call ∷ []) called nothing 1 ≡ Some 10
told_call_height = refl
