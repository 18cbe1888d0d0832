-- What a module with hooks is made from.
use Rattle.std.specs.Prelude.{◌≡◌, ℕ, ◌≤◌, List, [], length}
use Rattle.wasm_sem.specs.Types.{Body, Module, Selection, HookKey}
use Rattle.module_ast.specs.Binary.{body_bytes, module_bytes, IsWithin}
use Rattle.module_ast.specs.Validation.{narrow, IsValid, longest_narrow_file}
use Rattle.hook_mono.specs.Needed.{needed_keys}
use Rattle.index_remap.specs.declared.Remap.{Remap}
use Rattle.instrument.specs.Output.{hook_remap, output}

-- a module that gets hooks, and which are selected
pub record HookPlan : Type 0 where
  pub «module» : Module
  pub hooks : Selection

-- the keys of the hooks that it needs
abbrev pub plan_keys : HookPlan → List HookKey
plan_keys p = needed_keys p.module p.hooks

-- the map of its function indices to those of the output
abbrev pub plan_remap : HookPlan → Remap
plan_remap p = hook_remap p.module (plan_keys p)

-- the module is valid and within the narrow limits, and these are its keys and its map of function indices
pub record IsPlanned (p : HookPlan) (keys : List HookKey) (remap : Remap) : Type 0 where
  pub keys_are : keys ≡ plan_keys p
  pub remap_is : remap ≡ plan_remap p
  pub valid : IsValid p.module
  pub limits : IsWithin narrow p.module
  pub short : length (module_bytes p.module) ≤ longest_narrow_file

-- the bodies of the module with hooks, and all of that module but the bodies
abbrev pub new_bodies : HookPlan → List Body
new_bodies p = (output p.module p.hooks).bodies

abbrev pub new_outline : HookPlan → Module
new_outline p = record (output p.module p.hooks) { bodies = [] }

-- how many bytes a body has, without its size in front
abbrev pub body_length : Body → ℕ
body_length b = length (body_bytes b)
