-- The functions of a module, each resolved once.
use Rattle.std.specs.Prelude.{◌≡◌, ℕ, ◌+◌, ◌^◌, ◌<◌, List, map, All}
use Rattle.wasm_sem.specs.Types.{Module, FuncType, Body}
use Rattle.module_ast.specs.Places.{height, code_nesting}
use Rattle.module_ast.specs.Binary.{locals_of}
use Rattle.module_ast.specs.Validation.{declared_locals}
use Rattle.wasm_sem.specs.Execution.{Callee, host, hook, own, callees_of}
use Rattle.wasm_sem.specs.Heights.{function_context}
use Rattle.run_store.specs.declared.functions.Function.{Function}
use Rattle.run_store.specs.declared.functions.Function.TheVariants.{Host, Hook, Own}

-- the function of the definitions for one of the code
abbrev pub callee_for : Function → Callee
callee_for (Host ty) = host ty.now
callee_for (Hook ty) = hook ty.now
callee_for (Own ty body size) = own ty.now (declared_locals body.now.groups) body.now.code

-- what the frame of a function needs
pub record IsSizeOf (m : Module) (ty : FuncType) (body : Body) (locals high nesting : ℕ) : Type 0 where
  pub locals_are : locals ≡ locals_of body.groups
  pub high_is : high ≡ height (function_context m ty (declared_locals body.groups)) body.code
  pub nesting_is : nesting ≡ code_nesting body.code

-- some memory could hold a frame of this size
pub record IsHoldable (locals high nesting : ℕ) : Type 0 where
  pub values : locals + high < 2 ^ 63
  pub labels : nesting < 2 ^ 63

-- a function of the module has the size of its frame with it, and some memory could hold such a frame
abbrev pub HasSize : Module → Function → Type 0
HasSize m (Host ty) = Unit {0}
HasSize m (Hook ty) = Unit {0}
HasSize m (Own ty body size) = IsSizeOf m ty.now body.now size.locals size.height size.nesting × IsHoldable size.locals size.height size.nesting

-- the functions of a module by their indices, each with its size
pub record AreFunctionsOf (m : Module) (fs : List Function) : Type 0 where
  pub stand : map callee_for fs ≡ callees_of m
  pub sizes : All (HasSize m) fs
