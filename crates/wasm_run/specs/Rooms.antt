-- Room for all that the frames of a run may ever have.
use Rattle.std.specs.Prelude.{◌≡◌, ℕ, ◌+◌, ◌≤◌, List, [], ◌∷◌, ◌++◌, length, Some, slice_get}
use Rattle.wasm_sem.specs.Types.{ValType, FuncType, Module}
use Rattle.module_ast.specs.Places.{height, code_nesting}
use Rattle.module_ast.specs.Structure.{Tree}
use Rattle.wasm_sem.specs.Execution.{own, callees_of, Frame}
use Rattle.wasm_sem.specs.Heights.{function_context}
use Rattle.run_stack.specs.Kept.{all_values, all_spots}

-- above what is below the frame, there is room for the locals and the greatest height of its function, and for as many
-- labels as its nesting plus one
pub record HasOwnRoom (m : Module) (values labels : ℕ) (fr : Frame) (below : List Frame) : Type 0 where
  pub values_fit : (ty : FuncType) (declared : List ValType) (code : Tree) → slice_get (callees_of m) fr.func ≡ Some (own ty declared code)
      → length (all_values below) + length (ty.params ++ declared) + height (function_context m ty declared) code ≤ values
  pub labels_fit : (ty : FuncType) (declared : List ValType) (code : Tree) → slice_get (callees_of m) fr.func ≡ Some (own ty declared code)
      → length (all_spots below) + 1 + code_nesting code ≤ labels

-- there is such room for each frame
abbrev pub HaveRoom : Module → (values labels : ℕ) → List Frame → Type 0
HaveRoom m values labels [] = Unit {0}
HaveRoom m values labels (fr ∷ below) = HasOwnRoom m values labels fr below × HaveRoom m values labels below
