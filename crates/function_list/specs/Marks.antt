-- How flags of functions change.
use Rattle.std.specs.Prelude.{◌≡◌, ℕ, ◌<◌, ◌&&◌, List, length, get_or, Bool, false, cond}
use Rattle.module_ast.specs.declared.module.Module.{Module}
use Rattle.function_list.specs.Choices.{has_body}

-- the functions with a body that pass the test have this flag now, and all others have the flags that they had
pub record Marks (m : Module) (test : ℕ → Bool) (flag : Bool) (old new : List Bool) : Type 0 where
  pub long : length new ≡ length old
  pub flags : (f : ℕ) → f < length old → get_or new f false ≡ cond (has_body m f && test f) flag (get_or old f false)
