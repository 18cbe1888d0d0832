-- What the bytes of a file are: no module, an unfit module, an invalid module or a valid module; a script or no script.
use Rattle.std.specs.Prelude.{◌≡◌, ℕ, ◌⊎◌, List, Ok}
use Rattle.serde_json.specs.Data.{Data}
use Rattle.wasm_sem.specs.Types.{Limits, Module, Which}
use Rattle.module_ast.specs.Binary.Grammar as grammar
use Rattle.module_ast.specs.Binary.{IsModule, Gram, FileFloats, FileExceeds, IsWithin}
use Rattle.module_ast.specs.Validation.{IsValid}
use Rattle.json_form.specs.Text.{IsText}
use Rattle.wasm_sem.specs.declared.Script.{Script}
use Rattle.run_session.specs.Script.{script_form}

-- no module of the grammar has the bytes
abbrev pub IsNoModule : (bytes : List ℕ) → Type 0
IsNoModule bytes = (m : grammar.ModuleNode) → IsModule bytes m → ⊥

-- the bytes are a module with a floating-point type or instruction, or with a quantity above its limit
abbrev pub IsUnfit : Limits → (bytes : List ℕ) → Type 0
IsUnfit limits bytes =
    ((section : ℕ) × FileFloats bytes section)
    ⊎ ((which : Which) × (value : ℕ) × FileExceeds limits bytes which value)

-- the bytes are this module, which is within the limits
pub record IsFit (limits : Limits) (bytes : List ℕ) (m : Module) : Type 0 where
  pub spelled : Gram bytes m
  pub within : IsWithin limits m

-- the bytes are a module within the limits that is not valid
abbrev pub IsInvalid : Limits → (bytes : List ℕ) → Type 0
IsInvalid limits bytes = (m : Module) × IsFit limits bytes m × ¬ IsValid m

-- the bytes are this script, as JSON
abbrev pub IsScript : (bytes : List ℕ) → Script → Type 0
IsScript bytes s = (d : Data) × IsText bytes d × (script_form d ≡ Ok s)

-- no script has the bytes
abbrev pub IsNoScript : (bytes : List ℕ) → Type 0
IsNoScript bytes = (s : Script) → IsScript bytes s → ⊥
