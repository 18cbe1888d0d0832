-- Which files get hooks, and what is written for them.
use Rattle.std.specs.Prelude.{◌≡◌, ℕ, List}
use Rattle.wasm_sem.specs.Types.{Module, Selection}
use Rattle.module_ast.specs.Binary.{Gram, IsWithin}
use Rattle.module_ast.specs.Validation.{IsValid, narrow}
use Rattle.wasm_sem.specs.Execution.{IsFree}
use Rattle.instrument.specs.Output.{output_bytes}
use Rattle.instrument.specs.Made.{IsBare}

-- the bytes are a valid module within the narrow limits that imports nothing from the module of hooks
pub record IsAccepted (bytes : List ℕ) (m : Module) : Type 0 where
  pub spelled : Gram bytes m
  pub limits : IsWithin narrow m
  pub valid : IsValid m
  pub free : IsFree m

-- The file is accepted, and what was written for it is its output. The output is a valid module with the right shell and
-- no custom section. Under every script it does what the original does, and its hook calls read as the original's selected events.
pub record IsInstrumented (file : List ℕ) (hooks : Selection) (written : List ℕ) : Type 0 where
  pub original : Module
  pub accepted : IsAccepted file original
  pub output : written ≡ output_bytes original hooks
  pub sound : IsBare original hooks written
