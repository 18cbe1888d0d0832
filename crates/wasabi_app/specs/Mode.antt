-- A mode: its name, and its plan. There is no plan if the words lack what the mode needs.
use Rattle.std.specs.Prelude.{ℕ, List, Option}
use Rattle.app_load.specs.Plans.{Plan}
use Rattle.wasabi_app.specs.Words.{Given}

pub record Mode : Type 0 where
  pub name : List ℕ
  pub plan : Given → Option Plan
