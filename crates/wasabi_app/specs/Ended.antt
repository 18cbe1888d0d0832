-- How a command ends that is run with four fresh analyses.
use Rattle.std.specs.Prelude.{◌≡◌, ℕ, ◌⊎◌, List, None}
use Rattle.analyses.specs.Tools.{ToolState}
use Rattle.app_load.specs.Ends.{DecidesEffects, DecidesReads, DecidesRefusals, Ends, Tells}
use Rattle.app_load.specs.Statuses.{class_of}
use Rattle.app_load.specs.Feeding.{fresh_tools}
use Rattle.outside_io.specs.Outside.{ShelfState, PrintState}
use Rattle.wasabi_app.specs.Modes.{plan_of}
use Rattle.wasabi_app.specs.Promised.{IsRecorded, IsReported, IsTreed, IsTried, IsWarnedOf}
use Rattle.wasabi_app.specs.Written.{IfInstrumented, IsChosen, IsExact, IsNamed, IsWritten}

-- A command ends by the plan of its words, whatever the analyses have taken then. All that `run_app` ensures holds of
-- this end: what its status tells, what is stored if the work of a mode was done, and which status comes.
pub record IsEnded (words : List (List ℕ)) (old new : ShelfState) (before after : PrintState) (status : ℕ) : Type 0 where
  pub taken : List ToolState
  pub ends : Ends (plan_of words) old new fresh_tools taken before after status
  pub tells : Tells (plan_of words) old new fresh_tools taken before after status (class_of status)
  pub written : IfInstrumented words status (λ line. IsWritten line old.contents new.contents)
  pub chosen : IfInstrumented words status (λ line. IsChosen line old.contents new.contents)
  pub named : IfInstrumented words status (λ line. IsNamed line old.contents new.contents)
  pub exact : IfInstrumented words status (λ line. IsExact line old.contents new.contents)
  pub reported : IsReported words old new fresh_tools taken before after status
  pub recorded : IsRecorded words old new fresh_tools taken before after status
  pub treed : IsTreed words old new fresh_tools taken before after status
  pub tried : IsTried words old new fresh_tools taken before after status
  pub warned : IsWarnedOf words old new fresh_tools taken before after status
  pub refused_words : plan_of words ≡ None → (status ≡ 2) ⊎ (status ≡ 14)
  pub reads : DecidesReads (plan_of words) old.contents status
  pub refusals : DecidesRefusals (plan_of words) old.contents status
  pub effects : DecidesEffects (plan_of words) old.contents status
