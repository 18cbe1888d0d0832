-- What comes of the plan of the mode `replay`.
use Rattle.std.proofs.Common.{refl, IfSome}
use Rattle.app_load.proofs.Within.{Within, WritesNone, MakesNone}
use Rattle.wasabi_app.specs.Words.{Given}
use Rattle.wasabi_app.specs.Modes.Replay.{replay_mode}

pub replay_writes_none : (g : Given) → IfSome (replay_mode.plan g) (Within WritesNone)
replay_writes_none g = λ es. refl

pub replay_makes_none : (g : Given) → IfSome (replay_mode.plan g) (Within MakesNone)
replay_makes_none g = λ es. tt
