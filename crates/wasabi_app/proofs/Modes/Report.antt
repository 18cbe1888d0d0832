-- What holds of the endings of the mode `report`.
use Rattle.std.proofs.Common.{refl, IfSome}
use Rattle.app_load.specs.Plans.{does, ends}
use Rattle.wasabi_app.specs.Words.{Given}
use Rattle.wasabi_app.specs.Modes.Report.{report_effect, report_plan, report_mode}
use Rattle.app_load.proofs.Within.{Within, WritesNone, MakesNone}
use Rattle.wasabi_app.proofs.Linked.{writes_plain, makes_plain, played_within}
use Rattle.wasabi_app.proofs.ToldRuns.{both_within}

pub report_writes_none : (g : Given) → IfSome (report_mode.plan g) (Within WritesNone)
report_writes_none g =
    both_within WritesNone (λ info script. report_plan g.subject info script g.kinds g.keeps) g.info g.script
    (λ _ _ named info s. played_within WritesNone named.0 s (ends (does (report_effect g.kinds g.keeps named.0 named.1 info s))) writes_plain refl)

pub report_makes_none : (g : Given) → IfSome (report_mode.plan g) (Within MakesNone)
report_makes_none g =
    both_within MakesNone (λ info script. report_plan g.subject info script g.kinds g.keeps) g.info g.script
    (λ _ _ named info s. played_within MakesNone named.0 s (ends (does (report_effect g.kinds g.keeps named.0 named.1 info s))) makes_plain tt)
