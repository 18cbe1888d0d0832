-- A run tells few events, so there is room for those of it where nothing was counted.
use Rattle.std.proofs.Common.{length, sym, subst, arith}
use Rattle.std.proofs.lemmas.List.Elements.{All-nil}
use Rattle.app_runs.specs.Reporting.{events_told}
use Rattle.app_runs.proofs.PlayedRuns.{run_few}
use Rattle.memory_growth.specs.Growths.{MayCount, MayCountAll}
use Rattle.memory_growth.proofs.growing.growth_of_run.Goals as goal

pub tell_run-requires-clause-ready : goal.tell_run-requires-clause-ready
tell_run-requires-clause-ready c =
    let s = c.in_ok-session.session in
    let n = length (events_told c.args.info.now s.module s.script s.script.steps) in
    let few = run_few c.args.info.now s.module s.script c.requires.formed (rw c.in_ok-session.ensures.1 c.requires.range) in
    subst (MayCountAll n) (sym c.new.ensures.empty) (omega (arith, few), All-nil (MayCount n))
