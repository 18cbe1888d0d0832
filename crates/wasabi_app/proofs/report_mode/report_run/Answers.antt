-- A module and a script that do not link, or that were run.
use Rattle.app_runs.specs.Reporting.{events_told}
use Rattle.app_runs.proofs.FedReports.{whole_tagged}
use Rattle.wasabi_app.proofs.Linked.{fault_within}
use Rattle.wasabi_app.proofs.Reporting.{was_reported, not_reported}
use Rattle.wasabi_app.proofs.report_mode.report_run.Goals as goal

pub told_with-requires : goal.told_with-requires
told_with-requires g c = record {
  tags = whole_tagged c.args.given.now.kinds (events_told c.args.info.now c.args.m.now c.args.script c.args.script.steps) _ _ c.requires.fresh c.in-Ok.ensures.fed;
}

pub unlinked-requires : goal.unlinked-requires
unlinked-requires g c = λ call e. fault_within c.args.m.now c.args.script _ call c.in-Err.ensures.refused e

pub returns-in-Ok : goal.returns-in-Ok
returns-in-Ok g c = record {
  ended = λ at.
      was_reported c.args.given.now.kinds c.args.given.now.keeps c.args.m.now c.args.names.now c.args.info.now c.args.script _ c.in-Ok.played.tally _ _ at c.told_with.result
      (record {
        links = c.in-Ok.ensures.links;
        ended = c.in-Ok.ensures.ended;
        counted = c.in-Ok.ensures.counted;
        taken = c.in-Ok.ensures.fed;
        fresh = c.requires.fresh;
      })
      c.told_with.ensures.status c.told_with.ensures.text c.told_with.ensures.no_memory;
}

pub returns-in-Err : goal.returns-in-Err
returns-in-Err g c = record {
  ended = λ at.
      not_reported c.args.given.now.kinds c.args.given.now.keeps c.args.m.now c.args.names.now c.args.info.now c.args.script c.in-Err.fault _ _ at c.unlinked.result c.in-Err.ensures.refused
      c.unlinked.ensures c.in-Err.ensures.stands;
}
