-- What the events of a trace tell, or want of memory.
use Rattle.std.proofs.Common.{refl, Err}
use Rattle.std.proofs.lemmas.Result.{err_from_is_err_and}
use Rattle.app_load.specs.declared.status.Status.TheVariants.{Done}
use Rattle.app_runs.proofs.FedReports.{whole_tagged}
use Rattle.wasabi_app.proofs.Replayed.{replay_no_memory, replayed_as, untold_replay, was_replayed}
use Rattle.wasabi_app.proofs.replay_mode.replay_trace.Goals as goal

pub with_reports-requires : goal.with_reports-requires
with_reports-requires g c =
    let (es, is, counted, taken) = c.in-Ok.ensures.fed in
    record { tags = whole_tagged c.args.kinds es _ _ c.requires.fresh taken }

pub returns-in_err-text-in-Ok : goal.returns-in_err-text-in-Ok
returns-in_err-text-in-Ok g c =
    let (es, is, counted, taken) = c.in-Ok.ensures.fed in
    let p = err_from_is_err_and c.from_residual.result c.from_residual.ensures.1 in
    record {
      ended = λ fs at u.
          rw (p.1, p.2)
          (replayed_as c.args.bytes.now es fs at c.args.kinds _ _ (Err c.in_err-text-in-Ok.field-0.0) is u
          (untold_replay c.args.kinds es at _ _ c.in_err-text-in-Ok.field-0.0 c.in_err-text-in-Ok.ensures.no_memory taken));
    }

pub returns-in_ok-text-in-Ok : goal.returns-in_ok-text-in-Ok
returns-in_ok-text-in-Ok g c =
    let (es, is, counted, taken) = c.in-Ok.ensures.fed in
    record {
      ended = λ fs at u.
          was_replayed c.args.bytes.now es fs at c.args.kinds _ _ c.in-Ok.tally Done c.in_ok-text-in-Ok.text.items is u c.requires.fresh taken
          counted refl c.in_ok-text-in-Ok.ensures.whole;
    }

pub returns-in-Err : goal.returns-in-Err
returns-in-Err g c = record { ended = λ es at is. replay_no_memory c.args.kinds es at _ _ _ refl (c.in-Err.ensures.part es is) }
