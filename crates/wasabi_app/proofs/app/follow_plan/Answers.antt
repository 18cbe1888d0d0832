-- What came of the plan of each mode.
use Rattle.std.proofs.Common.{codes, refl}
use Rattle.wasabi_app.specs.Words.{given_of}
use Rattle.wasabi_app.specs.Modes.Check.{check_mode}
use Rattle.wasabi_app.specs.Modes.Instrument.{instrument_mode}
use Rattle.wasabi_app.specs.Modes.Run.{run_mode}
use Rattle.wasabi_app.specs.Modes.Report.{report_mode}
use Rattle.wasabi_app.specs.Modes.Record.{record_mode}
use Rattle.wasabi_app.specs.Modes.Replay.{replay_mode}
use Rattle.wasabi_app.specs.Modes.Tree.{tree_mode}
use Rattle.wasabi_app.specs.Modes.Trial.{trial_mode}
use Rattle.wasabi_app.specs.Modes.Taint.{taint_mode}
use Rattle.wasabi_app.proofs.Modes.{by_name, no_mode}
use Rattle.wasabi_app.proofs.app.follow_plan.Goals as goal

pub returns-in-check : goal.returns-in-check
returns-in-check g c =
    by_name (codes "check") (given_of c.args.given.now) (check_mode.plan (given_of c.args.given.now)) _ _ _ _ c.check.result c.in-check.is refl (c.check.ensures _)

pub returns-in-instrument : goal.returns-in-instrument
returns-in-instrument g c =
    by_name (codes "instrument") (given_of c.args.given.now) (instrument_mode.plan (given_of c.args.given.now)) _ _ _ _ c.instrument.result c.in-instrument.is refl (c.instrument.ensures _)

pub returns-in-run : goal.returns-in-run
returns-in-run g c =
    by_name (codes "run") (given_of c.args.given.now) (run_mode.plan (given_of c.args.given.now)) _ _ _ _ c.run.result c.in-run.is refl (c.run.ensures _)

pub returns-in-report : goal.returns-in-report
returns-in-report g c =
    by_name (codes "report") (given_of c.args.given.now) (report_mode.plan (given_of c.args.given.now)) _ _ _ _ c.report.result c.in-report.is refl c.report.ensures

pub returns-in-record : goal.returns-in-record
returns-in-record g c =
    by_name (codes "record") (given_of c.args.given.now) (record_mode.plan (given_of c.args.given.now)) _ _ _ _ c.record.result c.in-record.is refl (c.record.ensures _)

pub returns-in-replay : goal.returns-in-replay
returns-in-replay g c =
    by_name (codes "replay") (given_of c.args.given.now) (replay_mode.plan (given_of c.args.given.now)) _ _ _ _ c.replay.result c.in-replay.is refl c.replay.ensures

pub returns-in-tree : goal.returns-in-tree
returns-in-tree g c =
    by_name (codes "tree") (given_of c.args.given.now) (tree_mode.plan (given_of c.args.given.now)) _ _ _ _ c.tree.result c.in-tree.is refl (c.tree.ensures _)

pub returns-in-trial : goal.returns-in-trial
returns-in-trial g c =
    by_name (codes "trial") (given_of c.args.given.now) (trial_mode.plan (given_of c.args.given.now)) _ _ _ _ c.trial.result c.in-trial.is refl (c.trial.ensures _)

pub returns-in-taint : goal.returns-in-taint
returns-in-taint g c =
    by_name (codes "taint") (given_of c.args.given.now) (taint_mode.plan (given_of c.args.given.now)) _ _ _ _ c.taint.result c.in-taint.is refl (c.taint.ensures _)

pub returns-in_default : goal.returns-in_default
returns-in_default g c =
    no_mode (given_of c.args.given.now) _ _ c.bad_words.result
    (c.in_default.not-check, (c.in_default.not-instrument, (c.in_default.not-run, (c.in_default.not-report, (c.in_default.not-record, (c.in_default.not-replay, (c.in_default.not-tree, (c.in_default.not-trial, (c.in_default.not-taint, tt))))))))) c.bad_words.ensures
