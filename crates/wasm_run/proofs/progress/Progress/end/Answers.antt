use Rattle.std.proofs.Common.{Some, refl}
use Rattle.wasm_run.specs.declared.progress.Progress.{Progress}
use Rattle.wasm_run.proofs.Progressing.{started_tells, called_tells}
use Rattle.wasm_run.proofs.progress.Progress.end.Goals as goal

pub returns-in-Start : goal.returns-in-Start
returns-in-Start c =
    let q : Progress = record { stage = c.after_start-self.result; started = Some c.args.answer; answers = c.args.self.now.answers } in
    record {
      tells = λ m inst e counts t. started_tells m inst e c.args.self.now q c.in-Start.field-0 c.args.answer c.in-Start.is t (c.after_start-self.ensures m inst counts) refl refl;
      same = λ h. absurd cc;
    }

pub returns-in-Call : goal.returns-in-Call
returns-in-Call c =
    let q : Progress = record { stage = c.call_from-self.result; started = c.args.self.now.started; answers = c.push_reserved.new.self } in
    record {
      tells = λ m inst e counts t. called_tells m inst e c.args.self.now q c.in-Call.number c.args.answer c.in-Call.is t (c.call_from-self.ensures m inst counts) refl c.push_reserved.ensures.items;
      same = λ h. absurd cc;
    }
