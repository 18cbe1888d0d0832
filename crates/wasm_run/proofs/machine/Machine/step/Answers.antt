use Rattle.wasm_run.proofs.Progressing.{turned}
use Rattle.wasm_run.proofs.machine.Machine.step.Goals as goal

pub returns : goal.returns
returns g c = record {
  turns = turned c.in_ok-go_on.field-0 c.in_ok-turn.turn c.args.self.now c.go_on.new.self c.in_ok-turn.ensures.turn c.in_ok-go_on.ensures;
  err = tt;
}
