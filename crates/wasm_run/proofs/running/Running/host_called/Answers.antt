use Rattle.wasm_run.proofs.Noting.{none_called}
use Rattle.wasm_run.proofs.running.Running.host_called.Goals as goal

pub returns-in_default : goal.returns-in_default
returns-in_default c = none_called c.args.self.now c.target.result c.target.ensures c.in_default.not-Invokes
