use Rattle.module_ast.specs.Structure.{code_of}
use Rattle.wasm_run.specs.Running.{configuration_of}
use Rattle.wasm_run.proofs.Targets.{no_call_there}
use Rattle.wasm_run.proofs.running.Running.target_of.Goals as goal

pub returns-in_default : goal.returns-in_default
returns-in_default c = no_call_there (configuration_of c.args.self.now) c.args.instr.now (code_of c.args.rest.now) c.in_default.not-Call c.in_default.not-CallIndirect c.requires
