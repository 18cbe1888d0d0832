use Rattle.std.proofs.Common.{◌≤◌, sym, subst}
use Rattle.wasm_sem.specs.Types.{Module}
use Rattle.module_ast.specs.Structure.{memories_of}
use Rattle.wasm_sem.specs.Execution.{least_size, page_limit}
use Rattle.run_store.proofs.Ranges.{begins_within}
use Rattle.wasm_run.proofs.running.Running.new.Goals as goal

pub open_memory-requires-clause-least : goal.open_memory-requires-clause-least
open_memory-requires-clause-least c =
    subst (λ (m : Module). least_size (memories_of m) ≤ page_limit c.args.script.now.pages (memories_of m)) (sym c.module-module.ensures.module)
    (begins_within c.args.valid.now c.args.script.now c.module-module.ensures.valid c.requires.links)
