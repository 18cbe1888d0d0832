use Rattle.std.proofs.Common.{◌≡◌, ◌∙◌, sym, subst}
use Rattle.wasm_sem.specs.Laws.{slots_in}
use Rattle.wasm_sem.specs.Execution.{instance, opening_configuration}
use Rattle.wasm_sem.proofs.Ended.{slots_stay}
use Rattle.wasm_run.specs.Running.{Run, configuration_of}
use Rattle.wasm_run.proofs.running.Running.table.Goals as goal

pub returns : goal.returns
returns c =
    subst (λ (r : Run). c.self.inside.table ≡ slots_in (configuration_of r)) c.self.view_is
    (c.self.invariant.table_is ∙ sym (slots_stay (instance c.self.inside.module.now c.self.inside.script.now) c.self.inside.made (opening_configuration c.self.inside.module.now c.self.inside.script.now)))
