use Rattle.std.proofs.Common.{◌≡◌, ◌∙◌, subst}
use Rattle.module_ast.specs.Memory.{pages}
use Rattle.wasm_run.specs.Beside.{pages_in}
use Rattle.wasm_run.specs.Running.{Run, configuration_of}
use Rattle.wasm_run.proofs.Moments.{kept_pages}
use Rattle.wasm_run.proofs.running.Running.pages.Goals as goal

pub returns : goal.returns
returns c =
    c.pages.ensures
    ∙ subst (λ (r : Run). pages c.self.inside.memory.bytes ≡ pages_in (configuration_of r)) c.self.view_is
    (kept_pages c.self.inside.module.now c.self.inside.script.now (configuration_of (record { «module» = c.self.inside.module.now; script = c.self.inside.script.now; made = c.self.inside.made })) c.self.inside.stack c.self.inside.memory c.self.inside.globals c.self.invariant.running.keeps)
