use Rattle.std.proofs.Common.{◌≡◌, ◌∙◌, false, refl, sym, ap, subst}
use Rattle.wasm_sem.specs.Execution.{is_over}
use Rattle.wasm_run.specs.Moves.{MayWant}
use Rattle.wasm_run.specs.Running.{Run, one_more, configuration_of, IsInside}
use Rattle.wasm_run.proofs.NextCalls.{inside_goes}
use Rattle.wasm_run.proofs.Progressing.{wanted}
use Rattle.wasm_run.proofs.machine.Machine.call_noted.Goals as goal

pub returns-in_err-host : goal.returns-in_err-host
returns-in_err-host g c =
    let r : Run = c.self.inside.running in
    wanted c.from_residual.result c.args.self.now c.args.self.now c.from_residual.ensures.0 refl
    (subst (λ (r : Run). MayWant (configuration_of r)) c.self.view_is c.in_err-host.ensures.err)
    (subst (λ (r : Run). is_over (configuration_of r) ≡ false) c.self.view_is
    (inside_goes r.module r.script c.self.invariant.0.linked r.made (subst (λ (r : Run). IsInside (configuration_of r)) (sym c.self.view_is) c.requires.inside)))

pub returns : goal.returns
returns g c =
    let r : Run = c.self.inside.running in (
      c.call_host.ensures.0 ∙ ap one_more c.self.view_is,
      subst (λ (r : Run). is_over (configuration_of r) ≡ false) c.self.view_is
          (inside_goes r.module r.script c.self.invariant.0.linked r.made (subst (λ (r : Run). IsInside (configuration_of r)) (sym c.self.view_is) c.requires.inside)),
    )
