use Rattle.std.proofs.Common.{◌≡◌, ◌∙◌, Ok, false, sym, ap, subst, arith}
use Rattle.wasm_sem.specs.Execution.{is_over}
use Rattle.wasm_run.specs.Moves.{MayWant}
use Rattle.wasm_run.specs.Progress.{TakesStep}
use Rattle.wasm_run.specs.Running.{Run, configuration_of}
use Rattle.wasm_run.specs.Turns.{more_steps}
use Rattle.wasm_run.proofs.Hooks.{on_err}
use Rattle.wasm_run.proofs.Progressing.{HasGone, gone_none, gone_more, gone_further, runs_wanting}
use Rattle.wasm_run.proofs.machine.Machine.run.Goals as goal

pub loop-init : goal.loop-init
loop-init g c = gone_none c.args.self.now

pub go_on-requires : goal.go_on-requires
go_on-requires g c = record {
  few = omega (arith, c.requires.few, c.loop-test.true, ap (λ (r : Run). r.made) c.loop.invariant.further);
}

pub returns-in_err-go_on-clause-ran : goal.returns-in_err-go_on-clause-ran
returns-in_err-go_on-clause-ran g c =
    runs_wanting c.args.steps c.from_residual.result c.args.self.now c.go_on.new.self c.from_residual.ensures.0
    (gone_further c.args.steps c.loop.counter c.args.self.now c.go_on.new.self (omega (arith, c.loop-test.true)) (subst (HasGone c.loop.counter c.args.self.now) (sym c.in_err-go_on.ensures.0) c.loop.invariant))

pub returns-in_err-go_on-clause-err : goal.returns-in_err-go_on-clause-err
returns-in_err-go_on-clause-err g c =
    on_err c.from_residual.result (subst (λ (r : Run). MayWant (configuration_of r)) (sym c.in_err-go_on.ensures.0) c.in_err-go_on.ensures.1)

pub returns-then-not-branch-clause-ran : goal.returns-then-not-branch-clause-ran
returns-then-not-branch-clause-ran g c =
    let done : TakesStep (Ok false) c.loop.self c.go_on.new.self = subst (λ b. TakesStep (Ok b) c.loop.self c.go_on.new.self) c.if-not-branch.true c.in_ok-go_on.ensures in (
      gone_further c.args.steps c.loop.counter c.args.self.now c.go_on.new.self (omega (arith, c.loop-test.true)) (subst (HasGone c.loop.counter c.args.self.now) (sym done.0) c.loop.invariant),
      ap (λ (r : Run). is_over (configuration_of r)) done.0 ∙ done.1,
    )

pub loop-preserved : goal.loop-preserved
loop-preserved g c = gone_more c.loop.counter c.args.self.now c.loop.self c.go_on.new.self c.loop.invariant (subst (λ b. TakesStep (Ok b) c.loop.self c.go_on.new.self) c.if-not-branch.false c.in_ok-go_on.ensures)

pub returns-then-over-clause-ran : goal.returns-then-over-clause-ran
returns-then-over-clause-ran g c = (
  gone_further c.args.steps c.loop.counter c.args.self.now c.loop.self (omega (arith, c.loop.auto.counter-end)) c.loop.invariant,
  sym c.over.ensures ∙ c.if-over.true,
)

pub returns-else-over-clause-ran : goal.returns-else-over-clause-ran
returns-else-over-clause-ran g c =
    let all : c.loop.counter ≡ c.args.steps = omega (arith, c.loop-test.false, c.loop.auto.counter-end) in (
      c.loop.invariant.further ∙ ap (λ n. more_steps n c.args.self.now) all,
      sym c.over.ensures ∙ c.if-over.false,
    )
