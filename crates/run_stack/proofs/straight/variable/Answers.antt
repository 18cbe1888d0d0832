use Rattle.std.proofs.Common.{sym, subst, None}
use Rattle.wasm_sem.specs.Types.{Instr}
use Rattle.run_stack.specs.Straight.{IsMomentBefore, IsMomentBehind, reduct_at}
use Rattle.run_stack.proofs.Straights.{set_behind, tee_behind}
use Rattle.run_stack.proofs.straight.variable.Goals as goal

pub returns-in-LocalSet-clause-behind : goal.returns-in-LocalSet-clause-behind
returns-in-LocalSet-clause-behind c m x =
    subst (λ (i : Instr). IsMomentBefore c.args.stack.now m c.args.globals.now i x → IsMomentBehind x (reduct_at x i) None c.set_local.new.self m c.args.globals.now) (sym c.in-LocalSet.is)
    (λ b. set_behind c.args.stack.now m c.args.globals.now x c.in-LocalSet.index b c.pop-value.result c.pop-value.new.self c.set_local.new.self c.pop-value.ensures c.set_local.ensures)

pub returns-in-LocalTee-clause-behind : goal.returns-in-LocalTee-clause-behind
returns-in-LocalTee-clause-behind c m x =
    subst (λ (i : Instr). IsMomentBefore c.args.stack.now m c.args.globals.now i x → IsMomentBehind x (reduct_at x i) None c.set_local-in-LocalTee.new.self m c.args.globals.now) (sym c.in-LocalTee.is)
    (λ b. tee_behind c.args.stack.now m c.args.globals.now x c.in-LocalTee.index b c.top-value.result c.set_local-in-LocalTee.new.self c.top-value.ensures c.set_local-in-LocalTee.ensures)
