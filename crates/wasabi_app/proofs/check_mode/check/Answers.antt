-- A subject that is not loaded, or the counts of a valid module.
use Rattle.std.proofs.Common.{arith}
use Rattle.module_ast.specs.Validation.{wide}
use Rattle.module_ast.proofs.Wholes.{read_whole}
use Rattle.wasabi_app.proofs.Modes.Check.{unchecked, was_counted}
use Rattle.wasabi_app.proofs.check_mode.check.Goals as goal

pub returns-in-Err : goal.returns-in-Err
returns-in-Err g c = λ tools.
    (unchecked c.args.given.now.subject.now _ _ tools c.in-Err.refusal (rw c.wide.ensures at c.in-Err.ensures.refused)
    c.load.ensures.once)

pub counted-requires : goal.counted-requires
counted-requires g c =
    let is = rw c.wide.ensures at c.in-Ok.ensures.ok in
    read_whole wide is.bytes c.in-Ok.module is.read_well.short (omega arith) is.spelled.0.spelled is.spelled.0.within

pub returns-in-Ok : goal.returns-in-Ok
returns-in-Ok g c = λ tools.
    was_counted c.args.given.now.subject.now c.in-Ok.module _ _ tools c.counted.result (rw c.wide.ensures at c.in-Ok.ensures.ok)
    c.load.ensures.once c.counted.ensures.status c.counted.ensures.text
    c.counted.ensures.no_memory
