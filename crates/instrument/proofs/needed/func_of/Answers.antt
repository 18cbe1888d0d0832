use Rattle.std.proofs.Common.{arith}
use Rattle.code_valid.proofs.Few.{entries_fit, imported_few}
use Rattle.instrument.proofs.needed.func_of.Goals as goal

pub overflow_add-result : goal.overflow_add-result
overflow_add-result c =
    let m = c.args.m.now in
    omega (arith, entries_fit m c.module.ensures.whole, imported_few m.imports, c.module.ensures.whole.bodies, c.requires, c.import_count.ensures)
