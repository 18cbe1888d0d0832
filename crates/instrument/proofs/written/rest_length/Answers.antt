use Rattle.std.proofs.Common.{arith}
use Rattle.instrument.proofs.PlannedBytes.{head_short}
use Rattle.instrument.proofs.written.rest_length.Goals as goal

pub overflow_add-result : goal.overflow_add-result
overflow_add-result c =
    omega (arith, c.code_section_length-code.ensures, c.back_length.ensures, head_short c.len.result c.args.sizes.now.together (omega arith) (omega (arith, c.requires.entries)), c.requires.back, c.requires.entries)
