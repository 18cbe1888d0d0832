use Rattle.std.proofs.Common.{ap, arith}
use Rattle.std.specs.Int.{w32}
use Rattle.std.proofs.lemmas.Int.{to_z-of_z}
use Rattle.module_ast.specs.Structure.{done, i32_const}
use Rattle.rewrite.proofs.CodeBytes.{code_length, plain_before}
use Rattle.module_ast.specs.Structure.{plain}
use Rattle.rewrite.proofs.around.const_length.Goals as goal

pub returns-clause-length : goal.returns-clause-length
returns-clause-length c =
    omega (
      arith,
      c.plain_length.ensures.length done,
      ap (λ z. code_length (plain (i32_const z) done)) (to_z-of_z w32 c.args.value c.ranges.value),
      plain_before (i32_const c.args.value) done,
    )
