use Rattle.std.proofs.Common.{List, ap, arith}
use Rattle.wasm_sem.specs.Types.{Instr}
use Rattle.module_ast.specs.Structure.{onto, code_of}
use Rattle.rewrite.proofs.CodeBytes.{code_length}
use Rattle.rewrite.proofs.Sunk.{onto_bytes}
use Rattle.rewrite.proofs.sink.CountedSink.settle.Goals as goal

pub returns : goal.returns
returns c t =
    omega (
      arith,
      c.add.ensures,
      c.instrs_length.ensures.length,
      ap (λ (l : List Instr). code_length (code_of l)) c.deref.ensures.value,
      ap (λ (l : List Instr). code_length (onto l t)) c.clear.ensures.items,
      onto_bytes c.args.code.now.items t,
    )
