use Rattle.std.proofs.Common.{List, ap, arith}
use Rattle.wasm_sem.specs.Types.{Instr}
use Rattle.module_ast.specs.Structure.{code_of}
use Rattle.rewrite.proofs.CodeBytes.{code_length}
use Rattle.rewrite.proofs.sink.CountedSink.finish.Goals as goal

pub returns : goal.returns
returns c = omega (arith, c.saturating_add.ensures, c.instrs_length.ensures.length, ap (λ (l : List Instr). code_length (code_of l)) c.deref.ensures.value)
