use Rattle.std.proofs.Common.{arith}
use Rattle.module_ast.specs.Structure.{if_else}
use Rattle.rewrite.proofs.CodeBytes.{both_length}
use Rattle.rewrite.proofs.Sunk.{onto_bytes}
use Rattle.rewrite.proofs.sink.CountedSink.put_both.Goals as goal

pub returns : goal.returns
returns c a b t e f =
    let code = c.args._code.now.items in
    omega (
      arith,
      c.add.ensures,
      c.add-2.ensures,
      c.add-3.ensures,
      c.block_type_length.ensures,
      e,
      f,
      onto_bytes code t,
      onto_bytes code (if_else c.args.ty a b t),
      both_length c.args.ty a b t,
    )
