use Rattle.std.proofs.Common.{arith}
use Rattle.rewrite.specs.Emitted.{opened}
use Rattle.rewrite.proofs.Sunk.{onto_bytes, opened_bytes}
use Rattle.rewrite.proofs.sink.CountedSink.put_block.Goals as goal

pub returns : goal.returns
returns c a t e =
    let code = c.args._code.now.items in
    omega (
      arith,
      c.add.ensures,
      c.add-2.ensures,
      c.block_type_length.ensures,
      e,
      onto_bytes code t,
      onto_bytes code (opened c.args._opening c.args.ty a t),
      opened_bytes c.args._opening c.args.ty a t,
    )
