use Rattle.std.proofs.Common.{rules}
use Rattle.module_gen.proofs.pieces.piece_of.Goals as goal

pub returns-in-3-clause-piece : goal.returns-in-3-clause-piece
returns-in-3-clause-piece c = search rules
