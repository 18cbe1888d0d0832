use Rattle.std.proofs.Common.{◌≡◌}
use Rattle.module_gen.specs.Pieces.{drawn_pieces}
use Rattle.module_gen.proofs.pieces.drawn_pieces.Given as goal

abbrev pub invariant-loop : goal.invariant-loop
invariant-loop l =
    (l.all.items ≡ (drawn_pieces l.fn.ty l.counter l.fn.draws.state).made) × (l.draws.state ≡ (drawn_pieces l.fn.ty l.counter l.fn.draws.state).state)
