use Rattle.std.proofs.Common.{◌==◌, drop}
use Rattle.function_list.specs.Choices.{is_named}
use Rattle.function_list.specs.Pieces.{shown}
use Rattle.function_list.proofs.Marking.{Marking}
use Rattle.function_list.proofs.mark.mark_named.Given as goal

abbrev pub invariant-loop-named : goal.invariant-loop-named
invariant-loop-named l =
    Marking l.m l.flag (λ f. is_named (shown l.piece) (λ g. g == f) l.names) (λ f. is_named (shown l.piece) (λ g. g == f) (drop l.named-index l.names))
    l.initial.flags l.flags
