use Rattle.std.proofs.Common.{◌==◌, drop}
use Rattle.function_list.specs.Choices.{is_exported}
use Rattle.function_list.specs.Pieces.{shown}
use Rattle.function_list.proofs.Marking.{Marking}
use Rattle.function_list.proofs.mark.mark_exported.Given as goal

abbrev pub invariant-loop-export : goal.invariant-loop-export
invariant-loop-export l =
    Marking l.m l.flag (λ f. is_exported (shown l.piece) (λ g. g == f) l.exports) (λ f. is_exported (shown l.piece) (λ g. g == f) (drop l.export-index l.exports))
    l.initial.flags l.flags
