use Rattle.std.proofs.Common.{drop, length}
use Rattle.hook_select.specs.Groups.{pieces}
use Rattle.function_list.specs.Choices.{is_listed}
use Rattle.function_list.proofs.Marking.{Marking}
use Rattle.function_list.proofs.mark.mark_pieces.Given as goal

abbrev pub invariant-loop-text : goal.invariant-loop-text
invariant-loop-text l =
    Marking l.m l.flag (is_listed l.m l.names (pieces l.list)) (is_listed l.m l.names (drop (length l.yielded) (pieces l.list))) l.initial.flags l.flags
