use Rattle.std.proofs.Common.{◌≡◌, drop}
use Rattle.function_list.specs.Choices.{has_body, is_named}
use Rattle.function_list.specs.Pieces.{shown}
use Rattle.function_list.proofs.choice.calls_named.Given as goal

abbrev pub invariant-loop-named : goal.invariant-loop-named
invariant-loop-named l = is_named (shown l.piece) (has_body l.m) l.names ≡ is_named (shown l.piece) (has_body l.m) (drop l.named-index l.names)
