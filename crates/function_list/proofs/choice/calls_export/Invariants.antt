use Rattle.std.proofs.Common.{◌≡◌, drop}
use Rattle.function_list.specs.Choices.{has_body, is_exported}
use Rattle.function_list.specs.Pieces.{shown}
use Rattle.function_list.proofs.choice.calls_export.Given as goal

abbrev pub invariant-loop-export : goal.invariant-loop-export
invariant-loop-export l = is_exported (shown l.piece) (has_body l.m) l.m.exports ≡ is_exported (shown l.piece) (has_body l.m) (drop l.export-index l.export-items)
