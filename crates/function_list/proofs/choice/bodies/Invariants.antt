use Rattle.std.proofs.Common.{◌≡◌, ◌&&◌, map}
use Rattle.std.specs.List.{range_with_len}
use Rattle.function_list.specs.Choices.{has_body}
use Rattle.function_list.proofs.choice.bodies.Given as goal

abbrev pub invariant-loop-func : goal.invariant-loop-func
invariant-loop-func l = l.flags.items ≡ map (λ f. has_body l.m f && l.flag) (range_with_len 0 l.func)
