use Rattle.std.proofs.Common.{◌≤◌, ◌&&◌, max, nat_le, nat_lt}
use Rattle.function_list.specs.Marks.{Marks}
use Rattle.function_list.proofs.mark.mark_indices.Given as goal

abbrev pub invariant-loop-func : goal.invariant-loop-func
invariant-loop-func l = record {
  marks : Marks l.m (λ f. nat_le l.first f && nat_lt f l.func) l.flag l.initial.flags l.flags;
  below : l.func ≤ max l.first l.end;
}
