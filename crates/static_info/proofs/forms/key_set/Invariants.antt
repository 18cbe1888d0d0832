use Rattle.std.proofs.Common.{◌≡◌}
use Rattle.hook_mono.specs.Keys.{distinct_keys}
use Rattle.static_info.proofs.forms.key_set.Given as goal

abbrev pub invariant-loop-key : goal.invariant-loop-key
invariant-loop-key l = record {
  next : (goal.iterator-loop-key).can_next l.key-iterator;
  ends : (goal.iterator-loop-key).is_finite l.key-iterator;
  so_far : l.set.keys ≡ distinct_keys l.yielded;
}
