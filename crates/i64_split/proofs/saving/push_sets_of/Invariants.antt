use Rattle.std.proofs.Common.{◌≡◌, ◌+◌, ◌≤◌, take, length}
use Rattle.i64_split.specs.Split.{temps_from, ints_in, longs_in, sets}
use Rattle.i64_split.specs.Pushing.{instrs}
use Rattle.i64_split.proofs.Adding.{IsOn}
use Rattle.i64_split.proofs.saving.push_sets_of.Given as goal

abbrev pub invariant-loop-left : goal.invariant-loop-left
invariant-loop-left l = record {
  within : l.left ≤ length l.types;
  few_ints : l.ints ≤ l.pool.ints;
  few_longs : l.longs ≤ l.pool.longs;
  ints : l.ints ≡ l.fn.skip + ints_in (take l.left l.types);
  longs : l.longs ≡ longs_in (take l.left l.types);
  so_far : IsOn l.initial.code.items l.code.items (instrs (sets (temps_from l.pool l.fn.skip 0 (take l.left l.types)))) (instrs (sets (temps_from l.pool l.fn.skip 0 l.types)));
}

abbrev pub decreases-loop-left : goal.decreases-loop-left
decreases-loop-left l = l.left
