use Rattle.std.proofs.Common.{◌+◌, ◌≤◌, drop}
use Rattle.i64_split.specs.Split.{temps_from, ints_in, longs_in, gets}
use Rattle.i64_split.specs.Pushing.{instrs}
use Rattle.i64_split.proofs.Adding.{IsOn}
use Rattle.i64_split.proofs.saving.push_gets_of.Given as goal

abbrev pub invariant-loop-ty : goal.invariant-loop-ty
invariant-loop-ty l = record {
  so_far : IsOn l.initial.code.items l.code.items (instrs (gets (temps_from l.pool l.ints l.longs (drop l.ty-index l.types)))) (instrs (gets (temps_from l.pool l.fn.skip 0 l.types)));
  ints : l.ints + ints_in (drop l.ty-index l.types) ≤ l.pool.ints;
  longs : l.longs + longs_in (drop l.ty-index l.types) ≤ l.pool.longs;
}
