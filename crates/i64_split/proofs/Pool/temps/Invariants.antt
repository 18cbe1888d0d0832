use Rattle.std.proofs.Common.{◌≡◌, ◌+◌, ◌≤◌, ◌++◌, drop}
use Rattle.i64_split.specs.Split.{temps_from, ints_in, longs_in}
use Rattle.i64_split.proofs.Pool.temps.Given as goal

abbrev pub invariant-loop-ty : goal.invariant-loop-ty
invariant-loop-ty l = record {
  so_far : l.temps.items ++ temps_from l.self l.ints l.longs (drop l.ty-index l.types) ≡ temps_from l.self l.fn.skip 0 l.types;
  ints : l.ints + ints_in (drop l.ty-index l.types) ≤ l.self.ints;
  longs : l.longs + longs_in (drop l.ty-index l.types) ≤ l.self.longs;
}
