use Rattle.std.proofs.Common.{◌≡◌, ◌+◌, drop}
use Rattle.i64_split.specs.Split.{ints_in, longs_in}
use Rattle.rewrite_needs.proofs.pool.Room.of.Given as goal

abbrev pub invariant-loop-ty : goal.invariant-loop-ty
invariant-loop-ty l = record {
  ints : l.ints + ints_in (drop l.ty-index l.types) ≡ ints_in l.types;
  longs : l.longs + longs_in (drop l.ty-index l.types) ≡ longs_in l.types;
  both : l.ints + l.longs ≡ l.ty-index;
}
