use Rattle.std.proofs.Common.{◌≡◌, ◌+◌, ◌≤◌, drop}
use Rattle.i64_split.specs.Split.{ints_in}
use Rattle.i64_split.proofs.saving.count_ints.Given as goal

abbrev pub invariant-loop-ty : goal.invariant-loop-ty
invariant-loop-ty l = record {
  so_far : l.count + ints_in (drop l.ty-index l.types) ≡ ints_in l.types;
  few : l.count ≤ l.ty-index;
}
