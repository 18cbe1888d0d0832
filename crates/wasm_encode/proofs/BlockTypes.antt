-- The index of a type has at most five bytes as a signed number.
use Rattle.std.proofs.Common.{ℕ, ◌^◌, ◌<◌, ◌≤◌, length, arith}
use Rattle.leb_binary.specs.Shortest.{positive_within}
use Rattle.leb_binary.proofs.Lengths.{few_positive}

pub index_five : (n : ℕ) → n < 2 ^ 32 → length (positive_within n n) ≤ 5
index_five n h = few_positive 4 n (omega (arith, h))
