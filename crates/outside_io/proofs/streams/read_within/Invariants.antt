use Rattle.std.proofs.Common.{◌≤◌, ◌-◌, vec_len}
use Rattle.std.specs.Io.KnownBytes.{Consumes}
use Rattle.outside_io.proofs.streams.read_within.Given as goal

-- what was taken so far is within the cap
abbrev pub invariant-loop-bytes : goal.invariant-loop-bytes
invariant-loop-bytes g l = record {
  within : vec_len l.bytes ≤ l.cap;
  taken : Consumes (g.F.Read.remaining l.fn.from) (g.F.Read.remaining l.from) l.bytes.items;
}

abbrev pub decreases-loop-bytes : goal.decreases-loop-bytes
decreases-loop-bytes g l = l.cap - vec_len l.bytes
