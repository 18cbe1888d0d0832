-- What was written, piece by piece.
use Rattle.std.proofs.Common.{◌≡◌, ◌+◌, ◌-◌, ◌≤◌, ℕ, List, length, take, drop, Option, arith}
use Rattle.std.proofs.KnownBytes.{Appends-trans}
use Rattle.std.proofs.Math.Seq.{take-add}
use Rattle.std.proofs.lemmas.List.{take-take, length-take, length-drop}
use Rattle.std.specs.Io.KnownBytes.{Appends}

-- the bytes that were done, and then a front of those that were left, are a longer front
pub written_more : (first second third : Option (List ℕ)) (bytes : List ℕ) (done taken : ℕ) →
    taken ≤ length (take (length bytes - done) (drop done bytes)) → Appends first second (take done bytes)
    → Appends second third (take taken (take (length bytes - done) (drop done bytes)))
    → Appends first third (take (done + taken) bytes)
written_more first second third bytes done taken within written more =
    let short : taken ≤ length bytes - done = omega (arith, within, length-take (length bytes - done) (drop done bytes), length-drop done bytes) in
    let piece : take taken (take (length bytes - done) (drop done bytes)) ≡ take taken (drop done bytes) = take-take taken (length bytes - done) (drop done bytes) short in
    rw (take-add done taken bytes, ← piece) (Appends-trans first second third _ _ written more)
