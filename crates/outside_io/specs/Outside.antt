-- What is outside the program: files by their names, and text that is printed.
use Rattle.std.specs.Prelude.{◌≡◌, ◌≢◌, ℕ, zero, suc, ◌^◌, ◌+◌, ◌-◌, ◌<◌, ◌≤◌, min, ◌⊎◌, List, ◌++◌, length, Option, Some, None}

-- the bytes under each name, or nothing
abbrev pub Contents : Type 0
Contents = List ℕ → Option (List ℕ)

-- the greatest value of a count, at which it stops
abbrev pub last_count : ℕ
last_count = 2 ^ 64 - 1

-- one more, but no more than the greatest value
abbrev pub raised_count : ℕ → ℕ
raised_count count = min (count + 1) last_count

-- a count after this many more calls
abbrev pub after_calls : (calls count : ℕ) → ℕ
after_calls zero count = count
after_calls (suc calls) count = after_calls calls (raised_count count)

-- a count rose, or it is at its greatest value, from which it cannot rise
abbrev pub Rose : (old new : ℕ) → Type 0
Rose old new = (old < new) ⊎ (new ≡ last_count)

-- a fact about the contents, if they are known
abbrev pub WhereKnown : Option Contents → (Contents → Type 0) → Type 0
WhereKnown None P = Unit {0}
WhereKnown (Some held) P = P held

-- both contents are known and P holds of them, or neither is known
abbrev pub Changes : (old new : Option Contents) → (Contents → Contents → Type 0) → Type 0
Changes None None P = Unit {0}
Changes (Some old) (Some new) P = P old new
Changes _ _ P = ⊥

-- each name has what it had
abbrev pub SameContents : (old new : Contents) → Type 0
SameContents old new = (name : List ℕ) → new name ≡ old name

-- each name except this one has what it had
abbrev pub SameElsewhere : List ℕ → (old new : Contents) → Type 0
SameElsewhere name old new = (other : List ℕ) → other ≢ name → new other ≡ old other

-- the contents, if they are known, are as they were
abbrev pub Unchanged : (old new : Option Contents) → Type 0
Unchanged old new = Changes old new SameContents

abbrev pub IsPrefixOf : (front all : List ℕ) → Type 0
IsPrefixOf front all = (rest : List ℕ) × (front ++ rest ≡ all)

-- the name now has these bytes, and each other name has what it had
abbrev pub Wrote : (name bytes : List ℕ) → (old new : Option Contents) → Type 0
Wrote name bytes old new = Changes old new (λ was is. (is name ≡ Some bytes) × SameElsewhere name was is)

-- the name has what it had or a prefix of the bytes, and each other name has what it had
abbrev pub WrotePart : (name bytes : List ℕ) → (old new : Option Contents) → Type 0
WrotePart name bytes old new =
    Changes old new (λ was is. ((is name ≡ was name) ⊎ ((part : List ℕ) × (is name ≡ Some part) × IsPrefixOf part bytes)) × SameElsewhere name was is)

-- the name has these bytes, if the contents are known
abbrev pub Holds : Option Contents → (name bytes : List ℕ) → Type 0
Holds contents name bytes = WhereKnown contents (λ held. held name ≡ Some bytes)

-- nothing is under the name; if the contents are not known, the count rose
abbrev pub IsMissing : Option Contents → (name : List ℕ) → (old new : ℕ) → Type 0
IsMissing None name old new = Rose old new
IsMissing (Some held) name old new = held name ≡ None

-- the name has `long` bytes, which are more than the cap; if the contents are not known, the count rose
abbrev pub IsTooLong : Option Contents → (name : List ℕ) → (cap long : ℕ) → (old new : ℕ) → Type 0
IsTooLong None name cap long old new = Rose old new
IsTooLong (Some held) name cap long old new = (bytes : List ℕ) × (held name ≡ Some bytes) × (long ≡ length bytes) × (cap < length bytes)

-- these bytes were appended to the printed bytes, if those are known
abbrev pub Printed : List ℕ → (old new : Option (List ℕ)) → Type 0
Printed bytes None None = Unit {0}
Printed bytes (Some old) (Some new) = new ≡ old ++ bytes
Printed bytes _ _ = ⊥

-- a prefix of these bytes was appended to the printed bytes, if those are known
abbrev pub PrintedPart : List ℕ → (old new : Option (List ℕ)) → Type 0
PrintedPart bytes old new = (part : List ℕ) × IsPrefixOf part bytes × Printed part old new

-- ---- what contracts see of a shelf and of a sink

-- A shelf: its contents if they are known, how many reads and writes were made, and how many of each were refused because the
-- outside failed. The refused reads have a count for each name, which rises if a read of that name is refused. A shelf that
-- keeps one count for all names shows it at each name.
pub record ShelfState : Type 0 where
  pub contents : Option Contents
  pub reads : ℕ
  pub writes : ℕ
  pub read_faults : (name : List ℕ) → ℕ
  pub write_faults : ℕ

-- this many reads were made, and nothing else was done
pub record OnlyRead (calls : ℕ) (old new : ShelfState) : Type 0 where
  pub contents : Unchanged old.contents new.contents
  pub reads : new.reads ≡ after_calls calls old.reads
  pub writes : new.writes ≡ old.writes
  pub read_faults : (name : List ℕ) → old.read_faults name ≤ new.read_faults name
  pub write_faults : new.write_faults ≡ old.write_faults

-- this many writes were made, and no reads
pub record OnlyWrote (calls : ℕ) (old new : ShelfState) : Type 0 where
  pub reads : new.reads ≡ old.reads
  pub writes : new.writes ≡ after_calls calls old.writes
  pub read_faults : new.read_faults ≡ old.read_faults
  pub write_faults : old.write_faults ≤ new.write_faults

-- a sink: what was printed if it is known, how many prints were made, and how many were refused because the outside failed
pub record PrintState : Type 0 where
  pub text : Option (List ℕ)
  pub prints : ℕ
  pub faults : ℕ

-- this many prints were made
pub record OnlyPrinted (calls : ℕ) (old new : PrintState) : Type 0 where
  pub prints : new.prints ≡ after_calls calls old.prints
  pub faults : old.faults ≤ new.faults
