-- What the calls of a disk do to what is under its places, and what a crash may leave there.
--
-- A place is an entry of a folder, written as a path without links. Under a place is an ordinary file, seen as its bytes, or
-- nothing.
use Rattle.std.specs.Prelude.{◌≡◌, ◌≢◌, ◌⊎◌, ℕ, ◌≤◌, List, [], ◌++◌, Option, Some, None, Result, Ok, Err}
use Rattle.outside_io.specs.Outside.{Contents, IsPrefixOf, raised_count}

-- Where a name leads, when links are followed: to a place, or to something special, which is a device, a pipe, a folder, or a
-- file that is reached as one that is open; the place of that file is named.
pub data Lead : Type 0 where
  At : (place : List ℕ) → Lead
  Special : (opened : Option (List ℕ)) → Lead

-- the ordinary file under this place is reached as one that is open
abbrev pub IsOpened : Lead → (place : List ℕ) → Type 0
IsOpened (At _) place = ⊥
IsOpened (Special opened) place = opened ≡ Some place

-- Of each place but those with P: under it is what was there, and a crash may leave there only what it might have left before.
pub record UntouchedOff (P : List ℕ → Type 0) (old new : Contents) (could_leave may_leave : List ℕ → Option (List ℕ) → Type 0) : Type 0 where
  pub same : (other : List ℕ) → (P other → ⊥) → new other ≡ old other
  pub crash : (other : List ℕ) → (P other → ⊥) → (c : Option (List ℕ)) → may_leave other c → could_leave other c

-- the same of each place except this one
abbrev pub UntouchedBut : (place : List ℕ) → (old new : Contents) → (could_leave may_leave : List ℕ → Option (List ℕ) → Type 0) → Type 0
UntouchedBut place = UntouchedOff (λ other. other ≡ place)

-- the same of each place
pub record Untouched (old new : Contents) (could_leave may_leave : List ℕ → Option (List ℕ) → Type 0) : Type 0 where
  pub same : (place : List ℕ) → new place ≡ old place
  pub crash : (place : List ℕ) (c : Option (List ℕ)) → may_leave place c → could_leave place c

-- something special took these bytes, or a prefix of them where the answer is an error
abbrev pub Poured : {T E : Type 0} → Result T E → (bytes was is : List ℕ) → Type 0
Poured (Ok _) bytes was is = is ≡ was ++ bytes
Poured (Err _) bytes was is = (part : List ℕ) × IsPrefixOf part bytes × (is ≡ was ++ part)

-- a new and empty file was made at the place `fresh`, where nothing was, beside another place
pub record Created (beside fresh : List ℕ) (old new : Contents) (could_leave may_leave : List ℕ → Option (List ℕ) → Type 0) (made : Option (List ℕ)) : Type 0 where
  pub is_made : made ≡ Some fresh
  pub apart : fresh ≢ beside
  pub free : old fresh ≡ None
  pub empty : new fresh ≡ Some []
  pub others : UntouchedBut fresh old new could_leave may_leave

-- these bytes were added to the file at a place
abbrev pub Appended : (place bytes : List ℕ) → (old new : Contents) → Type 0
Appended place bytes old new = (was : List ℕ) → old place ≡ Some was → new place ≡ Some (was ++ bytes)

-- the file that was at one place is at another, in place of what was there
pub record Moved (from to : List ℕ) (old new : Contents) (held holds : List ℕ → List ℕ → Type 0) : Type 0 where
  pub there : new to ≡ old from
  pub gone : new from ≡ None
  pub others : (other : List ℕ) → other ≢ from → other ≢ to → new other ≡ old other
  pub same_file : (bytes : List ℕ) → holds to bytes → held from bytes

-- A crash while one place takes the file of another: it may leave what it might have left before, or, at the place that takes
-- the file, the file with what a crash may leave in it. What it leaves at the place that gives it up is not said.
pub record CrashMoved (from to : List ℕ) (could_leave may_leave : List ℕ → Option (List ℕ) → Type 0) (held : List ℕ → List ℕ → Type 0) : Type 0 where
  pub others : (other : List ℕ) → other ≢ from → other ≢ to → (c : Option (List ℕ)) → may_leave other c → could_leave other c
  pub either : (c : Option (List ℕ)) → may_leave to c → could_leave to c ⊎ ((bytes : List ℕ) × held from bytes × (c ≡ Some bytes))

-- Time goes on: a crash since t might have left what it might have left before, or what it may leave now.
pub record Elapses (before now : ℕ) (past since : ℕ → List ℕ → Option (List ℕ) → Type 0) (may_leave : List ℕ → Option (List ℕ) → Type 0) : Type 0 where
  pub later : before ≤ now
  pub nothing_else : (t : ℕ) (place : List ℕ) (c : Option (List ℕ)) → t ≤ before → since t place c → past t place c ⊎ may_leave place c
  pub keeps : (t : ℕ) (place : List ℕ) (c : Option (List ℕ)) → t ≤ before → past t place c → since t place c

-- the count of refused calls after a call with this answer
abbrev pub counted : {T E : Type 0} → Result T E → ℕ → ℕ
counted (Ok _) count = count
counted (Err _) count = raised_count count
