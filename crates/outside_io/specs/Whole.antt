-- What a file that is written as a whole leaves, at its end and at each moment of the work.
use Rattle.std.specs.Prelude.{◌≡◌, ◌≢◌, ◌⊎◌, ℕ, ◌+◌, ◌≤◌, List, [], Option, Some, None}
use Rattle.outside_io.specs.Outside.{Contents, last_count}

-- A crash at any moment since old leaves under each place what has P.
pub record LeavesOnly {D : Type 0} (moment : D → ℕ) (left_since : D → ℕ → List ℕ → Option (List ℕ) → Type 0) (old new : D) (P : List ℕ → Option (List ℕ) → Type 0) : Type 0 where
  pub later : moment old ≤ moment new
  pub each : (place : List ℕ) (c : Option (List ℕ)) → left_since new (moment old) place c → P place c
  -- for a run that began earlier
  pub before : (t : ℕ) (place : List ℕ) (c : Option (List ℕ)) → t ≤ moment old → left_since new t place c → left_since old t place c ⊎ P place c

-- What a crash may leave under a place while `target` gets these bytes: what it might have left before, at the target the new
-- bytes, all of them, and at the one new place anything.
abbrev pub OldOrNew : (target bytes : List ℕ) → (fresh : Option (List ℕ)) → (could_leave : List ℕ → Option (List ℕ) → Type 0) → List ℕ → Option (List ℕ) → Type 0
OldOrNew target bytes fresh could_leave place c = could_leave place c ⊎ ((place ≡ target) × (c ≡ Some bytes)) ⊎ (fresh ≡ Some place)

-- what a crash may leave under a place while bytes are poured into something special: what it might have left before, and
-- anything in the file that is reached as an open one
abbrev pub OldBut : (P : List ℕ → Type 0) → (could_leave : List ℕ → Option (List ℕ) → Type 0) → List ℕ → Option (List ℕ) → Type 0
OldBut P could_leave place c = could_leave place c ⊎ P place

-- the new place, if there is one, is not the target, and nothing was there
abbrev pub IsFreeBeside : (target : List ℕ) → Contents → Option (List ℕ) → Type 0
IsFreeBeside target old fresh = (place : List ℕ) → fresh ≡ Some place → (old place ≡ None) × (place ≢ target)

-- under the target are these bytes, and under each other place what was there
pub record WroteWhole (target bytes : List ℕ) (old new : Contents) : Type 0 where
  pub there : new target ≡ Some bytes
  pub others : (place : List ℕ) → place ≢ target → new place ≡ old place

-- a crash from now on leaves these bytes under the target
abbrev pub IsForGood : (target bytes : List ℕ) → (may_leave : List ℕ → Option (List ℕ) → Type 0) → Type 0
IsForGood target bytes may_leave = (c : Option (List ℕ)) → may_leave target c → c ≡ Some bytes

-- two more calls were refused, or the count of them is at its greatest value
abbrev pub RoseTwice : (old new : ℕ) → Type 0
RoseTwice old new = (old + 2 ≤ new) ⊎ (new ≡ last_count)

-- after an error: all is as it was; or a new file is left at one place where nothing was, because to remove it was refused too
abbrev pub KeptWhole : (target : List ℕ) → (old new : Contents) → (refusals refusals_now : ℕ) → Type 0
KeptWhole target old new refusals refusals_now =
    ((place : List ℕ) → new place ≡ old place)
    ⊎ ((fresh : List ℕ) × (old fresh ≡ None) × (fresh ≢ target) × RoseTwice refusals refusals_now × ((place : List ℕ) → place ≢ fresh → new place ≡ old place))

-- the file that is being made is at the place `fresh`, which is not the target, and it is empty
pub record IsNew (fresh target : List ℕ) (made : Option (List ℕ)) (under : Contents) : Type 0 where
  pub is_made : made ≡ Some fresh
  pub apart : fresh ≢ target
  pub empty : under fresh ≡ Some []

-- the file has these bytes, all of them for good, and is under the target
pub record Filled (fresh target bytes : List ℕ) (old new : Contents) (holds : List ℕ → List ℕ → Type 0) : Type 0 where
  pub there : new target ≡ Some bytes
  pub gone : new fresh ≡ None
  pub others : (place : List ℕ) → place ≢ fresh → place ≢ target → new place ≡ old place
  pub for_good : (held : List ℕ) → holds target held → Some held ≡ Some bytes

-- the file is still being made, and nothing else was touched
pub record Unfilled (fresh : List ℕ) (old new : Contents) (made : Option (List ℕ)) : Type 0 where
  pub is_made : made ≡ Some fresh
  pub others : (place : List ℕ) → place ≢ fresh → new place ≡ old place
