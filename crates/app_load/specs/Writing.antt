-- How files are written, one after the other.
use Rattle.std.specs.Prelude.{ℕ, ◌⊎◌, List, [], ◌∷◌, Option}
use Rattle.outside_io.specs.Outside.{Contents, Rose, Unchanged, Wrote, WrotePart, ShelfState, OnlyWrote}
use Rattle.app_load.specs.Texts.{unwritten_text, no_memory_text}
use Rattle.app_load.specs.Plans.{File}

-- why bytes could not be written under a name, with the status and the line
pub data PutCause (name bytes : List ℕ) (old new : ShelfState) : (status : ℕ) → (text : List ℕ) → Type 0 where
  put_failed : Rose old.write_faults new.write_faults → WrotePart name bytes old.contents new.contents → PutCause name bytes old new 5 (unwritten_text name)
  put_no_memory : WrotePart name bytes old.contents new.contents → PutCause name bytes old new 14 no_memory_text

-- each file was written under its name, in order; every other name is as before
abbrev pub WroteAll : List File → (old new : Option Contents) → Type 0
WroteAll [] old new = Unchanged old new
WroteAll (f ∷ fs) old new = (mid : Option Contents) × Wrote f.name f.bytes old mid × WroteAll fs mid new

-- the first files were written, and the name of the next file is as before or has a prefix of the bytes of that file
abbrev pub WroteSome : List File → (old new : Option Contents) → Type 0
WroteSome [] old new = Unchanged old new
WroteSome (f ∷ fs) old new = WrotePart f.name f.bytes old new ⊎ ((mid : Option Contents) × Wrote f.name f.bytes old mid × WroteSome fs mid new)

-- why one of the files could not be written: each file before that one was written once, and that one was tried once
abbrev pub FilesCause : List File → (old new : ShelfState) → (status : ℕ) → (text : List ℕ) → Type 0
FilesCause [] old new status text = ⊥
FilesCause (f ∷ fs) old new status text =
    (OnlyWrote 1 old new × PutCause f.name f.bytes old new status text)
    ⊎ ((mid : ShelfState) × OnlyWrote 1 old mid × Wrote f.name f.bytes old.contents mid.contents × FilesCause fs mid new status text)
