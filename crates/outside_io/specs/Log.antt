-- A disk in memory as the list of its changes, the first of them first.
use Rattle.std.specs.Prelude.{◌≡◌, ◌≢◌, ◌≤◌, ◌+◌, ℕ, Bool, false, if◌then◌else◌, List, [], ◌∷◌, ◌++◌, length, take, Option, Some, None, option_map, String, string_bytes, Vec, refl}
use Rattle.std.proofs.Common.{sym, ◌∙◌, ap, arith}
use Rattle.std.proofs.lemmas.List.{take_all}
use Rattle.std.specs.Str.{bytes_eq}
use Rattle.std.specs.declared.alloc.Global.{Global}
use Rattle.outside_io.specs.Disk.{Lead, At, Special}
use Rattle.outside_io.specs.Outside.{Contents}
use Rattle.outside_io.specs.declared.memory_disk.Change.{Change}

abbrev pub nothing : Contents
nothing place = None

-- whether a text is this name, if there is one
abbrev pub is_named : Option (String Global) → List ℕ → Bool
is_named None text = false
is_named (Some name) text = bytes_eq text (string_bytes name)

-- where a name leads: to the device if it has this name, and to the place of that name if not
abbrev pub lead_of : Option (String Global) → List ℕ → Lead
lead_of device name = if is_named device name then Special None else At name

-- the bytes that the device took, by its name
abbrev pub taken_by : Option (String Global) → (poured : List ℕ) → List ℕ → List ℕ
taken_by device poured name = if is_named device name then poured else []

-- what is under a place after a change
abbrev pub changed : Change → Contents → Contents
changed change was place =
    if bytes_eq place (string_bytes change.place)
    then option_map (λ b. b.items) change.has
    else (if is_named change.gone place then None else was place)

-- what is under a place after these changes
abbrev pub after : List Change → Contents → Contents
after [] was = was
after (change ∷ changes) was = after changes (changed change was)

abbrev pub log_contents : List Change → Contents
log_contents log = after log nothing

-- what was under a place at some moment since then
abbrev pub Since : List Change → ℕ → List ℕ → Option (List ℕ) → Type 0
Since log t place c = (k : ℕ) × (t ≤ k) × (k ≤ length log) × (c ≡ log_contents (take k log) place)

-- one change more: the place has this, and the other place, if one is named, has nothing
abbrev pub Pushed : (place : List ℕ) → (has : Option (List ℕ)) → (gone : Option (List ℕ)) → (old new : List Change) → Type 0
Pushed place has gone old new =
    (change : Change) × (new ≡ old ++ change ∷ []) × (string_bytes change.place ≡ place)
    × (option_map (λ b. b.items) change.has ≡ has) × (option_map (λ s. string_bytes s) change.gone ≡ gone)

pub since_now : (log : List Change) (t : ℕ) (p : List ℕ) (c : Option (List ℕ)) → t ≤ length log → c ≡ log_contents log p → Since log t p c
since_now log t p c le is = (length log, le, omega arith, is ∙ ap (λ (l : List Change). log_contents l p) (sym (take_all (length log) log (omega arith))))

pub since_only : (log : List Change) (p : List ℕ) (c : Option (List ℕ)) → Since log (length log) p c → c ≡ log_contents log p
since_only log p c left = left.3 ∙ ap (λ (l : List Change). log_contents l p) (take_all left.0 log (omega (arith, left.1)))

abbrev pub text_of : Option (String Global) → Option (List ℕ)
text_of name = option_map (λ s. string_bytes s) name

-- a new, empty file is at the place that is being made, where nothing was, and that is not this place
pub record MadeFile (beside : List ℕ) (made : Option (List ℕ)) (old new : List Change) : Type 0 where
  pub fresh : List ℕ
  pub is_made : made ≡ Some fresh
  pub apart : fresh ≢ beside
  pub free : log_contents old fresh ≡ None
  pub pushed : Pushed fresh (Some []) None old new

pub record AppendedFile (bytes : List ℕ) (made : Option (List ℕ)) (old new : List Change) : Type 0 where
  pub fresh : List ℕ
  pub was : List ℕ
  pub is_made : made ≡ Some fresh
  pub has : log_contents old fresh ≡ Some was
  pub pushed : Pushed fresh (Some (was ++ bytes)) None old new

pub record RenamedFile (to : List ℕ) (made : Option (List ℕ)) (old new : List Change) : Type 0 where
  pub fresh : List ℕ
  pub bytes : List ℕ
  pub is_made : made ≡ Some fresh
  pub has : log_contents old fresh ≡ Some bytes
  pub pushed : Pushed to (Some bytes) (Some fresh) old new

pub record RemovedFile (made : Option (List ℕ)) (old new : List Change) : Type 0 where
  pub fresh : List ℕ
  pub is_made : made ≡ Some fresh
  pub pushed : Pushed fresh None None old new
