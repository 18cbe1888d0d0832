-- Words in their plain form: a mode, a subject, and pairs of an option and its value.
use Rattle.std.specs.Prelude.{◌≡◌, ◌≢◌, ◌≤◌, ⊤, ℕ, Bool, false, List, [], ◌∷◌, ◌++◌, Option, Some, None, codes, find, map, option_map}
use Rattle.std.specs.List.{flat_map, list_any}
use Rattle.std.specs.Str.{bytes_eq}
use Rattle.std.specs.Str.Parse.{IsNumeral, digits_value, without_leading_plus}
use Rattle.clap.specs.Words.{Text}
use Rattle.command_line.specs.Lines.{Kind, Line, number_to, defaults_of, line_by, option_named, options}

-- a text that is not empty and does not begin with `-`
abbrev pub IsValue : Text → Type 0
IsValue [] = ⊥
IsValue (b ∷ bs) = b ≢ 45

-- the text writes the number, which is from 1 to `most`
pub record WritesNumber (most : ℕ) (text : Text) (number : ℕ) : Type 0 where
  pub numeral : IsNumeral 10 (without_leading_plus text)
  pub value : number ≡ digits_value 10 (without_leading_plus text)
  pub least : 1 ≤ number
  pub at_most : number ≤ most

-- an option of this kind takes the value
abbrev pub Takes : Kind → (value : Text) → Type 0
Takes (number_to most default) value = (n : ℕ) × WritesNumber most value n
Takes _ value = ⊤

-- the option is one of the command's, and takes the value
abbrev pub IsOption : Option (Text × Kind) → (value : Text) → Type 0
IsOption None value = ⊥
IsOption (Some o) value = Takes o.1 value

-- a value for the option of this name, or for a word that belongs to no option
pub record Use : Type 0 where
  pub id : Text
  pub value : Text

-- whether the option is among these
abbrev pub has_option : List Use → (id : Text) → Bool
has_option uses id = list_any (λ u. bytes_eq u.id id) uses

-- each option has a value that it takes, and was not there before
abbrev pub AreUses : (before uses : List Use) → Type 0
AreUses before [] = ⊤
AreUses before (u ∷ us) = IsOption (option_named u.id) u.value × IsValue u.value × (has_option before u.id ≡ false) × AreUses (before ++ u ∷ []) us

abbrev pub words_with : List Use → List Text
words_with [] = []
words_with (u ∷ us) = (45 ∷ 45 ∷ u.id) ∷ u.value ∷ words_with us

-- the value of an option, if it is among these
abbrev pub value_given : List Use → (id : Text) → Option Text
value_given uses id = option_map (λ u. u.value) (find (λ u. bytes_eq u.id id) uses)

-- the mode and the subject before the pairs
abbrev pub all_of : (mode subject : Text) → List Use → List Use
all_of mode subject uses = record { id = codes "mode"; value = mode } ∷ record { id = codes "subject"; value = subject } ∷ uses

-- the default of an option, as a use of it
abbrev pub default_uses : Text × Kind → List Use
default_uses o = map (λ text. record { id = o.0; value = text }) (defaults_of o.1)

-- the line has the values that are given, and the defaults of the options that are not given
abbrev pub Says : (mode subject : Text) → List Use → Line → Type 0
Says mode subject uses line = line_by (value_given (all_of mode subject uses ++ flat_map default_uses options)) ≡ Some line
