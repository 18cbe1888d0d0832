-- The pieces of a list of functions: indices, ranges of indices, and names.
use Rattle.std.specs.Prelude.{ℕ, ◌-◌, ◌^◌, ◌==◌, ◌&&◌, not, nat_le, nat_lt, List, [], length, take, slice_index, Bool, cond, Option, Some, None, option_and_then, is_some}
use Rattle.std.specs.List.{list_all, before_first, after_first}
use Rattle.std.specs.Char.{is_ascii_digit}
use Rattle.std.specs.Str.Parse.{digits_value}
use Rattle.hook_select.specs.Groups.{pieces}
use Rattle.function_list.specs.declared.piece.Piece.{Piece as ReadPiece}
use Rattle.function_list.specs.declared.piece.Piece.TheVariants.{Indices, Name, Prefix}

-- what a piece means: the functions with the indices from the first number to the last, those with this name, or those with a
-- name that begins so
pub data Piece : Type 0 where
  indices : (first last : ℕ) → Piece
  name : List ℕ → Piece
  prefix : List ℕ → Piece

-- the piece that the code has read
abbrev pub shown : ReadPiece → Piece
shown (Indices first last) = indices first last
shown (Name text) = name text.now
shown (Prefix text) = prefix text.now

-- ---- the text of a piece

-- digits alone, at least one
abbrev pub is_digits : (text : List ℕ) → Bool
is_digits text = not (length text == 0) && list_all is_ascii_digit text

-- the number that digits write, if it is one of 32 bits
abbrev pub number_of : (digits : List ℕ) → Option ℕ
number_of digits = cond (nat_lt (digits_value 10 digits) (2 ^ 32)) (Some (digits_value 10 digits)) None

-- the piece of two numbers that digits write; none if the first one is greater
abbrev pub indices_of : (first last : List ℕ) → Option Piece
indices_of first last =
    option_and_then (λ a. option_and_then (λ b. cond (nat_le a b) (Some (indices a b)) None) (number_of last)) (number_of first)

-- the text in front of the first `-`, and the text behind it
abbrev pub before_dash : (text : List ℕ) → List ℕ
before_dash = before_first (λ b. b == 45)

abbrev pub behind_dash : (text : List ℕ) → List ℕ
behind_dash = after_first (λ b. b == 45)

-- digits, `-` and digits
abbrev pub is_range : (text : List ℕ) → Bool
is_range text = is_digits (before_dash text) && is_digits (behind_dash text)

-- a name; a `*` at its end stands for any rest. No name is empty
abbrev pub ends_in_star : (text : List ℕ) → Bool
ends_in_star text = slice_index text (length text - 1) == 42

abbrev pub name_of : (text : List ℕ) → Option Piece
name_of [] = None
name_of text = Some (cond (ends_in_star text) (prefix (take (length text - 1) text)) (name text))

-- the piece that a text spells, if it spells one
abbrev pub read_piece : (text : List ℕ) → Option Piece
read_piece text =
    cond (is_digits text) (indices_of text text)
    (cond (is_range text) (indices_of (before_dash text) (behind_dash text)) (name_of text))

-- ---- the text of a list

-- whether each piece of the list has a form; single commas stand between the pieces
abbrev pub is_list : (text : List ℕ) → Bool
is_list text = list_all (λ piece. is_some (read_piece piece)) (pieces text)
