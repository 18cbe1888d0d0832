-- 2.2.4 Texts: bytes that are the UTF-8 of some characters.
use Rattle.std.specs.Prelude.{◌≡◌, ℕ, List, true, String, string_bytes}
use Rattle.std.specs.Str.{is_utf8}
use Rattle.std.proofs.lemmas.Str.{is_utf8-from_IsUtf8, IsUtf8-string_bytes}

pub record Text : Type 0 where
  pub bytes : List ℕ
  pub utf8 : is_utf8 bytes ≡ true

-- the text of a string
abbrev pub text_of : {Z : Type 0} → String Z → Text
text_of s = record { bytes = string_bytes s; utf8 = is_utf8-from_IsUtf8 (string_bytes s) (IsUtf8-string_bytes s) }
