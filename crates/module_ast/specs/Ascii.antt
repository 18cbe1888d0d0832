-- Texts in ASCII.
use Rattle.std.specs.Prelude.{◌≡◌, ℕ, List, true}
use Rattle.leb_binary.specs.Ascii.{is_ascii}
use Rattle.leb_binary.specs.Texts.{Text}
use Rattle.leb_binary.proofs.Ascii.{ascii_utf8}

abbrev pub ascii_text : (bytes : List ℕ) → is_ascii bytes ≡ true → Text
ascii_text bytes h = record { bytes = bytes; utf8 = ascii_utf8 bytes h }
