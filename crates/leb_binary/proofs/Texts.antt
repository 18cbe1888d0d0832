-- Texts are alike where their bytes are.
use Rattle.std.proofs.Common.{◌≡◌, ℕ, List, true, ap, subst}
use Rattle.std.specs.Prelude.{IsUtf8}
use Rattle.std.specs.Str.{is_utf8}
use Rattle.std.proofs.lemmas.Str.{IsUtf8-from_is_utf8}
use mathlib.Core.Bool.{Bool-set}
use Rattle.leb_binary.specs.Texts.{Text}

-- two texts of the same bytes are one
pub texts_alike : (a b : Text) → a.bytes ≡ b.bytes → a ≡ b
texts_alike a b e =
    let P : List ℕ → Type 0 = λ bytes. (u : is_utf8 bytes ≡ true) → a ≡ (let t : Text = record { bytes = bytes; utf8 = u } in t) in
    subst P e (λ u. ap (λ v. (let t : Text = record { bytes = a.bytes; utf8 = v } in t)) (Bool-set (is_utf8 a.bytes) true a.utf8 u)) b.utf8

-- the bytes of a text are UTF-8
pub text_utf8 : (t : Text) → IsUtf8 t.bytes
text_utf8 t = IsUtf8-from_is_utf8 t.bytes t.utf8
