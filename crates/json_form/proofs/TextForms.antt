-- The form of a text.
use Rattle.std.proofs.Common.{◌≡◌, Bool, true, false, Some, option_and_then, refl, ap, ◌∙◌}
use Rattle.std.specs.Str.{is_utf8}
use Rattle.serde_json.specs.Data.{Data}
use Rattle.serde_json.specs.Find.{as_str}
use Rattle.leb_binary.specs.Texts.{Text}
use Rattle.leb_binary.proofs.Texts.{texts_alike}
use Rattle.json_form.specs.Form.{text_if, text_form}

text_there : (t : Text) (b : Bool) (e : is_utf8 t.bytes ≡ b) → text_if t.bytes b e ≡ Some t
text_there t true e = ap (λ (u : Text). Some u) (texts_alike (record { bytes = t.bytes; utf8 = e }) t refl)
text_there t false e = let is_so : is_utf8 t.bytes ≡ true = t.utf8 in cc

-- a value of a text's bytes gives the text
pub text_given : (d : Data) (t : Text) → as_str d ≡ Some t.bytes → text_form d ≡ Some t
text_given d t e =
    ap (option_and_then (λ bytes. text_if bytes (is_utf8 bytes) refl)) e ∙ text_there t (is_utf8 t.bytes) refl
