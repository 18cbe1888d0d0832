-- Bytes are one script at most.
use Rattle.std.proofs.Common.{◌≡◌, ℕ, List, sym, ◌∙◌, ap, Some, Ok, Err}
use Rattle.serde_json.specs.Data.{Data}
use Rattle.json_form.specs.Text.{IsText, IsNoText}
use Rattle.wasm_sem.specs.declared.Script.{Script}
use Rattle.run_session.specs.Script.{script_form}
use Rattle.app_load.specs.Files.{IsScript, IsNoScript}

-- a text has one value
pub one_value : (bytes : List ℕ) (d e : Data) → IsText bytes d → IsText bytes e → d ≡ e
one_value bytes d e p q =
    let same : Some d ≡ Some e = sym p.read ∙ q.read in
    cc

-- and so one script
pub one_script : (bytes : List ℕ) (s t : Script) → IsScript bytes s → IsScript bytes t → s ≡ t
one_script bytes s t (d, p, f) (e, q, g) =
    let same : d ≡ e = one_value bytes d e p q in
    let result : script_form d ≡ Ok t = ap script_form same ∙ g in
    let both : Ok s ≡ Ok t = sym f ∙ result in
    cc

-- bytes that are not JSON are no script
pub no_text_no_script : (bytes : List ℕ) → IsNoText bytes → IsNoScript bytes
no_text_no_script bytes none s (d, p, f) = none d p

-- nor is a value with a wrong part
pub wrong_no_script : (bytes : List ℕ) (d : Data) (place : ℕ) → IsText bytes d → script_form d ≡ Err place → IsNoScript bytes
wrong_no_script bytes d place p wrong s (e, q, f) =
    let same : d ≡ e = one_value bytes d e p q in
    let right : script_form d ≡ Ok s = ap script_form same ∙ f in
    cc
