-- Bytes hold one information at most.
use Rattle.std.proofs.Common.{◌≡◌, ℕ, List, sym, subst}
use Rattle.serde_json.specs.Data.{Data}
use Rattle.json_form.specs.Text.{IsNoText}
use Rattle.static_info.specs.declared.Info.{Info}
use Rattle.static_info.specs.Json.{IsInfo, HoldInfo, HoldNoInfo}
use Rattle.static_info.proofs.InfoShapes.{infos_unique}
use Rattle.app_load.proofs.Scripts.{one_value}

pub one_info : (bytes : List ℕ) (a b : Info) → HoldInfo bytes a → HoldInfo bytes b → a ≡ b
one_info bytes a b (d, p, f) (e, q, g) = infos_unique d a b f (subst (λ (x : Data). IsInfo x b) (sym (one_value bytes d e p q)) g)

-- bytes that are not JSON hold none
pub no_text_no_info : (bytes : List ℕ) (info : Info) → IsNoText bytes → HoldInfo bytes info → ⊥
no_text_no_info bytes info none (d, p, f) = none d p

-- nor does a value that is none
pub other_no_info : (bytes : List ℕ) (info : Info) → HoldNoInfo bytes → HoldInfo bytes info → ⊥
other_no_info bytes info (d, p, none) (e, q, f) = none info (subst (λ (x : Data). IsInfo x info) (sym (one_value bytes d e p q)) f)
