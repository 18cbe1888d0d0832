use Rattle.std.proofs.Common.{◌≡◌, Some, sym, ◌∙◌, subst}
use Rattle.serde_json.specs.Data.{Data}
use Rattle.static_info.specs.Json.{IsInfo}
use Rattle.static_info.proofs.InfoShapes.{infos_unique}
use Rattle.static_info.proofs.laws.infos_are_unique.Goals as goal

one_value : (d e : Data) → Some d ≡ Some e → d ≡ e
one_value d e h = cc

pub returns : goal.returns
returns c bytes a b h i = infos_unique h.0 a b h.2 (subst (λ (d : Data). IsInfo d b) (one_value i.0 h.0 (sym i.1.read ∙ h.1.read)) i.2)
