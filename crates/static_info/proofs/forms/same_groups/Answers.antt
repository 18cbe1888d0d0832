use Rattle.std.proofs.Common.{◌≡◌, List, [], ◌∷◌, ◌&&◌, ◌==◌, refl, ap₂, ◌∙◌}
use lib.Pointwise.{pointwise}
use Rattle.wasm_sem.specs.Types.{GroupName}
use Rattle.hook_select.specs.contracts.GroupNamePartialEq.TheImpl as eq
use Rattle.hook_select.specs.Groups.{group_eq}
use Rattle.static_info.specs.Shape.{same_groups}
use Rattle.static_info.proofs.KeysRead.{group_tag}
use Rattle.static_info.proofs.forms.same_groups.Goals as goal

same_group : (g h : GroupName) → eq.eq-value.it g h ≡ group_eq g h
same_group g h = ap₂ (λ a b. a == b) (group_tag g) (group_tag h)

each_same : (gs hs : List GroupName) → pointwise eq.eq-value.it gs hs ≡ same_groups gs hs
each_same [] [] = refl
each_same [] (h ∷ hs) = refl
each_same (g ∷ gs) [] = refl
each_same (g ∷ gs) (h ∷ hs) = ap₂ (λ x y. x && y) (same_group g h) (each_same gs hs)

pub returns : goal.returns
returns c = c.eq.ensures ∙ each_same c.args.left.now c.args.right.now
