-- Sets of groups by their groups.
use Rattle.std.proofs.Common.{◌≡◌, ◌↔◌, Bool, false, refl, ap, ◌∙◌, lit<, slice_index_or}
use Rattle.std.specs.Prelude.{All}
use Rattle.hook_select.specs.declared.GroupName.{GroupName}
use Rattle.hook_select.specs.declared.GroupName.TheVariants.{Start}
use Rattle.hook_select.specs.declared.Hooks.{Hooks}
use Rattle.hook_select.specs.Groups.{groups, group_number, has, hooks_of}

-- sets by tests that answer alike
pub hooks_alike : (a b : GroupName → Bool) → ((g : GroupName) → a g ≡ b g) → hooks_of a ≡ hooks_of b
hooks_alike a b same = λ i. hooks_of (λ g. same g i)

pub has_test : (test : GroupName → Bool) (g : GroupName) → has (hooks_of test) g ≡ test g
has_test test Start = refl
has_test test g = refl

-- what holds of all groups in their order holds of each
each_group : (P : GroupName → Type 0) → All P groups → (g : GroupName) → P g
each_group P h Start = h 0 Start (lit< tt)
each_group P h g = h (group_number g) g (lit< tt)

-- the set that has no group
pub none_in : (hooks : Hooks) → All (λ g. has hooks g ≡ false) groups ↔ (hooks ≡ hooks_of (λ g. false))
none_in hooks = (
  λ h. hooks_alike (has hooks) (λ g. false) (each_group (λ g. has hooks g ≡ false) h),
  λ e k g low. ap (λ hooks. has hooks (slice_index_or groups k g)) e ∙ has_test (λ g. false) (slice_index_or groups k g),
)
