use Rattle.std.proofs.Common.{◌≡◌, take}
use Rattle.static_info.specs.Shape.{set_of_groups}
use Rattle.static_info.proofs.forms.set_of.Given as goal

abbrev pub invariant-loop-group : goal.invariant-loop-group
invariant-loop-group l = l.hooks ≡ set_of_groups (take l.group-index l.groups)
