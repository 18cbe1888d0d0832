use Rattle.std.proofs.Common.{◌≡◌, drop, length}
use Rattle.hook_select.specs.Groups.{pieces}
use Rattle.app_load.specs.Kinds.{no_kinds, with_named}
use Rattle.app_load.proofs.kinds.read_names.Given as goal

abbrev pub invariant-loop-name : goal.invariant-loop-name
invariant-loop-name l = with_named no_kinds (pieces l.list) ≡ with_named l.kinds (drop (length l.yielded) (pieces l.list))
