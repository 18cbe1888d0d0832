use Rattle.std.proofs.Common.{◌≡◌, drop, length}
use Rattle.hook_select.specs.Groups.{pieces, list_pieces}
use Rattle.hook_select.proofs.ReadOn.{rest_reads}
use Rattle.hook_select.proofs.read.read_names.Given as goal

abbrev pub invariant-loop-name : goal.invariant-loop-name
invariant-loop-name l = (l.place ≡ length l.yielded) × (list_pieces (pieces l.text) ≡ rest_reads l.place l.hooks (drop (length l.yielded) (pieces l.text)))
