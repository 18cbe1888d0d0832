use Rattle.std.proofs.Common.{◌≡◌, drop}
use Rattle.code_valid.specs.Checking.{all_take}
use Rattle.code_valid.specs.Control.{labels_of}
use Rattle.code_valid.proofs.plain.all_take.Given as goal

abbrev pub invariant-loop-label : goal.invariant-loop-label
invariant-loop-label l = all_take (labels_of l.blocks) l.types (drop l.label-index l.labels) ≡ all_take (labels_of l.blocks) l.types l.labels
