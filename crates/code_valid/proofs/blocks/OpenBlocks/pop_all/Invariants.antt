use Rattle.std.proofs.Common.{◌≡◌, ◌≤◌, length, take}
use Rattle.code_valid.specs.Checking.{take_types}
use Rattle.code_valid.specs.Control.{innermost_stack, with_innermost_stack}
use Rattle.code_valid.proofs.blocks.OpenBlocks.pop_all.Given as goal

abbrev pub invariant-loop-left : goal.invariant-loop-left
invariant-loop-left l = record {
  within : l.left ≤ length l.types;
  so_far : take_types l.types (innermost_stack l.initial.self) ≡ take_types (take l.left l.types) (innermost_stack l.self);
  same : l.self ≡ with_innermost_stack (innermost_stack l.self) l.initial.self;
}

abbrev pub decreases-loop-left : goal.decreases-loop-left
decreases-loop-left l = l.left
