use Rattle.std.proofs.Common.{◌≡◌, drop}
use Rattle.code_valid.specs.Checking.{put_types}
use Rattle.code_valid.specs.Control.{innermost_stack, with_innermost_stack}
use Rattle.code_valid.proofs.blocks.OpenBlocks.push_all.Given as goal

abbrev pub invariant-loop-ty : goal.invariant-loop-ty
invariant-loop-ty l = record {
  so_far : put_types (drop l.ty-index l.types) (innermost_stack l.self) ≡ put_types l.types (innermost_stack l.initial.self);
  same : l.self ≡ with_innermost_stack (innermost_stack l.self) l.initial.self;
}
