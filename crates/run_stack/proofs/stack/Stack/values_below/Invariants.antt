use Rattle.std.proofs.Common.{◌≡◌, ◌+◌, ◌-◌, take, length}
use Rattle.std.specs.Prelude.{reverse}
use Rattle.module_ast.specs.Validation.{push}
use Rattle.run_stack.proofs.stack.Stack.values_below.Given as goal

-- those so far stand in turn on the lower ones
abbrev pub invariant-loop-place : goal.invariant-loop-place
invariant-loop-place l = record {
  told : reverse (take l.place l.self-inside.values.items) ≡ push l.below (reverse (take (l.end - l.count) l.self-inside.values.items));
  size : length l.below + (l.end - l.count) ≡ l.place;
}
