use Rattle.std.proofs.Common.{◌≡◌, ◌++◌, drop, map}
use Rattle.run_store.specs.Resolved.{callee_for}
use Rattle.shadow_replay.specs.BlockRows.{callee_row}
use Rattle.shadow_replay.proofs.blocks.Blocks.new.Given as goal

-- the rows so far, and those of the functions to come, are all of them
abbrev pub invariant-loop-function : goal.invariant-loop-function
invariant-loop-function l = l.rows.items ++ map callee_row (map callee_for (drop l.function-index l.functions)) ≡ map callee_row (map callee_for l.functions)
