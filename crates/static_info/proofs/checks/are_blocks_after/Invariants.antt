use Rattle.std.proofs.Common.{negsuc}
use Rattle.static_info.proofs.Rising.{BlocksLeft}
use Rattle.static_info.proofs.checks.are_blocks_after.Given as goal

abbrev pub invariant-loop-block : goal.invariant-loop-block
invariant-loop-block l = BlocksLeft (negsuc 0) l.blocks l.last l.block-index
