use Rattle.std.proofs.Common.{rules}
use Rattle.outside_io.proofs.memory_sink.MemorySink.new.Goals as goal

pub invariant_of-result : goal.invariant_of-result
invariant_of-result c = search rules

pub returns-clause-faultless : goal.returns-clause-faultless
returns-clause-faultless c = search rules

pub returns-clause-counts : goal.returns-clause-counts
returns-clause-counts c = search rules
