use Rattle.std.proofs.Common.{rules, arith}
use Rattle.std.proofs.lemmas.Grind.{common_steps}
use Rattle.trace_file.proofs.writer.TraceWriter.put.Goals as goal

pub returns-then-length-self-clause-kept : goal.returns-then-length-self-clause-kept
returns-then-length-self-clause-kept c = search rules

pub returns-clause-within : goal.returns-clause-within
returns-clause-within c = grind (arith, common_steps)
