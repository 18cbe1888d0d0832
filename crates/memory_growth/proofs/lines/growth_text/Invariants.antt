-- The lines so far, and those to come.
use Rattle.std.proofs.Common.{◌≡◌, ◌++◌, string_bytes}
use Rattle.memory_growth.specs.Lines.{growths_text}
use Rattle.memory_growth.proofs.lines.growth_text.Given as goal

abbrev pub invariant-loop-func : goal.invariant-loop-func
invariant-loop-func l = string_bytes l.text ++ growths_text l.func-iterator ≡ growths_text l.functions.entries
