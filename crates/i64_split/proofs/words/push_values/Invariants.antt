use Rattle.std.proofs.Common.{drop}
use Rattle.i64_split.specs.Split.{words_code}
use Rattle.i64_split.specs.Pushing.{instrs}
use Rattle.i64_split.proofs.Adding.{IsOn}
use Rattle.i64_split.proofs.words.push_values.Given as goal

abbrev pub invariant-loop-temp : goal.invariant-loop-temp
invariant-loop-temp l = IsOn l.initial.code.items l.code.items (instrs (words_code (drop l.temp-index l.temps))) (instrs (words_code l.temps))
