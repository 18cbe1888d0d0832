use Rattle.hook_mono.specs.Values.{AreWords}
use Rattle.app_tests.proofs.hook_calls.words.Given as goal

abbrev pub invariant-loop-word : goal.invariant-loop-word
invariant-loop-word l = AreWords l.values
