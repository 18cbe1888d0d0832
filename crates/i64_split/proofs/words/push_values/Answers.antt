use Rattle.std.proofs.Common.{arith}
use Rattle.std.proofs.lemmas.Grind.{common_steps}
use Rattle.wasm_num.specs.declared.ValType.TheVariants.{I32}
use Rattle.i64_split.specs.declared.Temp.{Temp}
use Rattle.i64_split.proofs.Adding.{on_some}
use Rattle.i64_split.proofs.Saved.{next_words}
use Rattle.i64_split.proofs.words.push_values.Goals as goal

abbrev none : Temp
none = record { ty = I32; local = 0 }

pub returns-in_err-push_value-clause-prefix : goal.returns-in_err-push_value-clause-prefix
returns-in_err-push_value-clause-prefix c =
    on_some _ _ _ _ _ _ _ c.loop-temp.invariant (next_words c.args.temps.now c.loop-temp.temp-index none c.loop-temp-test.true) c.push_value.ensures.prefix

pub loop-temp-preserved : goal.loop-temp-preserved
loop-temp-preserved c = grind (arith, common_steps)

pub returns-clause-added : goal.returns-clause-added
returns-clause-added c = grind (arith, common_steps)

pub returns-clause-prefix : goal.returns-clause-prefix
returns-clause-prefix c = grind (arith, common_steps)
