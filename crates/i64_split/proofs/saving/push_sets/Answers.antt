use Rattle.std.proofs.Common.{◌-◌, arith, length, ◌<◌}
use Rattle.wasm_num.specs.declared.ValType.TheVariants.{I32}
use Rattle.i64_split.specs.declared.Temp.{Temp}
use Rattle.i64_split.proofs.Adding.{on_next}
use Rattle.i64_split.proofs.Saved.{next_set}
use Rattle.i64_split.proofs.saving.push_sets.Goals as goal

abbrev none : Temp
none = record { ty = I32; local = 0 }

pub loop-left-preserved : goal.loop-left-preserved
loop-left-preserved c =
    let inside : c.loop-left.left - 1 < length c.args.temps.now = omega arith in
    record {
      within = omega arith;
      so_far = on_next _ _ _ _ _ _ _ c.loop-left.invariant.so_far (next_set c.args.temps.now (c.loop-left.left - 1) c.loop-left.left none (omega arith) inside) c.in_ok-push.ensures.items;
    }
