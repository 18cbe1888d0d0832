use Rattle.std.proofs.Common.{refl, arith}
use Rattle.std.proofs.lemmas.List.{drop_more}
use Rattle.wasm_num.specs.declared.ValType.TheVariants.{I32}
use Rattle.code_valid.proofs.Runs.{kept_more}
use Rattle.code_valid.proofs.locals.Locals.new.Goals as goal

pub loop-ty-preserved : goal.loop-ty-preserved
loop-ty-preserved c =
    let old = rw (drop_more c.args.params.now c.loop-ty.ty-index I32 (omega arith)) at c.loop-ty.invariant.0 in
    (rw c.in_ok-push.ensures.items (kept_more _ _ _ 1 _ _ _ refl old), omega arith)

pub loop-group-preserved : goal.loop-group-preserved
loop-group-preserved c =
    let more = drop_more c.args.groups.now c.loop-group.group-index (record { count = 0; ty = I32 }) (omega arith) in
    let old = rw more at c.loop-group.invariant in
    (rw c.in_ok-push-2.ensures.items (kept_more _ _ _ _ _ _ _ refl old.0), omega (arith, old.1))
