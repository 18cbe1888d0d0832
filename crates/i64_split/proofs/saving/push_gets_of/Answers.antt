use Rattle.std.proofs.Common.{[], ◌∷◌, ◌++◌, arith, ap, ◌∙◌}
use Rattle.wasm_num.specs.declared.ValType.TheVariants.{I32}
use Rattle.module_ast.specs.declared.code.Instr.TheVariants.{LocalGet}
use Rattle.i64_split.proofs.Adding.{on_next}
use Rattle.i64_split.proofs.Saved.{next_get_int, next_get_long}
use Rattle.i64_split.proofs.Temporaries.{from_int, from_long}
use Rattle.i64_split.proofs.saving.push_gets_of.Goals as goal
use Rattle.i64_split.proofs.saving.push_gets_of.Goals.{in-I32+in_ok-push-in-I32, in-I64+in_ok-push-in-I64}

pub loop-ty-preserved : goal.loop-ty-preserved
loop-ty-preserved c = elim c.match-ty.branch [
  | in-I32+in_ok-push-in-I32 w ↦ (
      let ts = c.args.types.now in
      let k = c.loop-ty.ty-index in
      let counts = from_int ts k I32 c.loop-ty-test.true w.in-I32.is in
      record {
        so_far = on_next _ _ _ _ _ _ _ c.loop-ty.invariant.so_far
            (next_get_int c.args.pool.now c.loop-ty.ints c.loop-ty.longs c.match-ty.ints c.match-ty.longs ts k I32 c.loop-ty-test.true w.in-I32.is w.ints-is w.longs-is)
            (ap (λ v. v.items) w.code-is ∙ w.in_ok-push-in-I32.ensures.items ∙ ap (λ n. c.loop-ty.code.items ++ LocalGet n ∷ []) w.local.ensures);
        ints = omega arith;
        longs = omega arith;
      })
  | in-I64+in_ok-push-in-I64 w ↦ (
      let ts = c.args.types.now in
      let k = c.loop-ty.ty-index in
      let counts = from_long ts k I32 c.loop-ty-test.true w.in-I64.is in
      record {
        so_far = on_next _ _ _ _ _ _ _ c.loop-ty.invariant.so_far
            (next_get_long c.args.pool.now c.loop-ty.ints c.loop-ty.longs c.match-ty.ints c.match-ty.longs ts k I32 c.loop-ty-test.true w.in-I64.is w.ints-is w.longs-is)
            (ap (λ v. v.items) w.code-is ∙ w.in_ok-push-in-I64.ensures.items ∙ ap (λ n. c.loop-ty.code.items ++ LocalGet n ∷ []) w.local-in-I64.ensures);
        ints = omega arith;
        longs = omega arith;
      })
]
