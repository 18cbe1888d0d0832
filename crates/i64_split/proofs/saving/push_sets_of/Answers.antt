use Rattle.std.proofs.Common.{◌≡◌, ◌+◌, ◌-◌, ◌<◌, List, [], ◌∷◌, ◌++◌, length, take, take_all, arith, ap, subst, sym, ◌∙◌}
use Rattle.wasm_num.specs.declared.ValType.{ValType}
use Rattle.wasm_num.specs.declared.ValType.TheVariants.{I32}
use Rattle.module_ast.specs.declared.code.Instr.TheVariants.{LocalSet}
use Rattle.i64_split.specs.Split.{temps_from, sets, ints_in, longs_in}
use Rattle.i64_split.specs.Pushing.{instrs}
use Rattle.i64_split.proofs.Adding.{IsOn, on_start, on_next}
use Rattle.i64_split.proofs.Saved.{next_set_int, next_set_long}
use Rattle.i64_split.proofs.Temporaries.{counts_of_both, up_to_int, up_to_long}
use Rattle.i64_split.proofs.saving.push_sets_of.Goals as goal

pub overflow_sub-longs : goal.overflow_sub-longs
overflow_sub-longs c = omega (arith, counts_of_both c.args.types.now)

pub overflow_cast-longs : goal.overflow_cast-longs
overflow_cast-longs c = omega (arith, counts_of_both c.args.types.now)

pub loop-left-init : goal.loop-left-init
loop-left-init c =
    let ts = c.args.types.now in
    let old = c.args.code.now.items in
    let all = take_all (length ts) ts (omega arith) in
    let whole = λ (l : List ValType). instrs (sets (temps_from c.args.pool.now c.args.skip 0 l)) in
    record {
      within = omega arith;
      few_ints = omega arith;
      few_longs = omega (arith, counts_of_both ts);
      ints = omega (arith, ap ints_in all);
      longs = omega (arith, ap longs_in all, counts_of_both ts);
      so_far = subst (λ l. IsOn old old (whole l) (whole ts)) (sym all) (on_start old (whole ts));
    }

pub overflow_sub-ints : goal.overflow_sub-ints
overflow_sub-ints c =
    let back = up_to_int c.args.types.now (c.loop-left.left - 1) c.loop-left.left I32 (omega arith) (omega arith) c.in-I32.is in
    omega arith

pub loop-left-preserved-in-Continue-1 : goal.loop-left-preserved-in-Continue-1
loop-left-preserved-in-Continue-1 c =
    let one : c.loop-left.left ≡ (c.loop-left.left - 1) + 1 = omega arith in
    let inside : c.loop-left.left - 1 < length c.args.types.now = omega arith in
    let back = up_to_int c.args.types.now (c.loop-left.left - 1) c.loop-left.left I32 one inside c.in-I32.is in
    let ints : c.loop-left.ints - 1 ≡ c.args.skip + ints_in (take (c.loop-left.left - 1) c.args.types.now) = omega arith in
    record {
      within = omega arith;
      few_ints = omega arith;
      few_longs = omega arith;
      ints = ints;
      longs = omega arith;
      so_far = on_next _ _ _ _ _ _ _ c.loop-left.invariant.so_far
          (next_set_int c.args.pool.now c.args.skip (c.loop-left.ints - 1) c.args.types.now (c.loop-left.left - 1) c.loop-left.left I32 one inside c.in-I32.is ints)
          (c.in_ok-push-in-I32.ensures.items ∙ ap (λ n. c.loop-left.code.items ++ LocalSet n ∷ []) c.local.ensures);
    }

pub overflow_sub-longs-in-I64 : goal.overflow_sub-longs-in-I64
overflow_sub-longs-in-I64 c =
    let back = up_to_long c.args.types.now (c.loop-left.left - 1) c.loop-left.left I32 (omega arith) (omega arith) c.in-I64.is in
    omega arith

pub local-requires-in-I64 : goal.local-requires-in-I64
local-requires-in-I64 c =
    let back = up_to_long c.args.types.now (c.loop-left.left - 1) c.loop-left.left I32 (omega arith) (omega arith) c.in-I64.is in
    omega arith

pub loop-left-preserved : goal.loop-left-preserved
loop-left-preserved c =
    let one : c.loop-left.left ≡ (c.loop-left.left - 1) + 1 = omega arith in
    let inside : c.loop-left.left - 1 < length c.args.types.now = omega arith in
    let back = up_to_long c.args.types.now (c.loop-left.left - 1) c.loop-left.left I32 one inside c.in-I64.is in
    let longs : c.loop-left.longs - 1 ≡ 0 + longs_in (take (c.loop-left.left - 1) c.args.types.now) = omega arith in
    record {
      within = omega arith;
      few_ints = omega arith;
      few_longs = omega arith;
      ints = omega arith;
      longs = omega arith;
      so_far = on_next _ _ _ _ _ _ _ c.loop-left.invariant.so_far
          (next_set_long c.args.pool.now c.args.skip (c.loop-left.longs - 1) c.args.types.now (c.loop-left.left - 1) c.loop-left.left I32 one inside c.in-I64.is longs)
          (c.in_ok-push-in-I64.ensures.items ∙ ap (λ n. c.loop-left.code.items ++ LocalSet n ∷ []) c.local-in-I64.ensures);
    }
