use Rattle.std.proofs.Common.{◌≡◌, ◌+◌, ◌++◌, ◌∙◌, ap, sym, arith, length, get_or, drop, replicate, append_assoc, length-append}
use Rattle.wasm_num.specs.declared.ValType.TheVariants.{I32}
use Rattle.wasm_sem.specs.Types.{Group}
use Rattle.module_ast.specs.Validation.{declared_locals}
use Rattle.wasm_sem.specs.Execution.{zeros}
use Rattle.run_stack.proofs.Zeros.{zeros_group, locals_group, count_group}
use Rattle.run_stack.proofs.stack.push_zeros.Goals as goal

pub loop-group-preserved : goal.loop-group-preserved
loop-group-preserved c =
    let i = c.loop-group.group-index in
    let gs = c.args.groups.now in
    let none : Group = record { count = 0; ty = I32 } in
    let g = get_or gs i none in
    let before = c.loop-group.values.items in
    let more = c.push_zeros_of.ensures.items in
    let size : length c.push_zeros_of.new.values.items ≡ length before + g.count = ap length more ∙ length-append before (zeros (replicate g.count g.ty)) ∙ ap (λ n. length before + n) (count_group g.count g.ty) in
    record {
      told = (
          ap (λ vs. vs ++ zeros (declared_locals (drop (i + 1) gs))) more
          ∙ append_assoc before (zeros (replicate g.count g.ty)) (zeros (declared_locals (drop (i + 1) gs)))
          ∙ ap (λ vs. before ++ vs) (sym (zeros_group gs i none c.loop-group-test.true))
          ∙ c.loop-group.invariant.told
          );
      room = omega (arith, size, locals_group gs i none c.loop-group-test.true, c.loop-group.invariant.room, c.push_zeros_of.ensures.capacity);
      capacity = omega (arith, c.loop-group.invariant.capacity, c.push_zeros_of.ensures.capacity);
    }
