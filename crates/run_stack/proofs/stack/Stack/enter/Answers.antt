use Rattle.std.proofs.Common.{◌∙◌, ap, sym, None}
use Rattle.wasm_sem.specs.Types.{Group}
use Rattle.module_ast.specs.Validation.{declared_locals}
use Rattle.std.specs.Prelude.{List, reverse, ◌++◌}
use Rattle.wasm_sem.specs.Execution.{zeros}
use Rattle.run_stack.specs.Flat.{opened}
use Rattle.run_stack.proofs.Zeros.{count_zeros}
use Rattle.run_stack.proofs.Stacks.{entered}
use Rattle.run_stack.proofs.stack.Stack.enter.Goals as goal

pub returns-clause-ok : goal.returns-clause-ok
returns-clause-ok c =
    let groups : List Group = c.args.body.now.groups in
    entered c.args.self.now c.make_room.new.self c.add_frame.new.self c.add_locals.new.self c.open.new.self c.args.params c.args.locals c.args.arity c.args.height c.args.nesting (zeros (declared_locals groups)) c.args.body.now.code
    c.make_room.ensures.same c.in_ok-make_room.ensures.values c.in_ok-make_room.ensures.spots c.add_frame.ensures
    (c.add_locals.ensures.values ∙ ap (λ gs. reverse (zeros (declared_locals gs)) ++ c.add_frame.new.self.values) c.as_slice.ensures)
    c.add_locals.ensures.spots c.add_locals.ensures.bases c.add_locals.ensures.value_room c.add_locals.ensures.spot_room
    (c.open.ensures ∙ ap (λ k. opened k None 0 c.args.arity c.add_locals.new.self) c.as_slice-2.ensures)
    (count_zeros groups ∙ sym c.requires.locals)
