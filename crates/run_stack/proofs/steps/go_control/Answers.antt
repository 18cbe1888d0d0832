use Rattle.std.proofs.Common.{◌∙◌}
use Rattle.module_ast.specs.Structure.{code_of}
use Rattle.run_stack.proofs.Standing.{moved, moving, control_went}
use Rattle.run_stack.proofs.steps.go_control.Goals as goal

pub control-requires-clause-before : goal.control-requires-clause-before
control-requires-clause-before c =
    let b = c.requires.standing in
    let k = code_of c.args.rest.now in (
      b.2,
      b.3,
      moved c.args.stack.now b.0 b.1 b.2 b.3 b.4 b.5 b.7.standing k,
      b.5,
      b.6,
      moving c.args.stack.now b.0 b.1 b.2 b.3 b.4 b.5 b.7.standing c.args.instr.now k c.requires.kind (b.7.at ∙ c.requires.place) c.go_on.new.self (code_of c.args.place.now) c.requires.place c.go_on.ensures,
    )

pub returns-clause-advances : goal.returns-clause-advances
returns-clause-advances c m g inst e fr below types at =
    let k = code_of c.args.rest.now in
    control_went c.args.stack.now m g inst e fr below at.standing c.args.instr.now k c.requires.kind (at.at ∙ c.requires.place) c.control.new.stack
    (c.control.ensures.comes inst e (moved c.args.stack.now m g inst e fr below at.standing k) below types
    (moving c.args.stack.now m g inst e fr below at.standing c.args.instr.now k c.requires.kind (at.at ∙ c.requires.place) c.go_on.new.self (code_of c.args.place.now) c.requires.place c.go_on.ensures))
