use Rattle.module_ast.specs.Structure.{code_of}
use Rattle.run_stack.proofs.Standing.{straight_before, straight_some, straight_went, straight_trapped}
use Rattle.run_stack.proofs.steps.go_straight.Goals as goal

pub straight-requires-clause-before : goal.straight-requires-clause-before
straight-requires-clause-before c =
    let b = c.requires.standing in
    straight_before c.args.stack.now c.args.memory.now c.args.globals.now b.0 b.1 b.2 b.3 b.4.standing c.args.instr.now (code_of c.args.rest.now) c.requires.kind b.4.at

pub go_on-requires : goal.go_on-requires
go_on-requires c =
    let b = c.requires.standing in
    straight_some c.args.stack.now c.args.memory.now c.args.globals.now b.0 b.1 b.2 b.3 b.4.standing c.args.instr.now (code_of c.args.rest.now) c.requires.kind b.4.at
    c.straight.new.stack c.straight.new.memory c.straight.new.globals c.in_ok-straight.field-0 c.in-None.is c.in_ok-straight.ensures.ok

pub returns-in-None-clause-advances : goal.returns-in-None-clause-advances
returns-in-None-clause-advances c inst e fr below at =
    straight_went c.args.stack.now c.args.memory.now c.args.globals.now inst e fr below at.standing c.args.instr.now (code_of c.args.rest.now) c.requires.kind at.at
    c.straight.new.stack c.go_on.new.self c.straight.new.memory c.straight.new.globals c.in_ok-straight.field-0 c.in-None.is c.in_ok-straight.ensures.ok c.go_on.ensures

pub returns-in-Some-clause-advances : goal.returns-in-Some-clause-advances
returns-in-Some-clause-advances c inst e fr below at =
    straight_trapped c.args.stack.now c.args.memory.now c.args.globals.now inst e fr below at.standing c.args.instr.now (code_of c.args.rest.now) c.requires.kind at.at
    c.straight.new.stack c.straight.new.memory c.straight.new.globals c.in_ok-straight.field-0 c.in-Some.trap c.in-Some.is c.in_ok-straight.ensures.ok
