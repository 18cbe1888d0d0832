use Rattle.std.proofs.Common.{◌≡◌, sym, subst, List, arith}
use Rattle.std.proofs.lemmas.Grind.{common_steps}
use Rattle.wasm_sem.specs.Types.{FuncType, Instr}
use Rattle.module_ast.specs.declared.code.Instr.TheVariants as instrs
use Rattle.module_ast.specs.Structure.{code_of}
use Rattle.wasm_sem.specs.Execution.{Instance, Env, Frame}
use Rattle.run_stack.specs.Flat.{Flat, CanBranch, BranchesOut}
use Rattle.run_stack.specs.Comes.{IsMoving, LiesNext, next_of}
use Rattle.run_stack.proofs.Blocks.{block_can, block_comes, loop_can, loop_comes, if_can, if_comes, past_comes, then_can, then_comes, else_can, else_comes}
use Rattle.run_stack.proofs.Controls.{br_can, br_comes, return_can, return_comes, br_if_can, br_if_comes, br_table_can, br_table_comes}
use Rattle.run_stack.proofs.control.control.Goals as goal

-- a proof for the instruction that was found
abbrev for_instr : (types : List FuncType) (s u : Flat) (p : List Instr) (i j : Instr) → i ≡ j
    → ((inst : Instance) (e : Env) (fr : Frame) (below : List Frame) → inst.types ≡ types → IsMoving s (code_of p) j inst e fr below → LiesNext inst e (next_of inst e fr below j) u)
    → (inst : Instance) (e : Env) (fr : Frame) (below : List Frame) → inst.types ≡ types → IsMoving s (code_of p) i inst e fr below → LiesNext inst e (next_of inst e fr below i) u
for_instr types s u p i j h f = subst (λ i. (inst : Instance) (e : Env) (fr : Frame) (below : List Frame) → inst.types ≡ types → IsMoving s (code_of p) i inst e fr below → LiesNext inst e (next_of inst e fr below i) u) (sym h) f

pub branch-stack-requires : goal.branch-stack-requires
branch-stack-requires c =
    let b = c.requires.before in
    br_can c.args.stack.now (code_of c.args.place.now) b.0 b.1 b.2 b.3 c.in-Br.label (subst (λ (i : Instr). IsMoving c.args.stack.now (code_of c.args.place.now) i b.0 b.1 b.2 b.3) c.in-Br.is b.5)

pub returns-in-Br-clause-comes : goal.returns-in-Br-clause-comes
returns-in-Br-clause-comes c =
    for_instr c.args.module.now.types c.args.stack.now c.branch-stack.new.self c.args.place.now c.args.instr.now (instrs.Br c.in-Br.label) c.in-Br.is
    (λ inst e fr below types m. br_comes c.args.stack.now (code_of c.args.place.now) inst e fr below c.in-Br.label m c.branch-stack.new.self c.branch-stack.ensures.branches)

pub branch-stack-requires-then-pop_i32-ne0-3 : goal.branch-stack-requires-then-pop_i32-ne0-3
branch-stack-requires-then-pop_i32-ne0-3 c =
    let b = c.requires.before in
    br_if_can c.args.stack.now (code_of c.args.place.now) b.0 b.1 b.2 b.3 c.in-BrIf.label c.pop_i32-in-BrIf.result c.pop_i32-in-BrIf.new.self c.if-pop_i32-ne0-3.true c.pop_i32-in-BrIf.ensures
    (subst (λ (i : Instr). IsMoving c.args.stack.now (code_of c.args.place.now) i b.0 b.1 b.2 b.3) c.in-BrIf.is b.5)

pub returns-then-pop_i32-ne0-3-clause-comes : goal.returns-then-pop_i32-ne0-3-clause-comes
returns-then-pop_i32-ne0-3-clause-comes c =
    for_instr c.args.module.now.types c.args.stack.now c.branch-stack-then-pop_i32-ne0-3.new.self c.args.place.now c.args.instr.now (instrs.BrIf c.in-BrIf.label) c.in-BrIf.is
    (λ inst e fr below types m. br_if_comes c.args.stack.now (code_of c.args.place.now) inst e fr below c.in-BrIf.label c.pop_i32-in-BrIf.result c.pop_i32-in-BrIf.new.self c.branch-stack-then-pop_i32-ne0-3.new.self
    c.if-pop_i32-ne0-3.true c.pop_i32-in-BrIf.ensures m c.branch-stack-then-pop_i32-ne0-3.ensures.branches)

pub branch-stack-requires-in-BrTable : goal.branch-stack-requires-in-BrTable
branch-stack-requires-in-BrTable c =
    let b = c.requires.before in
    subst (λ n. CanBranch n c.pop_i32-index.new.self) (sym c.label_at-label.ensures)
    (br_table_can c.args.stack.now (code_of c.args.place.now) b.0 b.1 b.2 b.3 c.in-BrTable.labels c.in-BrTable.default c.pop_i32-index.result c.pop_i32-index.new.self c.pop_i32-index.ensures
    (subst (λ (i : Instr). IsMoving c.args.stack.now (code_of c.args.place.now) i b.0 b.1 b.2 b.3) c.in-BrTable.is b.5))

pub returns-in-BrTable-clause-comes : goal.returns-in-BrTable-clause-comes
returns-in-BrTable-clause-comes c =
    for_instr c.args.module.now.types c.args.stack.now c.branch-stack-in-BrTable.new.self c.args.place.now c.args.instr.now (instrs.BrTable c.in-BrTable.labels c.in-BrTable.default) c.in-BrTable.is
    (λ inst e fr below types m. br_table_comes c.args.stack.now (code_of c.args.place.now) inst e fr below c.in-BrTable.labels c.in-BrTable.default c.pop_i32-index.result c.pop_i32-index.new.self c.branch-stack-in-BrTable.new.self
    c.pop_i32-index.ensures m (subst (λ n. BranchesOut n c.pop_i32-index.new.self c.branch-stack-in-BrTable.new.self) c.label_at-label.ensures c.branch-stack-in-BrTable.ensures.branches))

pub branch-stack-requires-in-Return : goal.branch-stack-requires-in-Return
branch-stack-requires-in-Return c =
    let b = c.requires.before in
    return_can c.args.stack.now (code_of c.args.place.now) b.0 b.1 b.2 b.3 c.labels_of_frame-outermost.result c.labels_of_frame-outermost.ensures
    (subst (λ (i : Instr). IsMoving c.args.stack.now (code_of c.args.place.now) i b.0 b.1 b.2 b.3) c.in-Return.is b.5)

pub returns-in-Return-clause-comes : goal.returns-in-Return-clause-comes
returns-in-Return-clause-comes c =
    for_instr c.args.module.now.types c.args.stack.now c.branch-stack-in-Return.new.self c.args.place.now c.args.instr.now instrs.Return c.in-Return.is
    (λ inst e fr below types m. return_comes c.args.stack.now (code_of c.args.place.now) inst e fr below c.labels_of_frame-outermost.result c.labels_of_frame-outermost.ensures m c.branch-stack-in-Return.new.self c.branch-stack-in-Return.ensures.branches)

pub enter_block-requires-clause-typed : goal.enter_block-requires-clause-typed
enter_block-requires-clause-typed c = let b = c.requires.before in (block_can c.args.stack.now (code_of c.args.place.now) b.0 b.1 b.2 b.3 c.args.module.now.types b.4 c.in-Block.ty c.in-Block.body (subst (λ (i : Instr). IsMoving c.args.stack.now (code_of c.args.place.now) i b.0 b.1 b.2 b.3) c.in-Block.is b.5)).0

pub enter_block-requires-clause-room : goal.enter_block-requires-clause-room
enter_block-requires-clause-room c = let b = c.requires.before in (block_can c.args.stack.now (code_of c.args.place.now) b.0 b.1 b.2 b.3 c.args.module.now.types b.4 c.in-Block.ty c.in-Block.body (subst (λ (i : Instr). IsMoving c.args.stack.now (code_of c.args.place.now) i b.0 b.1 b.2 b.3) c.in-Block.is b.5)).1

pub enter_loop-requires-clause-typed : goal.enter_loop-requires-clause-typed
enter_loop-requires-clause-typed c = let b = c.requires.before in (loop_can c.args.stack.now (code_of c.args.place.now) b.0 b.1 b.2 b.3 c.args.module.now.types b.4 c.in-Loop.ty c.in-Loop.body (subst (λ (i : Instr). IsMoving c.args.stack.now (code_of c.args.place.now) i b.0 b.1 b.2 b.3) c.in-Loop.is b.5)).0

pub enter_loop-requires-clause-room : goal.enter_loop-requires-clause-room
enter_loop-requires-clause-room c = let b = c.requires.before in (loop_can c.args.stack.now (code_of c.args.place.now) b.0 b.1 b.2 b.3 c.args.module.now.types b.4 c.in-Loop.ty c.in-Loop.body (subst (λ (i : Instr). IsMoving c.args.stack.now (code_of c.args.place.now) i b.0 b.1 b.2 b.3) c.in-Loop.is b.5)).1

pub enter_block-requires-then-pop_i32-ne0-clause-typed : goal.enter_block-requires-then-pop_i32-ne0-clause-typed
enter_block-requires-then-pop_i32-ne0-clause-typed c = let b = c.requires.before in (if_can c.args.stack.now (code_of c.args.place.now) b.0 b.1 b.2 b.3 c.args.module.now.types b.4 c.pop_i32.result c.pop_i32.new.self c.pop_i32.ensures c.in-If.ty c.in-If.body c.if-pop_i32-ne0.true (subst (λ (i : Instr). IsMoving c.args.stack.now (code_of c.args.place.now) i b.0 b.1 b.2 b.3) c.in-If.is b.5)).0

pub enter_block-requires-then-pop_i32-ne0-clause-room : goal.enter_block-requires-then-pop_i32-ne0-clause-room
enter_block-requires-then-pop_i32-ne0-clause-room c = let b = c.requires.before in (if_can c.args.stack.now (code_of c.args.place.now) b.0 b.1 b.2 b.3 c.args.module.now.types b.4 c.pop_i32.result c.pop_i32.new.self c.pop_i32.ensures c.in-If.ty c.in-If.body c.if-pop_i32-ne0.true (subst (λ (i : Instr). IsMoving c.args.stack.now (code_of c.args.place.now) i b.0 b.1 b.2 b.3) c.in-If.is b.5)).1

pub enter_block-requires-then-pop_i32-ne0-2-clause-typed : goal.enter_block-requires-then-pop_i32-ne0-2-clause-typed
enter_block-requires-then-pop_i32-ne0-2-clause-typed c = let b = c.requires.before in (then_can c.args.stack.now (code_of c.args.place.now) b.0 b.1 b.2 b.3 c.args.module.now.types b.4 c.pop_i32-in-IfElse.result c.pop_i32-in-IfElse.new.self c.pop_i32-in-IfElse.ensures c.in-IfElse.ty c.in-IfElse.body c.in-IfElse.other c.if-pop_i32-ne0-2.true (subst (λ (i : Instr). IsMoving c.args.stack.now (code_of c.args.place.now) i b.0 b.1 b.2 b.3) c.in-IfElse.is b.5)).0

pub enter_block-requires-then-pop_i32-ne0-2-clause-room : goal.enter_block-requires-then-pop_i32-ne0-2-clause-room
enter_block-requires-then-pop_i32-ne0-2-clause-room c = let b = c.requires.before in (then_can c.args.stack.now (code_of c.args.place.now) b.0 b.1 b.2 b.3 c.args.module.now.types b.4 c.pop_i32-in-IfElse.result c.pop_i32-in-IfElse.new.self c.pop_i32-in-IfElse.ensures c.in-IfElse.ty c.in-IfElse.body c.in-IfElse.other c.if-pop_i32-ne0-2.true (subst (λ (i : Instr). IsMoving c.args.stack.now (code_of c.args.place.now) i b.0 b.1 b.2 b.3) c.in-IfElse.is b.5)).1

pub enter_block-requires-else-pop_i32-ne0-2-clause-typed : goal.enter_block-requires-else-pop_i32-ne0-2-clause-typed
enter_block-requires-else-pop_i32-ne0-2-clause-typed c = let b = c.requires.before in (else_can c.args.stack.now (code_of c.args.place.now) b.0 b.1 b.2 b.3 c.args.module.now.types b.4 c.pop_i32-in-IfElse.result c.pop_i32-in-IfElse.new.self c.pop_i32-in-IfElse.ensures c.in-IfElse.ty c.in-IfElse.body c.in-IfElse.other c.if-pop_i32-ne0-2.false (subst (λ (i : Instr). IsMoving c.args.stack.now (code_of c.args.place.now) i b.0 b.1 b.2 b.3) c.in-IfElse.is b.5)).0

pub enter_block-requires-else-pop_i32-ne0-2-clause-room : goal.enter_block-requires-else-pop_i32-ne0-2-clause-room
enter_block-requires-else-pop_i32-ne0-2-clause-room c = let b = c.requires.before in (else_can c.args.stack.now (code_of c.args.place.now) b.0 b.1 b.2 b.3 c.args.module.now.types b.4 c.pop_i32-in-IfElse.result c.pop_i32-in-IfElse.new.self c.pop_i32-in-IfElse.ensures c.in-IfElse.ty c.in-IfElse.body c.in-IfElse.other c.if-pop_i32-ne0-2.false (subst (λ (i : Instr). IsMoving c.args.stack.now (code_of c.args.place.now) i b.0 b.1 b.2 b.3) c.in-IfElse.is b.5)).1

pub returns-in-Block-clause-comes : goal.returns-in-Block-clause-comes
returns-in-Block-clause-comes c =
    for_instr c.args.module.now.types c.args.stack.now c.enter_block.new.stack c.args.place.now c.args.instr.now (instrs.Block c.in-Block.ty c.in-Block.body) c.in-Block.is
    (λ inst e fr below types m. block_comes c.args.stack.now (code_of c.args.place.now) inst e fr below c.args.module.now.types types c.in-Block.ty c.in-Block.body m c.enter_block.new.stack c.enter_block.ensures.opens)

pub returns-in-Loop-clause-comes : goal.returns-in-Loop-clause-comes
returns-in-Loop-clause-comes c =
    for_instr c.args.module.now.types c.args.stack.now c.enter_loop.new.stack c.args.place.now c.args.instr.now (instrs.Loop c.in-Loop.ty c.in-Loop.body) c.in-Loop.is
    (λ inst e fr below types m. loop_comes c.args.stack.now (code_of c.args.place.now) inst e fr below c.args.module.now.types types c.in-Loop.ty c.in-Loop.body m c.enter_loop.new.stack c.enter_loop.ensures.opens)

pub returns-then-pop_i32-ne0-clause-comes : goal.returns-then-pop_i32-ne0-clause-comes
returns-then-pop_i32-ne0-clause-comes c =
    for_instr c.args.module.now.types c.args.stack.now c.enter_block-then-pop_i32-ne0.new.stack c.args.place.now c.args.instr.now (instrs.If c.in-If.ty c.in-If.body) c.in-If.is
    (λ inst e fr below types m. if_comes c.args.stack.now (code_of c.args.place.now) inst e fr below c.args.module.now.types types c.pop_i32.result c.pop_i32.new.self c.pop_i32.ensures c.in-If.ty c.in-If.body c.if-pop_i32-ne0.true m c.enter_block-then-pop_i32-ne0.new.stack c.enter_block-then-pop_i32-ne0.ensures.opens)

pub returns-else-pop_i32-ne0-clause-comes : goal.returns-else-pop_i32-ne0-clause-comes
returns-else-pop_i32-ne0-clause-comes c =
    for_instr c.args.module.now.types c.args.stack.now c.pop_i32.new.self c.args.place.now c.args.instr.now (instrs.If c.in-If.ty c.in-If.body) c.in-If.is
    (λ inst e fr below types m. past_comes c.args.stack.now (code_of c.args.place.now) inst e fr below c.args.module.now.types types c.pop_i32.result c.pop_i32.new.self c.pop_i32.ensures c.in-If.ty c.in-If.body c.if-pop_i32-ne0.false m)

pub returns-then-pop_i32-ne0-2-clause-comes : goal.returns-then-pop_i32-ne0-2-clause-comes
returns-then-pop_i32-ne0-2-clause-comes c =
    for_instr c.args.module.now.types c.args.stack.now c.enter_block-then-pop_i32-ne0-2.new.stack c.args.place.now c.args.instr.now (instrs.IfElse c.in-IfElse.ty c.in-IfElse.body c.in-IfElse.other) c.in-IfElse.is
    (λ inst e fr below types m. then_comes c.args.stack.now (code_of c.args.place.now) inst e fr below c.args.module.now.types types c.pop_i32-in-IfElse.result c.pop_i32-in-IfElse.new.self c.pop_i32-in-IfElse.ensures c.in-IfElse.ty c.in-IfElse.body c.in-IfElse.other c.if-pop_i32-ne0-2.true m c.enter_block-then-pop_i32-ne0-2.new.stack c.enter_block-then-pop_i32-ne0-2.ensures.opens)

pub returns-else-pop_i32-ne0-2-clause-comes : goal.returns-else-pop_i32-ne0-2-clause-comes
returns-else-pop_i32-ne0-2-clause-comes c =
    for_instr c.args.module.now.types c.args.stack.now c.enter_block-else-pop_i32-ne0-2.new.stack c.args.place.now c.args.instr.now (instrs.IfElse c.in-IfElse.ty c.in-IfElse.body c.in-IfElse.other) c.in-IfElse.is
    (λ inst e fr below types m. else_comes c.args.stack.now (code_of c.args.place.now) inst e fr below c.args.module.now.types types c.pop_i32-in-IfElse.result c.pop_i32-in-IfElse.new.self c.pop_i32-in-IfElse.ensures c.in-IfElse.ty c.in-IfElse.body c.in-IfElse.other c.if-pop_i32-ne0-2.false m c.enter_block-else-pop_i32-ne0-2.new.stack c.enter_block-else-pop_i32-ne0-2.ensures.opens)

pub labels_of_frame-outermost-requires-clause-own : goal.labels_of_frame-outermost-requires-clause-own
labels_of_frame-outermost-requires-clause-own c = grind (arith, common_steps)

pub overflow_sub-outermost : goal.overflow_sub-outermost
overflow_sub-outermost c = grind (arith, common_steps)
