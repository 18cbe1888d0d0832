use Rattle.std.proofs.Common.{◌≡◌, ◌-◌, Option, sym, ap, ◌∙◌, arith, length, drop}
use Rattle.std.specs.Prelude.{reverse, option_map}
use Rattle.std.proofs.lemmas.List.{length-reverse}
use Rattle.ctrl_stack.specs.Stack.{Stack, base_of, dead_of, lowest_operands, pop_at_base}
use Rattle.wasm_num.specs.declared.ValType.{ValType}
use Rattle.ctrl_stack.proofs.Pops.{pop-lowered, pop-lowered_base, with_operands}
use Rattle.ctrl_stack.proofs.stack.CtrlStack.pop_from.Goals as goal

pub returns-in_err-ty : goal.returns-in_err-ty
returns-in_err-ty c =
    let base : base_of c.args.self.now.frames ≡ c.innermost-base.result.0 =
    ap (λ (s : Stack). base_of s.frames) (sym c.self.view_is) ∙ ap (λ fs. base_of (reverse fs)) (sym c.deref.ensures.value) ∙ sym c.innermost-base.ensures.base in
    let size = ap length (ap (λ (s : Stack). s.operands) c.self.view_is) in
    rw c.from_residual.ensures
    (pop-lowered c.args.self.now c.self.inside.operands.items c.args.height c.index.result.now c.args.expected
    (ap (λ (s : Stack). s.operands) (sym c.self.view_is)) (omega (arith, base)) (omega (arith, size, length-reverse c.self.inside.operands.items)) c.requires c.index.ensures
    ∙ ap (option_map (λ (y : Option ValType). (y, lowest_operands (c.args.height - 1) c.args.self.now))) (sym c.meet.ensures ∙ c.in_err-ty.was))

pub returns-in_ok-ty : goal.returns-in_ok-ty
returns-in_ok-ty c =
    let base : base_of c.args.self.now.frames ≡ c.innermost-base.result.0 =
    ap (λ (s : Stack). base_of s.frames) (sym c.self.view_is) ∙ ap (λ fs. base_of (reverse fs)) (sym c.deref.ensures.value) ∙ sym c.innermost-base.ensures.base in
    let size = ap length (ap (λ (s : Stack). s.operands) c.self.view_is) in (
      omega arith,
      pop-lowered c.args.self.now c.self.inside.operands.items c.args.height c.index.result.now c.args.expected
          (ap (λ (s : Stack). s.operands) (sym c.self.view_is)) (omega (arith, base)) (omega (arith, size, length-reverse c.self.inside.operands.items)) c.requires c.index.ensures
          ∙ ap (option_map (λ (y : Option ValType). (y, lowest_operands (c.args.height - 1) c.args.self.now))) (sym c.meet.ensures ∙ c.in_ok-ty.was),
    )

pub returns-then-dead : goal.returns-then-dead
returns-then-dead c =
    let base : base_of c.args.self.now.frames ≡ c.innermost-base.result.0 =
    ap (λ (s : Stack). base_of s.frames) (sym c.self.view_is) ∙ ap (λ fs. base_of (reverse fs)) (sym c.deref.ensures.value) ∙ sym c.innermost-base.ensures.base in
    let dead : dead_of c.args.self.now.frames ≡ c.innermost-base.result.1 =
    ap (λ (s : Stack). dead_of s.frames) (sym c.self.view_is) ∙ ap (λ fs. dead_of (reverse fs)) (sym c.deref.ensures.value) ∙ sym c.innermost-base.ensures.dead in (
      omega arith,
      pop-lowered_base c.args.self.now c.args.height c.args.expected (omega (arith, base)) c.requires
          ∙ ap (λ b. with_operands c.args.self.now (pop_at_base b c.args.expected (drop (length c.args.self.now.operands - c.args.height) c.args.self.now.operands))) (dead ∙ c.if-dead.true),
    )

pub returns-else-dead : goal.returns-else-dead
returns-else-dead c =
    let base : base_of c.args.self.now.frames ≡ c.innermost-base.result.0 =
    ap (λ (s : Stack). base_of s.frames) (sym c.self.view_is) ∙ ap (λ fs. base_of (reverse fs)) (sym c.deref.ensures.value) ∙ sym c.innermost-base.ensures.base in
    let dead : dead_of c.args.self.now.frames ≡ c.innermost-base.result.1 =
    ap (λ (s : Stack). dead_of s.frames) (sym c.self.view_is) ∙ ap (λ fs. dead_of (reverse fs)) (sym c.deref.ensures.value) ∙ sym c.innermost-base.ensures.dead in
    pop-lowered_base c.args.self.now c.args.height c.args.expected (omega (arith, base)) c.requires
    ∙ ap (λ b. with_operands c.args.self.now (pop_at_base b c.args.expected (drop (length c.args.self.now.operands - c.args.height) c.args.self.now.operands))) (dead ∙ c.if-dead.false)
