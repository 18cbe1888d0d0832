use Rattle.std.proofs.Common.{◌≡◌, Some, length, sym, ap, subst, ◌∙◌, arith}
use Rattle.std.specs.Prelude.{reverse}
use Rattle.std.proofs.lemmas.Result.{err_from_is_err_and}
use Rattle.std.proofs.lemmas.List.{length-reverse}
use Rattle.ctrl_stack.specs.Stack.{Stack, AreBasesOrdered, pop, lowest_operands}
use Rattle.ctrl_stack.proofs.Pops.{IsNested, nested-pop}
use Rattle.ctrl_stack.proofs.Answered.{mismatch_from, lowered-all, cut_view, pops_none, pops_some}
use Rattle.ctrl_stack.proofs.stack.CtrlStack.pop.Goals as goal

pub returns-in_err-ty-clause-mismatch : goal.returns-in_err-ty-clause-mismatch
returns-in_err-ty-clause-mismatch c =
    let s = c.args.self.now in
    let p = err_from_is_err_and c.from_residual.result c.from_residual.ensures.1 in
    let q = mismatch_from c.pop_from.result c.in_err-ty.field-0.0 c.in_err-ty.ensures.value in
    let all : c.len.result ≡ length s.operands = omega (arith, ap (λ (z : Stack). length z.operands) c.self.view_is, length-reverse c.self.inside.operands.items) in
    rw (p.1, p.2) (q.0, ap (pop c.args.expected) (sym (lowered-all s c.len.result all)) ∙ pops_none s c.len.result c.args.expected c.pop_from.result q.1 c.pop_from.ensures)

pub invariant_of-self : goal.invariant_of-self
invariant_of-self c =
    let s = c.args.self.now in
    let frames = reverse c.self.inside.frames.items in
    let items = c.self.inside.operands.items in
    let new = c.truncate.new.self.items in
    let all : c.len.result ≡ length s.operands = omega (arith, ap (λ (z : Stack). length z.operands) c.self.view_is, length-reverse items) in
    let found = pops_some s c.len.result c.args.expected c.in_ok-ty.ty c.in_ok-ty.left c.pop_from.result c.in_ok-ty.ensures.ok_part c.pop_from.ensures in
    let whole : IsNested s = subst IsNested c.self.view_is (subst (AreBasesOrdered frames) (sym (length-reverse items)) c.self.invariant) in
    let at = nested-pop c.args.expected c.in_ok-ty.ty s (lowest_operands c.in_ok-ty.left s) (ap (pop c.args.expected) (sym (lowered-all s c.len.result all)) ∙ found.1) whole in
    subst (AreBasesOrdered frames) (length-reverse new) (subst IsNested (sym (cut_view s frames items new c.in_ok-ty.left c.self.view_is c.truncate.ensures.items)) at)

pub returns-clause-ok : goal.returns-clause-ok
returns-clause-ok c =
    let s = c.args.self.now in
    let all : c.len.result ≡ length s.operands = omega (arith, ap (λ (z : Stack). length z.operands) c.self.view_is, length-reverse c.self.inside.operands.items) in
    let found = pops_some s c.len.result c.args.expected c.in_ok-ty.ty c.in_ok-ty.left c.pop_from.result c.in_ok-ty.ensures.ok_part c.pop_from.ensures in
    ap (pop c.args.expected) (sym (lowered-all s c.len.result all)) ∙ found.1
    ∙ ap (λ z. Some (c.in_ok-ty.ty, z)) (sym (cut_view s (reverse c.self.inside.frames.items) c.self.inside.operands.items c.truncate.new.self.items c.in_ok-ty.left c.self.view_is c.truncate.ensures.items))
