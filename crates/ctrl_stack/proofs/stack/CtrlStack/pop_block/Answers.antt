use Rattle.std.proofs.Common.{◌≡◌, ◌-◌, ◌++◌, ◌∷◌, Some, length, take, sym, ap, subst, ◌∙◌}
use Rattle.std.specs.Prelude.{reverse, option_to_list, slice_get}
use Rattle.std.specs.Option.{option_copied}
use Rattle.ctrl_stack.specs.declared.frame.Frame.{Frame}
use Rattle.ctrl_stack.specs.Stack.{Stack, without_block}
use Rattle.ctrl_stack.proofs.Answered.{PopsAll, ok_from, differs, same_number, innermost_is, closed_none, closed_view}
use Rattle.ctrl_stack.proofs.stack.CtrlStack.pop_block.Goals as goal

pub returns-then-ne-clause-mismatch : goal.returns-then-ne-clause-mismatch
returns-then-ne-clause-mismatch c =
    let s = c.args.self.now in
    let fs = c.self.inside.frames.items in
    let f = c.in_ok-frame.frame.now in
    let last : slice_get fs (length fs - 1) ≡ Some f =
    ap (λ gs. slice_get gs (length gs - 1)) (sym c.deref.ensures.value) ∙ sym c.last.ensures.value ∙ ap option_copied c.in_ok-frame.ensures.ok_part in
    let first : s.frames ≡ f ∷ reverse (take (length fs - 1) fs) = ap (λ (z : Stack). z.frames) (sym c.self.view_is) ∙ innermost_is fs f last in
    (tt, closed_none s f (reverse (take (length fs - 1) fs)) c.pop_all.result first (subst (λ ts. PopsAll s ts c.pop_all.result) c.as_slice.ensures c.pop_all.ensures) (differs c.pop_all.result f.base c.if-ne.ensures))

pub returns-clause-ok : goal.returns-clause-ok
returns-clause-ok c =
    let s = c.args.self.now in
    let fs = c.self.inside.frames.items in
    let f = c.in_ok-frame.frame.now in
    let last : slice_get fs (length fs - 1) ≡ Some f =
    ap (λ gs. slice_get gs (length gs - 1)) (sym c.deref.ensures.value) ∙ sym c.last.ensures.value ∙ ap option_copied c.in_ok-frame.ensures.ok_part in
    ok_from (λ (g : Frame). without_block s ≡ Some (g, record { frames = reverse c.pop.new.self.items; operands = reverse c.truncate.new.self.items })) c.pop.result c.ok_or-2.result c.ok_or-2.ensures.value
    (λ g e. closed_view s f g fs c.pop.new.self.items (reverse (take (length fs - 1) fs)) c.self.inside.operands.items c.truncate.new.self.items c.pop_all.result c.self.view_is (innermost_is fs f last)
    (c.pop.ensures.items ∙ ap (λ o. c.pop.new.self.items ++ option_to_list o) e) c.truncate.ensures.items (subst (λ ts. PopsAll s ts c.pop_all.result) c.as_slice.ensures c.pop_all.ensures) (same_number c.pop_all.result f.base c.if-ne.ensures))
