use Rattle.std.proofs.Common.{◌≡◌, ◌<◌, ◌++◌, ◌∷◌, [], List, Some, false, length, take, map, sym, ap, subst, ◌∙◌, arith}
use Rattle.std.specs.Prelude.{reverse}
use Rattle.std.proofs.lemmas.List.{reverse-append, length-reverse}
use Rattle.std.proofs.lemmas.Bool.{eqb-false}
use Rattle.std.proofs.lemmas.Grind.{common_steps}
use Rattle.wasm_num.specs.declared.ValType.{ValType}
use Rattle.ctrl_stack.specs.declared.frame.Frame.{Frame}
use Rattle.ctrl_stack.specs.Stack.{Stack, AreBasesOrdered}
use Rattle.ctrl_stack.proofs.Answered.{PopsAll, pops_all_some, opened_nested, opened_view, with_block_some}
use Rattle.ctrl_stack.proofs.stack.CtrlStack.push_block.Goals as goal

pub invariant_of-self-2 : goal.invariant_of-self-2
invariant_of-self-2 c =
    let s = c.args.self.now in
    let a : List ValType = c.args.starts in
    let fs = c.self.inside.frames.items in
    let items = c.self.inside.operands.items in
    let new = c.put_above.new.operands.items in
    let frame : Frame = record { kind = c.args.kind; starts = c.args.starts; results = c.args.results; base = c.in_ok-base.base; dead = false } in
    let found : PopsAll s a c.pop_all.result = subst (λ ts. PopsAll s ts c.pop_all.result) c.as_slice.ensures c.pop_all.ensures in
    let got = pops_all_some s a c.pop_all.result c.in_ok-base.base c.in_ok-base.ensures.ok_part found in
    let put : new ≡ take c.in_ok-base.base items ++ map Some a = c.in_ok-put_above.ensures.ok ∙ ap (λ ts. take c.in_ok-base.base items ++ map Some ts) c.as_slice-2.ensures in
    let frames : reverse c.push.new.self.items ≡ frame ∷ reverse fs =
    ap reverse (c.in_ok-push.ensures.items ∙ ap (λ xs. xs ++ frame ∷ []) c.reserve.ensures.items) ∙ reverse-append fs (frame ∷ []) in
    subst (λ gs. AreBasesOrdered gs (length new)) (sym frames) (opened_nested c.args.kind a c.args.results c.in_ok-base.base s fs items new c.self.view_is got.0 got.1 put c.self.invariant)

pub returns-clause-ok : goal.returns-clause-ok
returns-clause-ok c =
    let s = c.args.self.now in
    let a : List ValType = c.args.starts in
    let fs = c.self.inside.frames.items in
    let items = c.self.inside.operands.items in
    let new = c.put_above.new.operands.items in
    let frame : Frame = record { kind = c.args.kind; starts = c.args.starts; results = c.args.results; base = c.in_ok-base.base; dead = false } in
    let found : PopsAll s a c.pop_all.result = subst (λ ts. PopsAll s ts c.pop_all.result) c.as_slice.ensures c.pop_all.ensures in
    let got = pops_all_some s a c.pop_all.result c.in_ok-base.base c.in_ok-base.ensures.ok_part found in
    let put : new ≡ take c.in_ok-base.base items ++ map Some a = c.in_ok-put_above.ensures.ok ∙ ap (λ ts. take c.in_ok-base.base items ++ map Some ts) c.as_slice-2.ensures in
    let frames : reverse c.push.new.self.items ≡ frame ∷ reverse fs =
    ap reverse (c.in_ok-push.ensures.items ∙ ap (λ xs. xs ++ frame ∷ []) c.reserve.ensures.items) ∙ reverse-append fs (frame ∷ []) in
    let some : 0 < length s.frames = omega (arith, eqb-false c.self.inside.frames.len 0 (sym c.is_empty.ensures ∙ c.if-is_empty.false), ap (λ (z : Stack). length z.frames) c.self.view_is, length-reverse fs) in
    with_block_some c.args.kind a c.args.results s c.in_ok-base.base some got.1
    ∙ ap (λ z. Some z) (opened_view c.args.kind a c.args.results c.in_ok-base.base s fs items new c.self.view_is got.0 got.1 put)
    ∙ ap (λ gs. Some (record { frames = gs; operands = reverse new })) (sym frames)

pub returns-then-is_empty-clause-fault : goal.returns-then-is_empty-clause-fault
returns-then-is_empty-clause-fault c = grind (arith, common_steps)

pub put_above-requires : goal.put_above-requires
put_above-requires c = grind (arith, common_steps)
