use Rattle.std.proofs.Common.{◌≡◌, ℕ, ◌+◌, ◌<◌, ◌≤◌, List, ◌++◌, length, ap, sym, ◌∙◌, subst, arith}
use Rattle.module_ast.specs.Binary.{module_bytes}
use Rattle.module_ast.specs.Validation.Limits.{longest_narrow_file}
use Rattle.wasm_encode.specs.Outline.{front_bytes}
use Rattle.instrument.specs.Output.{output_bytes}
use Rattle.instrument.specs.Plan.{HookPlan, new_outline}
use Rattle.instrument.proofs.PlannedBytes.{planned_total, planned_output, planned_back, rest_short}
use Rattle.instrument.proofs.plan.HookPlan.put_all.Goals as goal

pub overflow_add-length : goal.overflow_add-length
overflow_add-length g c =
    let p = c.args.self.now in
    let o = c.outline-outline.result in
    let sizes = c.args.sizes.now in
    let is : o ≡ new_outline p = c.outline-outline.ensures p (c.module.ensures.module ∙ ap (λ (p : HookPlan). p.module) c.self.view_is) c.requires.parts in
    let short : length (module_bytes p.module) ≤ longest_narrow_file = subst (λ (p : HookPlan). length (module_bytes p.module) ≤ longest_narrow_file) c.self.view_is c.self.invariant.short in
    let back = planned_back p o sizes.each.items sizes.together is c.requires.each c.requires.together in
    let rest = rest_short p.module o (length sizes.each.items) sizes.together c.rest_length-rest.result (omega (arith, sizes.each.ok, sizes.each.small)) c.requires.bound back short c.rest_length-rest.ensures in
    omega (arith, rest, c.len.ensures, c.put_front.new.out.ok, c.put_front.new.out.small)

pub returns-then-length-max-clause-large : goal.returns-then-length-max-clause-large
returns-then-length-max-clause-large g c =
    let p = c.args.self.now in
    let o = c.outline-outline.result in
    let sizes = c.args.sizes.now in
    let is : o ≡ new_outline p = c.outline-outline.ensures p (c.module.ensures.module ∙ ap (λ (p : HookPlan). p.module) c.self.view_is) c.requires.parts in
    let front : c.put_front.new.out.items ≡ front_bytes o = c.in_ok-put_front.ensures ∙ ap (λ (l : List ℕ). l ++ front_bytes o) c.requires.none in
    let total : c.len.result + c.rest_length-rest.result ≡ length (output_bytes p.module p.hooks) =
    planned_total p o sizes.each.items sizes.together is c.requires.each c.requires.together c.len.result c.rest_length-rest.result
    (c.len.ensures ∙ c.put_front.new.out.ok.0 ∙ ap length front) c.rest_length-rest.ensures in
    λ n e.
    let same : c.len.result + c.rest_length-rest.result ≡ n = cc in
    (sym same ∙ total, subst (λ (n : ℕ). c.args.max < n) same c.if-length-max.true)

pub returns-clause-ok : goal.returns-clause-ok
returns-clause-ok g c =
    let p = c.args.self.now in
    let o = c.outline-outline.result in
    let sizes = c.args.sizes.now in
    let is : o ≡ new_outline p = c.outline-outline.ensures p (c.module.ensures.module ∙ ap (λ (p : HookPlan). p.module) c.self.view_is) c.requires.parts in
    planned_output p o sizes.each.items sizes.together is c.requires.each c.requires.together
    c.len-2.result c.args.out.now.items c.put_front.new.out.items c.reserve_exact.new.self.items c.put_code_head.new.out.items c.put_entries.new.out.items c.put_back.new.out.items
    c.requires.none c.in_ok-put_front.ensures c.reserve_exact.ensures.items (c.len-2.ensures ∙ sizes.each.ok.0) c.in_ok-put_code_head.ensures
    c.in_ok-put_entries.ensures c.in_ok-put_back.ensures
