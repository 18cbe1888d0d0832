use Rattle.std.proofs.Common.{◌≡◌, ap, sym, subst, ◌∙◌}
use Rattle.module_ast.specs.Binary.{tree_of, IsWithin}
use Rattle.std.proofs.lemmas.Result.{IfOk-weaker}
use Rattle.wasm_decode.proofs.Settling.{few_in, settled}
use Rattle.wasm_decode.proofs.settle.settle.Goals as goal

pub returns-in-Some-clause-float : goal.returns-in-Some-clause-float
returns-in-Some-clause-float c = λ n e g d.
    let r = c.in-Some.ensures c.args.limits.now.nesting g d in
    let k : n ≡ c.in-Some.section = cc in
    (r.0, r.1, k ∙ r.2)

pub within-requires : goal.within-requires
within-requires c =
    let r = c.requires.drafted in
    record { few = rw c.into_module-kept.ensures (few_in c.args.limits.now.nesting c.args.draft r.0 r.1 (c.in_default.ensures c.args.limits.now.nesting r.0 r.1).bodies) }

pub returns-clause-ok : goal.returns-clause-ok
returns-clause-ok c = IfOk-weaker c.within.result _ _ (λ m h g d.
    let s = settled c.args.limits.now.nesting c.args.draft g d (c.in_default.ensures c.args.limits.now.nesting g d) in
    let t = h s.module_of (c.into_module-kept.ensures ∙ s.draft) (c.deep-deep.ensures ∙ s.deep) in
    (ap tree_of t.0 ∙ s.tree, subst (λ x. IsWithin c.args.limits.now x) (sym t.0) t.1)) c.within.ensures.ok

pub returns-clause-float : goal.returns-clause-float
returns-clause-float c = λ n e g d. absurd (c.within.ensures.float n e)

pub returns-clause-limit : goal.returns-clause-limit
returns-clause-limit c = λ w v e g d.
    let s = settled c.args.limits.now.nesting c.args.draft g d (c.in_default.ensures c.args.limits.now.nesting g d) in
    (s.module_of, s.tree, c.within.ensures.limit w v e s.module_of (c.into_module-kept.ensures ∙ s.draft) (c.deep-deep.ensures ∙ s.deep))
