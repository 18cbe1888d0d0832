use Rattle.std.proofs.Common.{◌≡◌, inl, inr, length, refl, ap, subst, arith, rules}
use Rattle.module_ast.specs.Binary.{AreItems, IsSection, module_of, function_section, code_section, tree_of}
use Rattle.std.proofs.lemmas.Result.{IfOk-weaker}
use Rattle.module_ast.proofs.Wholes.{read_whole}
use Rattle.wasm_decode.proofs.Headers.{fails_in_section, has_sections, is_module}
use Rattle.wasm_decode.proofs.decode.Goals as goal

pub returns-in_default-clause-malformed : goal.returns-in_default-clause-malformed
returns-in_default-clause-malformed c = λ n e. let k : n ≡ 256 = cc in inl (c.in_default.ensures.is, k)

pub read_sections-requires-clause-fits : goal.read_sections-requires-clause-fits
read_sections-requires-clause-fits c = rw c.new-cursor.ensures.left c.in-Some.ensures.bytes

pub read_sections-requires-clause-bytes : goal.read_sections-requires-clause-bytes
read_sections-requires-clause-bytes c =
    omega (arith, ap length c.new-cursor.ensures.left, ap length c.in-Some.ensures.is, c.requires.short)

pub returns-in_err-draft-clause-malformed : goal.returns-in_err-draft-clause-malformed
returns-in_err-draft-clause-malformed c = λ n e.
    let h = rw c.new-cursor.ensures.left at c.in_err-draft.ensures.malformed in
    inr (inl (fails_in_section _ _ n c.in-Some.ensures.is (h n (search rules))))

pub returns-in_err-draft-clause-float : goal.returns-in_err-draft-clause-float
returns-in_err-draft-clause-float c = λ n e. absurd (c.in_err-draft.ensures.float n (search rules))

pub returns-in_err-draft-clause-limit : goal.returns-in_err-draft-clause-limit
returns-in_err-draft-clause-limit c = λ w v e. absurd (c.in_err-draft.ensures.limit w v (search rules))

pub returns-then-draft-clause-malformed : goal.returns-then-draft-clause-malformed
returns-then-draft-clause-malformed c = λ n e.
    let r = c.in_ok-draft.ensures.ok in
    let k : n ≡ 257 = cc in
    inr (inr (r.0, has_sections _ _ r.0 c.in-Some.ensures.is (subst (λ l. AreItems IsSection l r.0) c.new-cursor.ensures.left r.1) r.2, (λ b. omega (arith, b, (r.3 function_section).1, (r.3 code_section).0.1)), k))

pub settle-requires : goal.settle-requires
settle-requires c = let r = c.in_ok-draft.ensures.ok in record { drafted = (module_of r.0, r.3) }

pub returns-clause-ok : goal.returns-clause-ok
returns-clause-ok c =
    let r = c.in_ok-draft.ensures.ok in
    IfOk-weaker c.settle.result _ _ (λ m h.
    let t = h (module_of r.0) r.3 in
    (is_module _ r.0 (tree_of m) (has_sections _ _ r.0 c.in-Some.ensures.is (subst (λ l. AreItems IsSection l r.0) c.new-cursor.ensures.left r.1) r.2) t.0 (omega (arith, (r.3 function_section).1, (r.3 code_section).0.1)), t.1)) c.settle.ensures.ok

pub returns-clause-whole : goal.returns-clause-whole
returns-clause-whole c =
    IfOk-weaker c.settle.result _ _ (λ m ok. read_whole c.args.limits.now c.args.bytes.now m c.requires.short c.requires.nesting ok.0 ok.1) (returns-clause-ok c)

pub returns-clause-malformed : goal.returns-clause-malformed
returns-clause-malformed c = λ n e. absurd (c.settle.ensures.malformed n e)

pub returns-clause-float : goal.returns-clause-float
returns-clause-float c = λ n e.
    let r = c.in_ok-draft.ensures.ok in
    let t = c.settle.ensures.float n e (module_of r.0) r.3 in
    (module_of r.0, t.0, is_module _ r.0 (module_of r.0) (has_sections _ _ r.0 c.in-Some.ensures.is (subst (λ l. AreItems IsSection l r.0) c.new-cursor.ensures.left r.1) r.2) refl (omega (arith, (r.3 function_section).1, (r.3 code_section).0.1)), t.1, t.2)

pub returns-clause-limit : goal.returns-clause-limit
returns-clause-limit c = λ w v e.
    let r = c.in_ok-draft.ensures.ok in
    let t = c.settle.ensures.limit w v e (module_of r.0) r.3 in
    (t.0, is_module _ r.0 (tree_of t.0) (has_sections _ _ r.0 c.in-Some.ensures.is (subst (λ l. AreItems IsSection l r.0) c.new-cursor.ensures.left r.1) r.2) t.1 (omega (arith, (r.3 function_section).1, (r.3 code_section).0.1)), t.2)
