use Rattle.std.proofs.Common.{length, ap, ◌∙◌, arith, rules}
use Rattle.std.proofs.lemmas.List.{nil_from_length}
use Rattle.code_decode.specs.Locals.{AreLocals}
use Rattle.code_decode.proofs.Bodies.{no_locals, no_expr, no_end, body_some}
use Rattle.wasm_decode.specs.Makes.{body_by}
use Rattle.wasm_decode.proofs.Fronts.{expr_front, front_shorter}
use Rattle.wasm_decode.proofs.bodies.read_body.Goals as goal

pub returns-in_err-groups-clause-malformed : goal.returns-in_err-groups-clause-malformed
returns-in_err-groups-clause-malformed c = λ e.
    no_locals _ (rw c.new-cursor.ensures.left at (c.in_err-groups.ensures.malformed (search rules)))

pub read_expr-requires-clause-bytes : goal.read_expr-requires-clause-bytes
read_expr-requires-clause-bytes c =
    omega (arith, ap length c.new-cursor.ensures.left, front_shorter AreLocals _ _ _ c.in_ok-groups.ensures.ok.1)

pub returns-in_err-code-clause-malformed : goal.returns-in_err-code-clause-malformed
returns-in_err-code-clause-malformed c = λ e.
    let l = rw c.new-cursor.ensures.left at c.in_ok-groups.ensures.ok in
    no_expr _ _ l.0 l.1 (c.in_err-code.ensures.malformed (search rules))

pub returns-then-left-ne0-clause-malformed : goal.returns-then-left-ne0-clause-malformed
returns-then-left-ne0-clause-malformed c = λ e.
    let l = rw c.new-cursor.ensures.left at c.in_ok-groups.ensures.ok in
    let t = expr_front c.args.nesting _ _ _ c.in_ok-code.ensures.ok in
    no_end _ _ _ l.0 t.0 l.1 t.1 (λ h. c.if-left-ne0.true (c.left.ensures ∙ ap length h))

pub returns-clause-ok : goal.returns-clause-ok
returns-clause-ok c =
    let l = rw c.new-cursor.ensures.left at c.in_ok-groups.ensures.ok in
    let t = expr_front c.args.nesting _ _ _ c.in_ok-code.ensures.ok in
    let n = nil_from_length c.read_expr.new.cursor.left (omega (arith, c.left.ensures, c.if-left-ne0.false)) in
    (body_by l.0 t.0, body_some _ _ _ l.0 t.0 l.1 t.1 n, c.in_ok-body.ensures c.args.nesting l.0 t.0 l.2 t.2)
