use Rattle.std.proofs.Common.{◌≡◌, arith, ap, ◌∙◌, length, subst}
use Rattle.std.proofs.lemmas.Grind.{common_steps}
use Rattle.std.proofs.lemmas.List.{nil_from_length}
use Rattle.module_ast.specs.Binary.{BodyExceeds}
use Rattle.code_decode.proofs.Bodies.{no_locals, no_expr, no_end, answer_tree, float_groups, float_code, body_deep}
use Rattle.code_decode.proofs.Faults.{malformed_part}
use Rattle.code_decode.proofs.body.decode_body.Goals as goal

pub returns-in_err-groups-clause-malformed : goal.returns-in_err-groups-clause-malformed
returns-in_err-groups-clause-malformed c = λ e.
    no_locals _ (rw c.new-cursor.ensures.left at (c.in_err-groups.ensures.malformed (malformed_part _ _ c.from_residual.ensures.1 e)))

pub returns-in_err-expr-clause-malformed : goal.returns-in_err-expr-clause-malformed
returns-in_err-expr-clause-malformed c = λ e.
    let l = rw c.new-cursor.ensures.left at c.in_ok-groups.ensures.ok in
    no_expr _ _ l.0 l.1 (c.in_err-expr.ensures.malformed (malformed_part _ _ c.from_residual-in_err-expr.ensures.1 e))

pub returns-then-left-ne0-clause-malformed : goal.returns-then-left-ne0-clause-malformed
returns-then-left-ne0-clause-malformed c = λ e.
    let l = rw c.new-cursor.ensures.left at c.in_ok-groups.ensures.ok in
    let t = answer_tree _ _ _ _ c.in_ok-expr.ensures.ok in
    no_end _ _ _ l.0 t.0 l.1 t.1 (λ h. c.if-left-ne0.true (c.left.ensures ∙ ap length h))

pub returns-in_default-clause-float : goal.returns-in_default-clause-float
returns-in_default-clause-float c = λ e.
    let l = rw (c.new-cursor.ensures.left, c.in_default.is) at c.in_ok-groups.ensures.ok in
    let t = answer_tree _ _ _ _ c.in_ok-expr.ensures.ok in
    let n = nil_from_length c.read_expr.new.cursor.left (omega (arith, c.left.ensures, c.if-left-ne0.false)) in
    float_groups _ _ _ l.0 l.1 n t.0 l.2 t.1

pub returns-in-Floats-clause-float : goal.returns-in-Floats-clause-float
returns-in-Floats-clause-float c = λ e.
    let l = rw c.new-cursor.ensures.left at c.in_ok-groups.ensures.ok in
    let t = rw c.in-Floats.is at c.in_ok-expr.ensures.ok in
    let n = nil_from_length c.read_expr.new.cursor.left (omega (arith, c.left.ensures, c.if-left-ne0.false)) in
    float_code _ _ _ l.0 l.1 n t.0 t.2 t.1

pub returns-in-Deep-clause-nesting : goal.returns-in-Deep-clause-nesting
returns-in-Deep-clause-nesting c = λ found e.
    let l = rw (c.new-cursor.ensures.left, c.in-Some.is) at c.in_ok-groups.ensures.ok in
    let t = rw c.in-Deep.is at c.in_ok-expr.ensures.ok in
    let n = nil_from_length c.read_expr.new.cursor.left (omega (arith, c.left.ensures, c.if-left-ne0.false)) in
    let g : c.in-Deep.found ≡ found = cc in
    subst (BodyExceeds c.args.nesting c.args.bytes.now) g (body_deep _ _ _ l.0 l.1 n _ t.0 _ _ l.2 t.1 t.2 t.3)

pub returns-in-Built-clause-ok : goal.returns-in-Built-clause-ok
returns-in-Built-clause-ok c = grind (arith, common_steps)
