use Rattle.std.proofs.Common.{[], arith}
use Rattle.std.proofs.lemmas.List.{nil_from_length}
use Rattle.code_decode.proofs.Faults.{passed_on}
use Rattle.code_decode.proofs.State.{scan_start, scan_deep, scan_plain, scan_float, scan_opens, scan_within, scan_else, scan_else_stops, scan_top_else, scan_stops, scan_ends, scan_answer}
use Rattle.code_decode.proofs.expr.read_expr.Goals as goal

pub loop-scan-init : goal.loop-scan-init
loop-scan-init c =
    let n = c.new-scan.ensures in
    rw (n.stack, n.items, n.floats, n.nesting) (scan_start c.args.bound c.args.cursor.now.left)

pub returns-in_err-token-clause-malformed : goal.returns-in_err-token-clause-malformed
returns-in_err-token-clause-malformed c = λ e.
    scan_stops _ _ _ [] _ _ _ _ c.loop-scan.invariant (c.in_err-token.ensures.malformed (passed_on _ _ _ c.from_residual.ensures.1 e))

pub loop-scan-preserved-in_ok-push-in-Plain : goal.loop-scan-preserved-in_ok-push-in-Plain
loop-scan-preserved-in_ok-push-in-Plain c =
    rw c.in_ok-push-in-Plain.ensures.items (scan_plain _ _ _ _ _ _ _ _ c.loop-scan.invariant c.in-Plain.instr (rw c.in-Plain.is at c.in_ok-token.ensures.ok))

pub loop-scan-preserved-in-Float : goal.loop-scan-preserved-in-Float
loop-scan-preserved-in-Float c = scan_float _ _ _ _ _ _ _ _ c.loop-scan.invariant (rw c.in-Float.is at c.in_ok-token.ensures.ok)

pub loop-scan-preserved-in_ok-open-in-Opens : goal.loop-scan-preserved-in_ok-open-in-Opens
loop-scan-preserved-in_ok-open-in-Opens c =
    scan_opens _ _ _ _ _ _ c.in-Opens.kind c.in-Opens.floating c.in_ok-open-in-Opens.ensures (rw c.in-Opens.is at c.in_ok-token.ensures.ok) c.loop-scan.invariant

pub returns-in_default-clause-malformed : goal.returns-in_default-clause-malformed
returns-in_default-clause-malformed c = λ e.
    let n = nil_from_length c.loop-scan.scan.stack.items (omega (arith, c.in_default.ensures.cases.0, c.loop-scan.scan.stack.ok.0)) in
    scan_top_else _ _ _ _ _ _ _ _ c.loop-scan.invariant n (rw c.in-Else.is at c.in_ok-token.ensures.ok)

pub turn-requires : goal.turn-requires
turn-requires c = scan_within _ _ _ [] _ _ _ _ c.loop-scan.invariant _ c.in-Some.frame c.in-Some.ensures.items

pub loop-scan-preserved-in_ok-turn-in-Else : goal.loop-scan-preserved-in_ok-turn-in-Else
loop-scan-preserved-in_ok-turn-in-Else c =
    scan_else _ _ _ _ _ _ c.in-Some.frame _ c.in-Some.ensures.items c.loop-scan.invariant c.in_ok-turn-in-Else.ensures.ok (rw c.in-Else.is at c.in_ok-token.ensures.ok)

pub returns-in_err-turn-in-Else-clause-malformed : goal.returns-in_err-turn-in-Else-clause-malformed
returns-in_err-turn-in-Else-clause-malformed c = λ e.
    let h = c.in_err-turn-in-Else.ensures.malformed (passed_on _ _ _ c.from_residual-in_err-turn-in-Else.ensures.1 e) in
    scan_else_stops _ _ _ _ _ _ _ _ c.loop-scan.invariant _ c.in-Some.frame c.in-Some.ensures.items h (rw c.in-Else.is at c.in_ok-token.ensures.ok)

pub answer-requires : goal.answer-requires
answer-requires c = omega (arith, scan_deep _ _ _ [] _ _ _ _ c.loop-scan.invariant, c.requires.bytes)

pub returns-in_default-pop-clause-ok : goal.returns-in_default-pop-clause-ok
returns-in_default-pop-clause-ok c =
    let n = nil_from_length c.loop-scan.scan.stack.items (omega (arith, c.in_default-pop.ensures.cases.0, c.loop-scan.scan.stack.ok.0)) in
    let a = c.in_ok-answer-in-End.ensures in
    scan_answer _ _ _ _ _ _ _ _ c.loop-scan.invariant n (rw c.in-End.is at c.in_ok-token.ensures.ok) _ a.floats a.deep a.built

pub end-requires : goal.end-requires
end-requires c = scan_within _ _ _ [] _ _ _ _ c.loop-scan.invariant _ c.in-Some-pop.frame c.in-Some-pop.ensures.items

pub loop-scan-preserved : goal.loop-scan-preserved
loop-scan-preserved c =
    scan_ends _ _ _ _ _ _ c.in-Some-pop.frame _ c.in-Some-pop.ensures.items c.loop-scan.invariant c.in_ok-end-in-End.ensures (rw c.in-End.is at c.in_ok-token.ensures.ok)
