use Rattle.std.proofs.Common.{◌≡◌, ◌++◌, ◌/◌, List, ◌∙◌, ap₂, length, subst, arith}
use Rattle.std.proofs.lemmas.List.{take-append-drop}
use Rattle.branch_resolve.specs.declared.Block.{Block}
use Rattle.static_info.specs.Halves.{IsSpanOver, AddSpansOf}
use Rattle.static_info.proofs.Halved.{one_noted, over_two, spans_joined}
use Rattle.static_info.proofs.blocks.+add_spans.Goals as goal

pub returns-then-count-eq1-clause-noted : goal.returns-then-count-eq1-clause-noted
returns-then-count-eq1-clause-noted t c = one_noted c.args.blocks.now c.args.spans.now.items c.push.new.self.items _ c.of-span.result c.if-count-eq1.true c.of-span.ensures c.in_ok-push.ensures.items

pub returns-clause-over : goal.returns-clause-over
returns-clause-over t c =
    let u = c.with-span.ensures in
    let n = length c.args.blocks.now / 2 in
    let both : c.split_at.result.0.now ++ c.split_at.result.1.now ≡ c.args.blocks.now = ap₂ (λ (a b : List Block). a ++ b) c.split_at.ensures.front c.split_at.ensures.back ∙ take-append-drop n c.args.blocks.now in
    subst (IsSpanOver c.with-span.result) both
    (over_two c.in_ok-first_span.first_span c.in_ok-second_span.second_span c.with-span.result c.split_at.result.0.now c.split_at.result.1.now
    c.in_ok-first_span.ensures.over c.in_ok-second_span.ensures.over u.begin.0 u.begin.1 u.end.0 u.end.1)

pub returns-clause-noted : goal.returns-clause-noted
returns-clause-noted t c =
    let bs = c.args.blocks.now in
    spans_joined bs c.args.spans.now.items c.add_spans.new.spans.items c.add_spans-2.new.spans.items c.push-2.new.self.items c.with-span.result
    (subst (λ (l : List Block). AddSpansOf l c.args.spans.now.items c.add_spans.new.spans.items) c.split_at.ensures.front c.in_ok-first_span.ensures.noted)
    (subst (λ (l : List Block). AddSpansOf l c.add_spans.new.spans.items c.add_spans-2.new.spans.items) c.split_at.ensures.back c.in_ok-second_span.ensures.noted)
    (omega arith) (returns-clause-over t c) c.in_ok-push-2.ensures.items
