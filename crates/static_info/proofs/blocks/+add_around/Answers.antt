use Rattle.std.proofs.Common.{◌≡◌, ◌++◌, ◌/◌, List, ◌∙◌, sym, ap, ap₂, length, take, w32, subst₂, arith}
use Rattle.std.proofs.lemmas.List.{take-append-drop}
use Rattle.std.proofs.lemmas.Int.{to_z-of_z}
use Rattle.std.proofs.lemmas.Result.{on_ok_weaker}
use Rattle.branch_resolve.specs.declared.Block.{Block}
use Rattle.static_info.specs.Read.{within_block}
use Rattle.static_info.specs.Halves.{AreSpansOf}
use Rattle.static_info.proofs.Halved.{HalvesApart, halves_apart, some_spans, whole_over, left_out, only_around, took_none, took_one, took_few, took_both}
use Rattle.static_info.proofs.blocks.+add_around.Goals as goal

pub overflow_sub-last : goal.overflow_sub-last
overflow_sub-last t c = omega (arith, some_spans c.args.blocks.now c.args.spans.now c.requires.spans c.requires.some)

pub bounds-spans-last : goal.bounds-spans-last
bounds-spans-last t c = omega (arith, some_spans c.args.blocks.now c.args.spans.now c.requires.spans c.requires.some)

pub returns-then-not-contains : goal.returns-then-not-contains
returns-then-not-contains t c =
    let p = c.args.position in
    let over = whole_over c.args.blocks.now c.args.spans.now c.requires.spans c.requires.some _ in
    took_none c.args.most c.args.found.now.items (within_block p c.args.blocks.now) c.requires.room
    (left_out _ p _ c.args.blocks.now c.contains.result (to_z-of_z w32 p c.ranges.position) over c.contains.ensures c.if-not-contains.true)

pub returns-then-count-eq1 : goal.returns-then-count-eq1
returns-then-count-eq1 t c =
    let p = c.args.position in
    let found = c.args.found.now.items in
    let around = only_around c.args.blocks.now c.args.spans.now c.requires.spans c.if-count-eq1.true _ _ p _ c.contains.result (to_z-of_z w32 p c.ranges.position) c.contains.ensures c.if-not-contains.false in
    let room = c.requires.room in
    let len = c.len.ensures in
    let ok = c.args.found.now.ok.0 in
    c.in_ok-push.ensures.items ∙ took_one c.args.most found _ (omega arith) ∙ ap (λ bs. take c.args.most (found ++ bs)) (sym around)

pub split_at-requires-2 : goal.split_at-requires-2
split_at-requires-2 t c =
    let apart : HalvesApart c.args.blocks.now _ = halves_apart c.args.blocks.now c.args.spans.now c.requires.spans (omega arith) in
    apart.within

pub add_around-requires : goal.add_around-requires
add_around-requires t c =
    let apart : HalvesApart c.args.blocks.now _ = halves_apart c.args.blocks.now c.args.spans.now c.requires.spans (omega arith) in
    (omega arith, (omega arith, (subst₂ AreSpansOf (sym c.split_at.ensures.back) (sym c.split_at-2.ensures.back) apart.second, c.requires.room)))

pub add_around-requires-2 : goal.add_around-requires-2
add_around-requires-2 t c =
    let apart : HalvesApart c.args.blocks.now _ = halves_apart c.args.blocks.now c.args.spans.now c.requires.spans (omega arith) in
    let room = took_few c.args.most _ c.add_around.new.found.items c.in_ok-add_around.ensures in
    (omega arith, (omega arith, (subst₂ AreSpansOf (sym c.split_at.ensures.front) (sym c.split_at-2.ensures.front) apart.first, room)))

pub returns : goal.returns
returns t c =
    let p = c.args.position in
    let n = length c.args.blocks.now / 2 in
    let both : c.split_at.result.0.now ++ c.split_at.result.1.now ≡ c.args.blocks.now = ap₂ (λ (a b : List Block). a ++ b) c.split_at.ensures.front c.split_at.ensures.back ∙ take-append-drop n c.args.blocks.now in
    on_ok_weaker c.add_around-2.result
    (λ first. took_both c.args.most p _ c.args.found.now.items c.add_around.new.found.items c.add_around-2.new.found.items c.split_at.result.0.now c.split_at.result.1.now c.args.blocks.now (to_z-of_z w32 p c.ranges.position) c.in_ok-add_around.ensures first both)
    c.add_around-2.ensures
