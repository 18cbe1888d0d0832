use Rattle.std.proofs.Common.{◌∙◌, ◌<◌, ◌∷◌, [], ◌++◌, ap, sym, length, arith}
use Rattle.shadow_replay.specs.declared.marked.Marked.{Marked}
use Rattle.shadow_replay.proofs.ShadowHosts.{marked_next}
use Rattle.shadow_replay.proofs.marks.marked_values.Goals as goal

pub loop-place-preserved : goal.loop-place-preserved
loop-place-preserved c =
    let vs = c.args.values.now in
    let i = c.loop-place.place in
    let v = c.in-Some.value in
    let local : Marked = record { value = v; mark = c.args.mark } in
    let within : i < length vs = omega (arith, c.loop-place-test.true, c.loop-place.auto.place-end, c.len-place-end.ensures) in
    c.in_ok-push.ensures.items ∙ (ap (λ ms. ms ++ local ∷ []) c.loop-place.invariant ∙ sym (marked_next c.args.mark vs i v within (sym c.get.ensures ∙ c.in-Some.is)))
