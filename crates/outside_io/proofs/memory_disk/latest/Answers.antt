use Rattle.std.proofs.Common.{◌≡◌, ◌+◌, ◌-◌, ◌<◌, ℕ, length, take, Some, None, option_map, string_bytes, sym, ◌∙◌, ap, arith}
use Rattle.outside_io.specs.Log.{log_contents}
use Rattle.outside_io.proofs.Logged.{from_true, from_false, met_there, met_gone, passed}
use Rattle.outside_io.proofs.memory_disk.latest.Goals as goal

pub returns-in-Some : goal.returns-in-Some
returns-in-Some c =
    let i = c.loop-at.at - 1 in
    let within : c.loop-at.at - 1 < length c.args.log.now = omega (arith, c.loop-at-test.true, c.loop-at.invariant.within) in
    let e : c.loop-at.at ≡ c.loop-at.at - 1 + 1 = omega (arith, c.loop-at-test.true) in
    let here : string_bytes c.index-log-at.result.place ≡ c.args.place.now = sym c.as_str.ensures.value ∙ from_true _ _ c.if-eq.ensures in
    let has : option_map (λ b. b.items) c.index-log-at.result.has ≡ Some c.as_slice.result.now = grind (arith) in
    sym (c.loop-at.invariant.rest ∙ ap (λ (k : ℕ). log_contents (take k c.args.log.now) c.args.place.now) e
    ∙ met_there c.args.log.now i c.index-log-at.result c.args.place.now within (sym c.index-log-at.is) here ∙ has)

pub returns-in-None : goal.returns-in-None
returns-in-None c =
    let i = c.loop-at.at - 1 in
    let within : c.loop-at.at - 1 < length c.args.log.now = omega (arith, c.loop-at-test.true, c.loop-at.invariant.within) in
    let e : c.loop-at.at ≡ c.loop-at.at - 1 + 1 = omega (arith, c.loop-at-test.true) in
    let here : string_bytes c.index-log-at.result.place ≡ c.args.place.now = sym c.as_str.ensures.value ∙ from_true _ _ c.if-eq.ensures in
    let has : option_map (λ b. b.items) c.index-log-at.result.has ≡ None = grind (arith) in
    sym (c.loop-at.invariant.rest ∙ ap (λ (k : ℕ). log_contents (take k c.args.log.now) c.args.place.now) e
    ∙ met_there c.args.log.now i c.index-log-at.result c.args.place.now within (sym c.index-log-at.is) here ∙ has)

pub returns-then-eq-2 : goal.returns-then-eq-2
returns-then-eq-2 c =
    let i = c.loop-at.at - 1 in
    let within : c.loop-at.at - 1 < length c.args.log.now = omega (arith, c.loop-at-test.true, c.loop-at.invariant.within) in
    let e : c.loop-at.at ≡ c.loop-at.at - 1 + 1 = omega (arith, c.loop-at-test.true) in
    let gone : option_map (λ s. string_bytes s) c.index-log-at.result.gone ≡ Some c.args.place.now =
    let same : string_bytes c.in-Some-gone.gone ≡ c.args.place.now = sym c.as_str-in-Some-gone.ensures.value ∙ from_true _ _ c.if-eq-2.ensures in grind (arith) in
    sym (c.loop-at.invariant.rest ∙ ap (λ (k : ℕ). log_contents (take k c.args.log.now) c.args.place.now) e
    ∙ met_gone c.args.log.now i c.index-log-at.result c.args.place.now within (sym c.index-log-at.is) (λ same. from_false _ _ c.if-eq.ensures (c.as_str.ensures.value ∙ same)) gone)

pub loop-at-preserved-else-eq-2 : goal.loop-at-preserved-else-eq-2
loop-at-preserved-else-eq-2 c =
    let i = c.loop-at.at - 1 in
    let within : c.loop-at.at - 1 < length c.args.log.now = omega (arith, c.loop-at-test.true, c.loop-at.invariant.within) in
    let e : c.loop-at.at ≡ c.loop-at.at - 1 + 1 = omega (arith, c.loop-at-test.true) in
    let apart : string_bytes c.in-Some-gone.gone ≡ c.args.place.now → ⊥ = λ same. from_false _ _ c.if-eq-2.ensures (c.as_str-in-Some-gone.ensures.value ∙ same) in
    let kept : option_map (λ s. string_bytes s) c.index-log-at.result.gone ≡ Some c.args.place.now → ⊥ = grind (arith) in
    record {
      within = omega (arith, within);
      rest = c.loop-at.invariant.rest ∙ ap (λ (k : ℕ). log_contents (take k c.args.log.now) c.args.place.now) e
          ∙ passed c.args.log.now i c.index-log-at.result c.args.place.now within (sym c.index-log-at.is) (λ same. from_false _ _ c.if-eq.ensures (c.as_str.ensures.value ∙ same)) kept;
    }

pub loop-at-preserved : goal.loop-at-preserved
loop-at-preserved c =
    let i = c.loop-at.at - 1 in
    let within : c.loop-at.at - 1 < length c.args.log.now = omega (arith, c.loop-at-test.true, c.loop-at.invariant.within) in
    let e : c.loop-at.at ≡ c.loop-at.at - 1 + 1 = omega (arith, c.loop-at-test.true) in
    let kept : option_map (λ s. string_bytes s) c.index-log-at.result.gone ≡ Some c.args.place.now → ⊥ = grind (arith) in
    record {
      within = omega (arith, within);
      rest = c.loop-at.invariant.rest ∙ ap (λ (k : ℕ). log_contents (take k c.args.log.now) c.args.place.now) e
          ∙ passed c.args.log.now i c.index-log-at.result c.args.place.now within (sym c.index-log-at.is) (λ same. from_false _ _ c.if-eq.ensures (c.as_str.ensures.value ∙ same)) kept;
    }
