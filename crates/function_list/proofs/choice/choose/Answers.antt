use Rattle.std.proofs.Common.{◌≡◌, ◌∙◌, ◌++◌, Bor, List, ℕ, Bool, true, false, Option, Some, None, is_none, is_some, not, length, take, drop, option_map, ap, refl, subst, sym}
use Rattle.function_list.specs.Choices.{is_listed, listed}
use Rattle.function_list.specs.Marks.{Marks}
use Rattle.function_list.proofs.Marking.{bodies_long, chosen_flags, written}
use Rattle.function_list.proofs.choice.choose.Goals as goal

pub mark_listed-requires : goal.mark_listed-requires
mark_listed-requires c = ap length c.as_mut_slice.ensures.value ∙ bodies_long c.args.m.now c.is_none.result c.in_ok-flags.flags.items c.in_ok-flags.ensures

pub mark_listed-requires-2 : goal.mark_listed-requires-2
mark_listed-requires-2 c =
    let long = bodies_long c.args.m.now c.is_none.result c.in_ok-flags.flags.items c.in_ok-flags.ensures in
    let value = ap length c.as_mut_slice.ensures.value in
    let back = written c.in_ok-flags.flags.len c.mark_listed.new.flags c.in_ok-flags.flags.items c.in_ok-flags.flags.ok.0 (c.mark_listed.ensures.long ∙ value) in
    ap length (c.as_mut_slice-2.ensures.value ∙ back) ∙ c.mark_listed.ensures.long ∙ value ∙ long

none_of : (o : Option (Bor (List ℕ))) (r : Bool) → is_some o ≡ not r → r ≡ is_none (option_map (λ (t : Bor (List ℕ)). t.now) o)
none_of None true e = refl
none_of None false e = cc
none_of (Some t) true e = cc
none_of (Some t) false e = refl

pub returns : goal.returns
returns c =
    let m = c.args.m.now in
    let all = c.in_ok-flags.flags.items in
    let first = c.mark_listed.new.flags in
    let second = c.mark_listed-2.new.flags in
    let n = c.in_ok-flags.flags.len in
    let value = c.as_mut_slice.ensures.value in
    let long_first : length first ≡ length all = c.mark_listed.ensures.long ∙ ap length value in
    let back : take n (first ++ drop (length first) all) ≡ first = written n first all c.in_ok-flags.flags.ok.0 long_first in
    let middle = c.as_mut_slice-2.ensures.value ∙ back in
    let long_second : length second ≡ length first = c.mark_listed-2.ensures.long ∙ ap length middle in
    let left = subst (λ (l : List Bool). Marks m (is_listed m c.args.names.now (listed (option_map (λ (t : Bor (List ℕ)). t.now) c.args.functions))) true l first) value c.mark_listed.ensures in
    let right = subst (λ (l : List Bool). Marks m (is_listed m c.args.names.now (listed (option_map (λ (t : Bor (List ℕ)). t.now) c.args.except))) false l second) middle c.mark_listed-2.ensures in
    ap (λ (l : List Bool). take n (second ++ drop (length second) l)) back ∙ written n second first (c.in_ok-flags.flags.ok.0 ∙ sym long_first) long_second
    ∙ chosen_flags m c.args.names.now (option_map (λ (t : Bor (List ℕ)). t.now) c.args.functions) (option_map (λ (t : Bor (List ℕ)). t.now) c.args.except) c.is_none.result all first second (none_of c.args.functions c.is_none.result c.is_none.ensures) c.in_ok-flags.ensures left right
