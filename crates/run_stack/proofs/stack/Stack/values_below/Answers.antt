use Rattle.std.proofs.Common.{◌≡◌, ◌∙◌, ◌+◌, ◌-◌, ◌<◌, ap, sym, subst, refl, List, ◌∷◌, [], ◌++◌, take, drop, length, arith, length-append}
use Rattle.std.specs.Prelude.{reverse}
use Rattle.std.proofs.lemmas.List.{length-reverse, take_more, reverse-append}
use Rattle.wasm_sem.specs.Types.{Value}
use Rattle.module_ast.specs.Validation.{push}
use Rattle.module_ast.proofs.Behind.{push_both}
use Rattle.run_stack.specs.Flat.{Flat}
use Rattle.ctrl_stack.proofs.Lists.{reverse-take}
use Rattle.run_stack.proofs.stack.Stack.values_below.Goals as goal

pub loop-place-preserved : goal.loop-place-preserved
loop-place-preserved c =
    let xs = c.self.inside.values.items in
    let p = c.loop-place.place in
    let v = c.index.result.now in
    let low = reverse (take (c.len.result - c.args.above - c.args.count) xs) in
    let more = c.in_ok-push.ensures.ok in
    let within : p < length xs = omega (arith, c.loop-place-test.true, c.len.ensures, c.self.inside.values.ok.0) in
    record {
      told = ap reverse (take_more xs p v within ∙ ap (λ (w : Value). take p xs ++ w ∷ []) (sym c.index.ensures)) ∙ reverse-append (take p xs) (v ∷ [])
          ∙ ap (λ (ys : List Value). v ∷ ys) c.loop-place.invariant.told ∙ sym (push_both c.loop-place.below (v ∷ []) low) ∙ ap (λ (vs : List Value). push vs low) (sym more);
      size = omega (arith, ap length more, length-append c.loop-place.below (v ∷ []), c.loop-place.invariant.size);
    }

pub returns : goal.returns
returns c =
    let xs = c.self.inside.values.items in
    let p = c.loop-place.place in
    let low = c.len.result - c.args.above - c.args.count in
    let view : reverse xs ≡ c.args.self.now.values = ap (λ (f : Flat). f.values) c.self.view_is in
    let size : length (reverse xs) ≡ c.len.result = omega (arith, length-reverse xs, c.len.ensures, c.self.inside.values.ok.0) in
    let there = c.requires in
    let count = ap length view in
    let above : c.args.above ≡ length (reverse xs) - p = omega (arith, c.loop-place-test.false, c.loop-place.auto.place-end, size, there, count) in
    let both : c.args.above + c.args.count ≡ length (reverse xs) - low = omega (arith, size, there, count) in
    record {
      ok = record {
        are = subst (λ (vs : List Value). drop c.args.above vs ≡ push c.loop-place.below (drop (c.args.above + c.args.count) vs)) view
            (ap (λ n. drop n (reverse xs)) above ∙ sym (reverse-take p xs) ∙ c.loop-place.invariant.told
            ∙ ap (push c.loop-place.below) (reverse-take low xs ∙ ap (λ n. drop n (reverse xs)) (sym both)));
        size = omega (arith, c.loop-place.invariant.size, c.loop-place-test.false, c.loop-place.auto.place-end, size, there, count);
      };
      succeeds = λ _. refl;
    }
