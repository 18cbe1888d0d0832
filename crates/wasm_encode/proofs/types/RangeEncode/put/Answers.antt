-- A minimum, and a maximum where there is one, behind the byte that says whether there is.
use Rattle.std.proofs.Common.{◌≡◌, ℕ, ◌∷◌, ◌++◌, None, Some, refl, ap, sym, ◌∙◌}
use Rattle.std.proofs.lemmas.Result.{on_ok_weaker}
use Rattle.leb_binary.specs.Shortest.{unsigned_bytes}
use Rattle.module_ast.specs.declared.module.Range.{Range}
use Rattle.module_ast.specs.Binary.{limits_bytes}
use Rattle.wasm_encode.proofs.Adding.{added_two, added_three}
use Rattle.wasm_encode.proofs.types.RangeEncode.put.Goals as goal

least : (r : Range) → r.max ≡ None → limits_bytes r ≡ 0x00 ∷ unsigned_bytes r.min
least r h = rw h refl

most : (r : Range) (max : ℕ) → r.max ≡ Some max → limits_bytes r ≡ 0x01 ∷ (unsigned_bytes r.min ++ unsigned_bytes max)
most r max h = rw h refl

pub returns-in_ok-push-in-None : goal.returns-in_ok-push-in-None
returns-in_ok-push-in-None c =
    let r = c.args.self.now in
    let old = c.args.out.now.items in
    let mid = c.push.new.self.items in
    let new = c.put_u32.new.out.items in
    on_ok_weaker c.put_u32.result (λ (e : new ≡ mid ++ unsigned_bytes r.min).
    added_two old mid new 0x00 (unsigned_bytes r.min) c.in_ok-push-in-None.ensures.items e ∙ ap (λ l. old ++ l) (sym (least r c.in-None.is))) c.put_u32.ensures.ok

pub returns-in_ok-put_u32-in-Some : goal.returns-in_ok-put_u32-in-Some
returns-in_ok-put_u32-in-Some c =
    let r = c.args.self.now in
    let max = c.in-Some.max in
    let old = c.args.out.now.items in
    let mid = c.push-in-Some.new.self.items in
    let two = c.put_u32-in-Some.new.out.items in
    let new = c.put_u32-in-Some-2.new.out.items in
    on_ok_weaker c.put_u32-in-Some-2.result (λ (e : new ≡ two ++ unsigned_bytes max).
    added_three old mid two new 0x01 (unsigned_bytes r.min) (unsigned_bytes max) c.in_ok-push-in-Some.ensures.items c.in_ok-put_u32-in-Some.ensures.ok e
    ∙ ap (λ l. old ++ l) (sym (most r max c.in-Some.is))) c.put_u32-in-Some-2.ensures.ok
