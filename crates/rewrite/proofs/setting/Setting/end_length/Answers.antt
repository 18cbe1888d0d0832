use Rattle.std.proofs.Common.{◌≡◌, ◌∙◌, ◌+◌, ◌∷◌, [], length, ap, sym, subst, arith, rules, SFits}
use Rattle.std.specs.Int.{w32, cast_signed}
use Rattle.std.proofs.lemmas.Int.{to_z-of_z}
use Rattle.module_ast.specs.Lists.{when}
use Rattle.module_ast.specs.Binary.{plain_bytes}
use Rattle.module_ast.specs.Structure.{i32_const, call}
use Rattle.hook_mono.specs.declared.HookKey.TheVariants as keys
use Rattle.rewrite.specs.Setting.{Setting, constant, hook_index}
use Rattle.rewrite.specs.Sizes.{plains_length}
use Rattle.rewrite.proofs.setting.Setting.end_length.Goals as goal

pub returns-clause-length : goal.returns-clause-length
returns-clause-length c =
    let w = c.args.self.now in
    let b = c.args.block in
    let last = call (hook_index w (keys.End b.kind)) in
    let told = constant w.site.func ∷ i32_const b.end ∷ i32_const b.begin ∷ last ∷ [] in
    let n = c.const_length.result + c.const_length-2.result + c.const_length-3.result + c.call_length-call.result in
    let fits : SFits w32 c.cast_signed.result = search rules in
    let func = to_z-of_z w32 c.cast_signed.result fits ∙ c.cast_signed.ensures ∙ ap (cast_signed w32) (c.func.ensures ∙ ap (λ (x : Setting). x.site.func) c.self.view_is) in
    let ends : SFits w32 b.end = search rules in
    let begins : SFits w32 b.begin = search rules in
    let whole : n ≡ plains_length told =
    omega (
      arith,
      c.const_length.ensures.length,
      ap (λ z. length (plain_bytes (i32_const z))) func,
      c.const_length-2.ensures.length,
      ap (λ z. length (plain_bytes (i32_const z))) (to_z-of_z w32 b.end ends),
      c.const_length-3.ensures.length,
      ap (λ z. length (plain_bytes (i32_const z))) (to_z-of_z w32 b.begin begins),
      c.call_length-call.ensures.length,
      ap (λ i. length (plain_bytes (call i))) c.hook_index.ensures,
    ) in
    subst (λ v. n ≡ plains_length (when v told)) (sym c.if-not-has.false ∙ c.has.ensures) whole
