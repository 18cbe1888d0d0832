use Rattle.std.proofs.Common.{[], ◌∷◌}
use Rattle.module_ast.specs.Structure.{local_get, i64_const, num}
use Rattle.wasm_num.specs.declared.NumOp.TheVariants.{I32WrapI64, I64ShrU}
use Rattle.std.specs.Prelude.{pos}
use Rattle.i64_split.specs.Pushing.{instrs}
use Rattle.i64_split.proofs.Adding.{adds_both}
use Rattle.i64_split.proofs.words.push_value.Goals as goal

pub returns-in_ok-push_three-in-I64-clause-prefix : goal.returns-in_ok-push_three-in-I64-clause-prefix
returns-in_ok-push_three-in-I64-clause-prefix c =
    let x = c.args.local in
    rw c.in-I64.is
    (adds_both c.args.code.now.items c.push_three.new.code.items c.push_three-in-I64.new.code.items (instrs (local_get x ∷ num I32WrapI64 ∷ local_get x ∷ [])) (instrs (i64_const (pos 32) ∷ num I64ShrU ∷ num I32WrapI64 ∷ []))
    c.push_three-in-I64.result c.in_ok-push_three-in-I64.ensures.added c.push_three-in-I64.ensures.added c.push_three-in-I64.ensures.kept)
