use Rattle.std.proofs.Common.{◌≡◌, ◌+◌, ◌++◌, ◌∷◌, [], length, length-append, arith}
use Rattle.module_ast.specs.Binary.{vec_bytes, group_bytes, code_bytes, expr_bytes}
use Rattle.i64_split.specs.Split.{pool_groups}
use Rattle.rewrite.specs.Setting.{Setting}
use Rattle.rewrite.specs.Rewrite.{rewritten_code}
use Rattle.rewrite.specs.Sizes.{size_of}
use Rattle.rewrite.proofs.BodyMost.{body_most}
use Rattle.rewrite.proofs.setting.Setting.rewritten_length.Goals as goal

-- the bytes of the body are those of its locals and of its code, and one
parts : (w : Setting) → length (vec_bytes group_bytes (w.site.body.groups ++ pool_groups w.pool)) + length (code_bytes (rewritten_code w w.site.body.code)) + 1 ≡ size_of w
parts w =
    let code = rewritten_code w w.site.body.code in
    omega (arith, length-append (vec_bytes group_bytes (w.site.body.groups ++ pool_groups w.pool)) (expr_bytes code), length-append (code_bytes code) (0x0B ∷ []))

pub overflow_add-result : goal.overflow_add-result
overflow_add-result c =
    let w = c.args.self.now in
    record { fits = omega (arith, c.in_ok-locals.ensures.length, c.in_ok-code.ensures, parts w, body_most w c.requires.ready c.requires.narrow c.requires.short, c.requires.short) }

pub overflow_add-result-2 : goal.overflow_add-result-2
overflow_add-result-2 c =
    let w = c.args.self.now in
    record { fits = omega (arith, c.in_ok-locals.ensures.length, c.in_ok-code.ensures, parts w, body_most w c.requires.ready c.requires.narrow c.requires.short, c.requires.short) }

pub returns-clause-length : goal.returns-clause-length
returns-clause-length c =
    let w = c.args.self.now in
    omega (arith, c.in_ok-locals.ensures.length, c.in_ok-code.ensures, parts w, body_most w c.requires.ready c.requires.narrow c.requires.short, c.requires.short)

pub returns-clause-bound : goal.returns-clause-bound
returns-clause-bound c =
    let w = c.args.self.now in
    omega (arith, c.in_ok-locals.ensures.length, c.in_ok-code.ensures, parts w, body_most w c.requires.ready c.requires.narrow c.requires.short, c.requires.short)
