use Rattle.std.proofs.Common.{◌≡◌, ◌∙◌, ◌++◌, ap, ap₂, sym, get_or, Some}
use Rattle.std.proofs.lemmas.Option.{slice_get-get_or}
use Rattle.module_ast.specs.Validation.{declared_locals}
use Rattle.module_ast.specs.Validation.Validity as rule
use Rattle.code_valid.proofs.Judged.{same_context, context_of}
use Rattle.code_valid.proofs.env.Env.of_body.Goals as goal

pub bounds-as_slice-index : goal.bounds-as_slice-index
bounds-as_slice-index c = rw (c.as_slice.ensures, c.as_slice-2.ensures) (c.requires.rules rule.function_types c.args.defined 0 c.requires.func)

pub returns : goal.returns
returns c =
    let m = c.args.m.now in
    let d = c.args.defined in
    let ty = get_or m.funcs d 0 in
    let t = c.index-as_slice-index.result in
    let b = c.index-as_slice-defined.result in
    let t_is : t ≡ get_or m.types ty t = c.index-as_slice-index.is ∙ ap₂ (λ xs n. get_or xs n t) c.as_slice-2.ensures (ap (λ z. get_or z d 0) c.as_slice.ensures) in
    let b_is : b ≡ get_or m.bodies d b = c.index-as_slice-defined.is ∙ ap (λ z. get_or z d b) c.as_slice-3.ensures in
    let within = c.requires.rules rule.function_types d 0 c.requires.func in
    context_of m d ty t b (slice_get-get_or m.funcs d 0 c.requires.func) (slice_get-get_or m.types ty t within ∙ ap (λ z. Some z) (sym t_is))
    (slice_get-get_or m.bodies d b c.requires.body ∙ ap (λ z. Some z) (sym b_is)) c.new-2.result
    (same_context m t b c.new-2.result c.in_ok-locals.locals c.as_slice-6.result.now c.new-2.ensures
    (c.in_ok-locals.ensures ∙ ap₂ (λ x y. x ++ declared_locals y) c.as_slice-4.ensures c.as_slice-5.ensures) c.as_slice-6.ensures)
