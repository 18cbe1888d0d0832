-- An output that is too long is so with its names.
use Rattle.std.proofs.Common.{subst, arith}
use Rattle.wasabi_app.specs.Making.{named_length}
use Rattle.wasabi_app.specs.Texts.{too_large_text}
use Rattle.app_load.specs.Outcomes.{IsRefusal}
use Rattle.wasabi_app.proofs.Hooking.{names_lengthen, unhooked_large, unhooked_no_memory}
use Rattle.wasabi_app.proofs.making.too_large.Goals as goal

pub returns-in-Ok : goal.returns-in-Ok
returns-in-Ok g c =
    let m = c.args.subject.now.module.now in
    let names = c.args.subject.now.names.now in
    unhooked_large c.args.subject.now.name.now m (named_length m c.args.hooks.now names) c.args.bound c.refused.result c.requires.free
    (omega (arith, c.requires.over, c.requires.is, names_lengthen m c.args.hooks.now names))
    (subst (λ n. IsRefusal 9 (too_large_text n) c.refused.result) c.in-Ok.ensures (c.refused.ensures (too_large_text c.in-Ok.whole) c.too_large_line.ensures))

pub returns-in-Err : goal.returns-in-Err
returns-in-Err g c =
    unhooked_no_memory c.args.subject.now.name.now c.args.subject.now.module.now (named_length c.args.subject.now.module.now c.args.hooks.now c.args.subject.now.names.now) c.args.bound
