-- The output without names, for all groups.
use Rattle.std.proofs.Common.{◌≤◌, subst}
use Rattle.std.proofs.lemmas.Result.{IfErr-weaker, IfOk-weaker, on_ok_weaker}
use Rattle.module_ast.specs.Validation.Limits.{longest_file}
use Rattle.wasabi_app.specs.Hooking.{GetsNone}
use Rattle.wasabi_app.specs.Modes.Trial.{all_hooks}
use Rattle.wasabi_app.proofs.Hooking.{bare_length, bare_made}
use Rattle.wasabi_app.proofs.making.hooked_for_all.Goals as goal

pub returns-clause-made : goal.returns-clause-made
returns-clause-made g c =
    let is = rw (c.everywhere.ensures, c.all.ensures, c.no_names-names.ensures) at c.hooked.ensures.made in
    IfOk-weaker c.hooked.result _ _ (λ made h. bare_made c.args.m.now all_hooks made.bytes.items made.info h) is

pub returns-clause-few : goal.returns-clause-few
returns-clause-few g c =
    let is = rw (c.everywhere.ensures, c.all.ensures, c.no_names-names.ensures, c.new-bound.ensures) at c.hooked.ensures.within in
    on_ok_weaker c.hooked.result (λ h. subst (λ n. n ≤ longest_file) (bare_length c.args.m.now all_hooks) h) is

pub returns-clause-refused : goal.returns-clause-refused
returns-clause-refused g c =
    let is = rw (c.everywhere.ensures, c.all.ensures, c.no_names-names.ensures, c.new-bound.ensures) at c.hooked.ensures.refused in
    IfErr-weaker c.hooked.result _ _
    (λ r h. subst (λ n. GetsNone c.args.name.now c.args.m.now n longest_file r) (bare_length c.args.m.now all_hooks) h) is
