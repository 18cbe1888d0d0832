-- What was read, or why nothing was.
use Rattle.std.proofs.Common.{length, ap, subst, arith}
use Rattle.std.proofs.lemmas.Result.{err_from_is_err_and}
use Rattle.app_load.specs.Files.{IsFit}
use Rattle.app_load.specs.Wants.{a_named_module, unread_no_memory}
use Rattle.app_load.proofs.Loaded.{refuted_by}
use Rattle.app_load.proofs.loading.load_named.Goals as goal

pub valid_module-requires-clause-short : goal.valid_module-requires-clause-short
valid_module-requires-clause-short g c =
    let i = c.in_ok-bytes.ensures.ok (a_named_module c.args.limits.now c.args.keeps) in
    λ _ _. omega (arith, i.short, c.requires.short, ap length c.as_slice.ensures.value)

pub returns-in_err-module-clause-refused : goal.returns-in_err-module-clause-refused
returns-in_err-module-clause-refused g c =
    let want = a_named_module c.args.limits.now c.args.keeps in
    let p = err_from_is_err_and c.from_residual-in_err-module.result c.from_residual-in_err-module.ensures.1 in
    rw (p.1, p.2)
    (refuted_by want _ _ _ _ c.in_ok-bytes.bytes.items _ (c.in_ok-bytes.ensures.ok want) (rw c.as_slice.ensures.value at c.in_err-module.ensures.refused))

pub returns-in-Ok-clause-ok : goal.returns-in-Ok-clause-ok
returns-in-Ok-clause-ok g c =
    let want = a_named_module c.args.limits.now c.args.keeps in
    let fit = subst (λ b. IsFit c.args.limits.now b c.in_ok-module.module) c.as_slice.ensures.value c.in_ok-module.ensures.ok.0 in
    record {
      bytes = c.in_ok-bytes.bytes.items;
      read_well = c.in_ok-bytes.ensures.ok want;
      spelled = (fit, c.in_ok-module.ensures.ok.1, rw c.as_slice-2.ensures.value at c.in-Ok.ensures);
    }

pub returns-clause-refused : goal.returns-clause-refused
returns-clause-refused g c = unread_no_memory
