-- A piece that is no function, or what came of the hooks that are selected.
use Rattle.std.proofs.Common.{◌∙◌, ap, ap₂, subst, sym, Some}
use Rattle.std.proofs.lemmas.Result.{err_from_is_err_and}
use Rattle.wasm_sem.specs.Types.{Selection}
use Rattle.name_map.specs.declared.Names.{Names}
use Rattle.app_load.specs.Outcomes.{Yields}
use Rattle.wasabi_app.specs.Modes.Instrument.{found, output_plan}
use Rattle.wasabi_app.specs.Selecting.{names_kept}
use Rattle.wasabi_app.specs.Words.{given_of}
use Rattle.wasabi_app.proofs.instrument_mode.instrument_named.Goals as goal

pub returns-in_err-flags : goal.returns-in_err-flags
returns-in_err-flags g c = λ tools.
    let given = given_of c.args.given.now in
    let p = err_from_is_err_and c.from_residual.result c.from_residual.ensures.1 in
    rw (p.1, p.2) (c.in_err-flags.ensures.refused (λ hooks. output_plan given c.args.target.now c.args.m.now hooks (names_kept given.keeps c.args.names)) _ tools)

pub returns : goal.returns
returns g c = λ tools.
    let given = given_of c.args.given.now in
    let plan = λ (h : Selection) (n : Names). output_plan given c.args.target.now c.args.m.now h n in
    subst (λ p. Yields (Some p) (g.S.Shelf.seen c.args.shelf.now) (g.S.Shelf.seen c.instrument_module.new.shelf) tools tools c.instrument_module.result)
    (ap₂ plan c.selection-hooks.ensures c.names_kept-names.ensures ∙ sym (ap (λ s. found s (λ hooks. plan hooks (names_kept given.keeps c.args.names))) c.in_ok-flags.ensures.ok))
    (c.instrument_module.ensures tools)
