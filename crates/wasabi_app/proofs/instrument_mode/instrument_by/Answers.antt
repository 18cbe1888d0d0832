-- A subject that is not loaded, or what came of it.
use Rattle.std.proofs.Common.{◌≡◌, ◌∙◌, List, Option, Result, Err, ap, subst, sym}
use Rattle.std.proofs.lemmas.Result.{err_from_is_err_and}
use Rattle.outside_io.specs.Outside.{ShelfState}
use Rattle.analyses.specs.Tools.{ToolState}
use Rattle.app_load.specs.declared.printing.Printed.{Printed}
use Rattle.app_load.specs.declared.printing.Refusal.{Refusal}
use Rattle.app_load.specs.Outcomes.{Yields}
use Rattle.app_load.specs.Plans.{Plan}
use Rattle.app_load.proofs.Going.{stopped, went_on}
use Rattle.wasabi_app.specs.Modes.Instrument.{selected_plan, subject_read}
use Rattle.wasabi_app.specs.Selecting.{reads_names}
use Rattle.wasabi_app.specs.Words.{given_of}
use Rattle.wasabi_app.proofs.Hooking.{canonical_short}
use Rattle.wasabi_app.proofs.KeptNames.{kept_proper}
use Rattle.wasabi_app.proofs.instrument_mode.instrument_by.Goals as goal

-- the refusal that a `?` hands on
handed_on : (plan : Option Plan) (old new : ShelfState) (tools : List ToolState) (result : Result Printed Refusal) (given refusal : Refusal) → result ≡ Err given
    → given ≡ refusal → Yields plan old new tools tools (Err refusal) → Yields plan old new tools tools result
handed_on plan old new tools result given refusal is same y = subst (Yields plan old new tools tools) (sym (is ∙ ap Err same)) y

pub returns-in_err-module : goal.returns-in_err-module
returns-in_err-module g c = λ tools.
    let given = given_of c.args.given.now in
    let p = err_from_is_err_and c.from_residual.result c.from_residual.ensures.1 in
    handed_on _ _ _ tools c.from_residual.result p.0 c.in_err-module.field-0.0 p.1 p.2
    (stopped (subject_read given) (λ named. selected_plan given c.args.target.now named.0 named.1) _ _ tools c.in_err-module.field-0.0
    (rw (c.narrow.ensures, c.reads_names.ensures) at c.in_err-module.ensures.refused) c.in_err-module.ensures.once)

pub instrument_named-requires-clause-limits : goal.instrument_named-requires-clause-limits
instrument_named-requires-clause-limits g c = λ _ _. (rw (c.narrow.ensures, c.reads_names.ensures) at c.in_ok-module.ensures.ok).spelled.0.within

pub instrument_named-requires-clause-short : goal.instrument_named-requires-clause-short
instrument_named-requires-clause-short g c =
    let is = rw (c.narrow.ensures, c.reads_names.ensures) at c.in_ok-module.ensures.ok in
    λ _ _. canonical_short is.bytes c.in_ok-module.module is.read_well.short is.spelled.0.spelled

pub instrument_named-requires-clause-proper : goal.instrument_named-requires-clause-proper
instrument_named-requires-clause-proper g c =
    let given = given_of c.args.given.now in
    let is = rw (c.narrow.ensures, c.reads_names.ensures) at c.in_ok-module.ensures.ok in
    λ _ _. kept_proper (reads_names given.keeps given.functions given.except) is.bytes c.in_ok-module.module c.in_ok-module.names is.spelled.2

pub returns : goal.returns
returns g c = λ tools.
    let given = given_of c.args.given.now in
    went_on (subject_read given) (λ named. selected_plan given c.args.target.now named.0 named.1) (c.in_ok-module.module, c.in_ok-module.names) _ _ _ tools tools
    c.instrument_named.result (rw (c.narrow.ensures, c.reads_names.ensures) at c.in_ok-module.ensures.ok) c.load_named.ensures.once (c.instrument_named.ensures tools)
