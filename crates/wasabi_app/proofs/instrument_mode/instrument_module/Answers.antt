-- A module that has no output, or whose output was to be written.
use Rattle.std.proofs.Common.{◌≡◌, refl, string_bytes}
use Rattle.std.proofs.lemmas.Result.{err_from_is_err_and}
use Rattle.app_load.specs.declared.status.Status.TheVariants.{Done}
use Rattle.wasabi_app.specs.Words.{given_of}
use Rattle.wasabi_app.specs.Modes.Instrument.{output_effect}
use Rattle.app_load.specs.Plans.{ends, does}
use Rattle.wasabi_app.proofs.Hooking.{output_written, output_unwritten}
use Rattle.wasabi_app.proofs.instrument_mode.instrument_module.Goals as goal

pub returns-in_err-bytes : goal.returns-in_err-bytes
returns-in_err-bytes g c = λ tools.
    let p = err_from_is_err_and c.from_residual.result c.from_residual.ensures.1 in
    rw (p.1, p.2) (c.in_err-bytes.ensures.refused (ends (does (output_effect (given_of c.args.given.now) c.args.target.now c.args.m.now c.args.hooks.now c.args.names.now))) _ tools)

pub returns-in_err-write : goal.returns-in_err-write
returns-in_err-write g c = λ tools.
    let p = err_from_is_err_and c.from_residual-in_err-write.result c.from_residual-in_err-write.ensures.1 in
    rw (p.1, p.2)
    (output_unwritten (given_of c.args.given.now) c.args.target.now c.args.m.now c.args.hooks.now c.args.names.now c.in_ok-bytes.field-0.bytes.items c.in_ok-bytes.field-0.info.items
    (string_bytes c.in_ok-bytes.field-0.text) c.in_ok-bytes.ensures.ok _ _ tools c.in_err-write.field-0.0
    (rw (c.as_slice.ensures.value, c.as_slice-2.ensures.value) at c.in_err-write.ensures.refused))

pub returns : goal.returns
returns g c = λ tools.
    let same : c.into_bytes.result.items ≡ string_bytes c.in_ok-bytes.field-0.text = rw c.into_bytes.ensures.value refl in
    output_written (given_of c.args.given.now) c.args.target.now c.args.m.now c.args.hooks.now c.args.names.now c.in_ok-bytes.field-0.bytes.items c.in_ok-bytes.field-0.info.items
    (string_bytes c.in_ok-bytes.field-0.text) c.in_ok-bytes.ensures.ok _ _ tools Done c.into_bytes.result.items
    (rw (c.as_slice.ensures.value, c.as_slice-2.ensures.value) at c.in_ok-write.ensures.written)
    (rw c.as_slice-2.ensures.value at c.in_ok-write.ensures.calls) refl same
