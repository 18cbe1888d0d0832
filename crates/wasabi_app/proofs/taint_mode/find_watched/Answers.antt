-- A name that is unknown, or all that is watched.
use Rattle.std.proofs.Common.{◌∙◌, length, map, ap, sym, arith, string_bytes}
use Rattle.std.proofs.lemmas.List.{length-map}
use Rattle.wasm_sem.specs.Types.{Module}
use Rattle.app_runs.specs.Watching.{import_names}
use Rattle.wasabi_app.specs.Modes.Taint.{unknown_in}
use Rattle.wasabi_app.specs.Words.{given_of}
use Rattle.wasabi_app.proofs.Modes.Taint.{unknown_name, unknown_no_memory}
use Rattle.wasabi_app.proofs.TaintRuns.{names_few}
use Rattle.wasabi_app.proofs.taint_mode.find_watched.Goals as goal

pub returns-in_default-clause-refused : goal.returns-in_default-clause-refused
returns-in_default-clause-refused c = unknown_no_memory (given_of c.args.given.now) c.args.m.now

pub returns-in-Some-clause-refused : goal.returns-in-Some-clause-refused
returns-in-Some-clause-refused c =
    let names =
    ap (map string_bytes) c.as_slice-2.ensures.value ∙ c.in-Ok.ensures ∙ ap import_names c.as_slice.ensures
    ∙ ap (λ (x : Module). import_names x.imports) c.module.ensures.module in
    unknown_name (given_of c.args.given.now) c.args.m.now c.in-Some.name.now c.refused.result
    (sym (ap (unknown_in (given_of c.args.given.now)) names) ∙ sym c.in-Some.ensures) (c.refused.ensures _ c.no_import_line.ensures)

pub numbers-requires : goal.numbers-requires
numbers-requires c =
    let names = c.in-Ok.ensures ∙ ap import_names c.as_slice.ensures ∙ ap (λ (x : Module). import_names x.imports) c.module.ensures.module in
    omega (arith, names_few c.args.m.now c.requires, ap length names, length-map c.in-Ok.names.items string_bytes)

pub returns-in-Err-clause-refused : goal.returns-in-Err-clause-refused
returns-in-Err-clause-refused c = unknown_no_memory (given_of c.args.given.now) c.args.m.now
