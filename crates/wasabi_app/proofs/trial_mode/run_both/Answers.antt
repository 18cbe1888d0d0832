-- The output is that of the module.
use Rattle.std.proofs.Common.{◌∙◌, ◌≤◌, List, ℕ, length, subst, sym}
use Rattle.std.proofs.lemmas.Result.{err_from_is_err_and}
use Rattle.module_ast.specs.Validation.Limits.{longest_file}
use Rattle.instrument.specs.Output.{output}
use Rattle.static_info.specs.Info.{info_of}
use Rattle.wasabi_app.specs.Modes.Trial.{all_hooks, pair_front}
use Rattle.wasabi_app.proofs.TrialPairs.{both_run, not_run, output_belongs, output_read}
use Rattle.wasabi_app.proofs.trial_mode.run_both.Goals as goal

pub front-requires-clause-sizes : goal.front-requires-clause-sizes
front-requires-clause-sizes g c = c.requires.triable.short

pub front-requires-clause-steps : goal.front-requires-clause-steps
front-requires-clause-steps g c = c.requires.firsts

pub read_output-requires-clause-short : goal.read_output-requires-clause-short
read_output-requires-clause-short g c = λ _ _. subst (λ (b : List ℕ). length b ≤ longest_file) (sym (c.as_slice.ensures.value ∙ c.requires.made.written)) c.requires.few

pub run_output-requires-clause-steps : goal.run_output-requires-clause-steps
run_output-requires-clause-steps g c = c.requires.seconds

pub run_output-requires-clause-formed : goal.run_output-requires-clause-formed
run_output-requires-clause-formed g c = c.requires.made.form

pub run_output-requires-clause-belongs : goal.run_output-requires-clause-belongs
run_output-requires-clause-belongs g c =
    output_belongs c.args.m.now c.requires.triable c.args.hooked.now.bytes.items c.args.hooked.now.info c.in_ok-output.output c.requires.made
    c.requires.few (rw c.as_slice.ensures.value at c.in_ok-output.ensures)

pub returns-in_err-front : goal.returns-in_err-front
returns-in_err-front g c =
    let p = err_from_is_err_and c.from_residual.result c.from_residual.ensures.1 in
    rw (p.1, p.2)
    (not_run c.args.number c.args.second (pair_front c.args.number c.args.first c.args.m.now) (output c.args.m.now all_hooks) (info_of c.args.m.now all_hooks) _ _)

pub returns-in_err-output : goal.returns-in_err-output
returns-in_err-output g c =
    let p = err_from_is_err_and c.from_residual-in_err-output.result c.from_residual-in_err-output.ensures.1 in
    rw (p.1, p.2)
    (not_run c.args.number c.args.second (pair_front c.args.number c.args.first c.args.m.now) (output c.args.m.now all_hooks) (info_of c.args.m.now all_hooks) _ _)

pub returns : goal.returns
returns g c =
    let made = c.requires.made in
    let read = output_read c.args.m.now c.requires.triable c.args.hooked.now.bytes.items c.args.hooked.now.info c.in_ok-output.output made c.requires.few
    (rw c.as_slice.ensures.value at c.in_ok-output.ensures) in
    both_run c.args.number c.args.first c.args.second c.args.m.now c.args.hooked.now.bytes.items c.args.hooked.now.info made _ c.in_ok-output.output _ _
    c.run_output.result (c.as_str.ensures.value ∙ c.in_ok-front.ensures) read c.run_output.ensures
