-- The output is that of the module.
use Rattle.std.proofs.Common.{◌∙◌, ◌≤◌, List, ℕ, ap, length, subst, sym}
use Rattle.module_ast.specs.Validation.Limits.{longest_file}
use Rattle.wasm_sem.specs.Types.{Module}
use Rattle.static_info.specs.Info.{info_of}
use Rattle.instrument.specs.Output.{output}
use Rattle.wasabi_app.specs.Modes.Trial.{all_hooks}
use Rattle.wasabi_app.proofs.TrialPairs.{output_belongs, output_read}
use Rattle.app_tests.proofs.Stored.{two_triable}
use Rattle.app_tests.proofs.following.made_byte.Goals as goal

pub read-requires-clause-short : goal.read-requires-clause-short
read-requires-clause-short g c = λ _ _. subst (λ (b : List ℕ). length b ≤ longest_file) (sym (c.as_slice.ensures.value ∙ c.requires.made.written)) c.requires.few

pub called_byte-requires-clause-output : goal.called_byte-requires-clause-output
called_byte-requires-clause-output g c =
    output_read c.args.other.now (two_triable c.args.other.now c.requires.other c.requires.valid c.requires.free) c.args.hooked.now.bytes.items
    c.args.hooked.now.info c.in_ok-output.output c.requires.made c.requires.few (rw c.as_slice.ensures.value at c.in_ok-output.ensures.fit)
    ∙ ap (λ (m : Module). output m all_hooks) c.requires.other

pub called_byte-requires-clause-info : goal.called_byte-requires-clause-info
called_byte-requires-clause-info g c = c.requires.made.information ∙ ap (λ (m : Module). info_of m all_hooks) c.requires.other

pub called_byte-requires-clause-formed : goal.called_byte-requires-clause-formed
called_byte-requires-clause-formed g c = c.requires.made.form

pub called_byte-requires-clause-belongs : goal.called_byte-requires-clause-belongs
called_byte-requires-clause-belongs g c =
    output_belongs c.args.other.now (two_triable c.args.other.now c.requires.other c.requires.valid c.requires.free) c.args.hooked.now.bytes.items
    c.args.hooked.now.info c.in_ok-output.output c.requires.made c.requires.few (rw c.as_slice.ensures.value at c.in_ok-output.ensures.fit)
