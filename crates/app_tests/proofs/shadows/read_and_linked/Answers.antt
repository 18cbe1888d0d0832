-- The output is that of the module.
use Rattle.std.proofs.Common.{◌∙◌, ◌≤◌, ℕ, List, length, subst, sym}
use Rattle.module_ast.specs.Validation.Limits.{longest_file}
use Rattle.wasabi_app.proofs.TaintRuns.{paired}
use Rattle.app_tests.proofs.shadows.read_and_linked.Goals as goal

pub read-requires-clause-short : goal.read-requires-clause-short
read-requires-clause-short g c = λ _ _. subst (λ (b : List ℕ). length b ≤ longest_file) (sym (c.as_slice.ensures.value ∙ c.requires.made.written)) c.requires.few

pub linked-requires-clause-paired : goal.linked-requires-clause-paired
linked-requires-clause-paired g c =
    paired c.args.m.now c.requires.followable c.requires.free c.args.hooked.now.bytes.items c.args.hooked.now.info c.in_ok-output.output c.requires.made
    c.requires.few (rw c.as_slice.ensures.value at c.in_ok-output.ensures.fit)
