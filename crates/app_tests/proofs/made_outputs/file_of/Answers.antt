-- A made module may get hooks.
use Rattle.std.proofs.Common.{◌≤◌, length, subst, sym}
use Rattle.module_ast.specs.Binary.{module_bytes, IsWithin}
use Rattle.module_ast.specs.Validation.{narrow, longest_narrow_file}
use Rattle.module_gen.proofs.MadeModules.{made_narrow, made_short}
use Rattle.wasm_sem.specs.Types.{Module}
use Rattle.app_tests.proofs.made_outputs.file_of.Goals as goal

pub instrument-requires-clause-limits : goal.instrument-requires-clause-limits
instrument-requires-clause-limits g c = λ _ _. subst (IsWithin narrow) (sym c.in_ok-valid.ensures) (made_narrow c.args.number)

pub instrument-requires-clause-short : goal.instrument-requires-clause-short
instrument-requires-clause-short g c = λ _ _. subst (λ (m : Module). length (module_bytes m) ≤ longest_narrow_file) (sym c.in_ok-valid.ensures) (made_short c.args.number)
