-- The bodies of a whole module have few positions.
use Rattle.std.proofs.Common.{◌≤◌, subst, sym}
use Rattle.module_ast.specs.Validation.Limits.{longest_file}
use Rattle.app_runs.specs.Texts.{instruction_count}
use Rattle.app_runs.proofs.Positions.{few_positions}
use Rattle.app_runs.proofs.module_counts.count.Goals as goal

pub instructions-requires : goal.instructions-requires
instructions-requires c =
    subst (λ bs. instruction_count bs ≤ longest_file) (sym c.as_slice-10.ensures) (few_positions c.args.m.now c.requires)
