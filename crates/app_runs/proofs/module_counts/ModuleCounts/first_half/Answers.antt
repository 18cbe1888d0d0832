use Rattle.app_runs.proofs.module_counts.ModuleCounts.first_half.Goals as goal

pub returns : goal.returns
returns c = c.format.ensures.ok
