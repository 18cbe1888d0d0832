use Rattle.app_load.proofs.loading.limit_line.Goals as goal

pub returns : goal.returns
returns c = rw c.name_of-which.ensures at c.format.ensures.ok
