use Rattle.app_load.proofs.loading.refused_info.Goals as goal

pub returns : goal.returns
returns c = c.refused.ensures c.args.line.now c.from_str.ensures.ok
