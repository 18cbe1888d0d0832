use Rattle.wasabi_app.proofs.trial_mode.sizes_text.Goals as goal

pub returns : goal.returns
returns c = c.format.ensures.ok
