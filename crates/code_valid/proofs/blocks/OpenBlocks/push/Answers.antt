use Rattle.code_valid.proofs.Parted.{pushed}
use Rattle.code_valid.proofs.blocks.OpenBlocks.push.Goals as goal

pub returns : goal.returns
returns c = rw (← c.self.view_is) ((pushed c.self.inside.stack c.self.invariant c.args.ty c.push.new.self c.in_ok-push.ensures.ok).0)
