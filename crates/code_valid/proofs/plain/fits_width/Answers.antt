use Rattle.std.proofs.Common.{arith}
use Rattle.code_valid.proofs.Compare.{too_wide}
use Rattle.code_valid.proofs.plain.fits_width.Goals as goal

pub returns-in_default : goal.returns-in_default
returns-in_default c = too_wide c.args.align c.args.width (omega arith) c.requires
