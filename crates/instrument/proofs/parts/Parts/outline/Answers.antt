use Rattle.std.proofs.Common.{rules}
use Rattle.instrument.proofs.parts.Parts.outline.Goals as goal

pub returns : goal.returns
returns c = search rules
