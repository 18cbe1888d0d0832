use Rattle.std.proofs.Common.{ap, ◌∙◌}
use Rattle.std.specs.Prelude.{reverse}
use Rattle.rewrite.proofs.Stacked.{from_last}
use Rattle.rewrite.proofs.end_sums.EndSums.outward.Goals as goal

pub returns : goal.returns
returns c = from_last c.as_slice-sums.result.now c.args.self.now c.args.inside (ap reverse c.as_slice-sums.ensures.value ∙ c.self.view_is) c.if-inside-sums.false
