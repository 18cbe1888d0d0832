use Rattle.std.proofs.Common.{rules}
use Rattle.par_phase.proofs.map.in_turn.Goals as goal

pub returns-clause-answered : goal.returns-clause-answered
returns-clause-answered g c = search rules

pub returns-clause-shown : goal.returns-clause-shown
returns-clause-shown g c = search rules
