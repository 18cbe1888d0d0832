use Rattle.branch_resolve.proofs.Named.{around_answer, read_around}
use Rattle.branch_resolve.proofs.laws.scopes_answer.Goals as goal

pub returns-clause-answer : goal.returns-clause-answer
returns-clause-answer c = around_answer

pub returns-clause-around : goal.returns-clause-around
returns-clause-around c = read_around
