use Rattle.hook_select.proofs.Events.{told, made}
use Rattle.hook_select.proofs.laws.events_are_rows.Goals as goal

pub returns-clause-told : goal.returns-clause-told
returns-clause-told c = told c.args.event.now

pub returns-clause-made : goal.returns-clause-made
returns-clause-made c = made c.args.event.now
