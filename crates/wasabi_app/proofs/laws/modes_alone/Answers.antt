-- What each mode does.
use Rattle.wasabi_app.proofs.Modes.{some_write, some_feed, some_make}
use Rattle.wasabi_app.proofs.laws.modes_alone.Goals as goal

pub returns-clause-writes : goal.returns-clause-writes
returns-clause-writes c = some_write

pub returns-clause-feed : goal.returns-clause-feed
returns-clause-feed c = some_feed

pub returns-clause-make : goal.returns-clause-make
returns-clause-make c = some_make
