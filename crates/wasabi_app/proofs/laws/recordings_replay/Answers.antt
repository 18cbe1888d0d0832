use Rattle.wasabi_app.proofs.Traces.{events_have_trace, recordings_replay}
use Rattle.wasabi_app.proofs.laws.recordings_replay.Goals as goal

pub returns : goal.returns
returns c = record { trace = events_have_trace; replay = recordings_replay }
