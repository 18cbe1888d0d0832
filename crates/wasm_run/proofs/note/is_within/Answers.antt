use Rattle.std.proofs.Common.{rules}
use Rattle.wasm_run.proofs.note.is_within.Goals as goal

pub returns-then-count-size : goal.returns-then-count-size
returns-then-count-size c = search rules
