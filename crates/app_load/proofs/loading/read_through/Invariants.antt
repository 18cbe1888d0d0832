use Rattle.std.proofs.Common.{◌≡◌, List, length}
use Rattle.wasm_sem.specs.Types.{Event}
use Rattle.trace_file.specs.Files.{HasRead}
use Rattle.app_load.proofs.loading.read_through.Given as goal

abbrev pub invariant-loop : goal.invariant-loop
invariant-loop l = record {
  whole : l.reader.bytes ≡ l.fn.bytes;
  events : (es : List Event) × HasRead es l.reader;
}

abbrev pub decreases-loop : goal.decreases-loop
decreases-loop l = length l.reader.left
