use Rattle.std.proofs.Common.{ap, length}
use Rattle.shadow_replay.proofs.Openings.{starts, fresh}
use Rattle.shadow_replay.proofs.shadow.Shadow.with_store.Goals as goal

pub returns : goal.returns
returns c =
    let bytes = c.args.memory.bytes in
    let marks = fresh bytes (length c.bytes.result.now) c.new-memory_marks.result.len c.new-memory_marks.result.items c.resize.new.self.items c.in_ok-resize.ensures.items c.new-memory_marks.ensures.items c.new-memory_marks.ensures.len (ap length c.bytes.ensures) in
    starts c.args.valid.now c.args.memory.max bytes c.args.globals.items c.resize.new.self.items c.new-2.result c.args.sources.now c.args.sinks.now c.in_ok-from_slice.field-0.items
    c.in_ok-from_slice-2.field-0.items c.new-3.result.items marks c.new-2.ensures c.in_ok-from_slice.ensures.items c.in_ok-from_slice-2.ensures.items c.new-3.ensures.items
