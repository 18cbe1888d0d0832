use Rattle.outside_io.proofs.Fronts.{printed_front}
use Rattle.outside_io.proofs.memory_sink.MemorySinkSink.put.Goals as goal

-- what a failing print keeps is a front of the bytes
pub returns-in_ok-extend_from_slice-in-Some-clause-part : goal.returns-in_ok-extend_from_slice-in-Some-clause-part
returns-in_ok-extend_from_slice-in-Some-clause-part c =
    rw (← c.self.view_is) (printed_front c.front.result.now c.args.bytes.now c.in-Some.kept c.self.inside.printed.items c.extend_from_slice.new.self.items
    c.front.ensures c.in_ok-extend_from_slice-in-Some.ensures.items)
