use Rattle.outside_io.specs.Shelved.{map_contents}
use Rattle.outside_io.proofs.Fronts.{wrote_front}
use Rattle.outside_io.proofs.memory_shelf.MemoryShelfShelf.write.Goals as goal

-- what a failing write keeps is a front of the bytes
pub returns-in_ok-put_under-in-Some-clause-part : goal.returns-in_ok-put_under-in-Some-clause-part
returns-in_ok-put_under-in-Some-clause-part c =
    rw (← c.self.view_is) (wrote_front c.args.name.now c.front.result.now c.args.bytes.now c.in-Some.kept (map_contents c.self.inside.held.entries) (map_contents c.put_under.new.held.entries)
    c.front.ensures c.in_ok-put_under-in-Some.ensures.written)
