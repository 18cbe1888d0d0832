use Rattle.std.proofs.Common.{[], Some, None}
use Rattle.outside_io.specs.Log.{text_of}
use Rattle.outside_io.proofs.Steps.{ok_weaker}
use Rattle.outside_io.proofs.Logged.{either_way, elapses_push, elapses_same, to_created}
use Rattle.outside_io.proofs.memory_disk.MemoryDiskDisk.create.Goals as goal

pub returns-clause-created : goal.returns-clause-created
returns-clause-created c = λ told. ok_weaker c.make_file-answer.result (λ m. to_created c.args.beside.now (text_of c.make_file-answer.new.made) c.args.self.now.log.items c.make_file-answer.new.log.items m) c.make_file-answer.ensures.made

pub returns-clause-time : goal.returns-clause-time
returns-clause-time c = λ told. either_way c.make_file-answer.result c.make_file-answer.ensures.made c.make_file-answer.ensures.same
    (λ a. elapses_push a.fresh (Some []) (None) c.args.self.now.log.items c.make_file-answer.new.log.items a.pushed)
    (λ same. elapses_same c.args.self.now.log.items c.make_file-answer.new.log.items same)
