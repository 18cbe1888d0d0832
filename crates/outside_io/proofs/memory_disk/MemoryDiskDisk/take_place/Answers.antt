use Rattle.std.proofs.Common.{Some}
use Rattle.outside_io.specs.Log.{text_of}
use Rattle.outside_io.proofs.Steps.{ok_weaker}
use Rattle.outside_io.proofs.Logged.{either_way, elapses_push, elapses_same, to_moved, crash_moved, crash_same}
use Rattle.outside_io.proofs.memory_disk.MemoryDiskDisk.take_place.Goals as goal

pub returns-clause-moved : goal.returns-clause-moved
returns-clause-moved c = λ told fresh is apart. ok_weaker c.rename_file-answer.result (λ a. to_moved c.args.to.now (text_of c.args.self.now.made) fresh c.args.self.now.log.items c.rename_file-answer.new.log.items is apart a) c.rename_file-answer.ensures.renamed

pub returns-clause-crash : goal.returns-clause-crash
returns-clause-crash c = λ told fresh is apart. either_way c.rename_file-answer.result c.rename_file-answer.ensures.renamed c.rename_file-answer.ensures.same
    (λ a. crash_moved c.args.to.now (text_of c.args.self.now.made) fresh c.args.self.now.log.items c.rename_file-answer.new.log.items is apart a) (λ same. crash_same c.args.to.now fresh c.args.self.now.log.items c.rename_file-answer.new.log.items same)

pub returns-clause-time : goal.returns-clause-time
returns-clause-time c = λ told. either_way c.rename_file-answer.result c.rename_file-answer.ensures.renamed c.rename_file-answer.ensures.same
    (λ a. elapses_push c.args.to.now (Some a.bytes) (Some a.fresh) c.args.self.now.log.items c.rename_file-answer.new.log.items a.pushed)
    (λ same. elapses_same c.args.self.now.log.items c.rename_file-answer.new.log.items same)
