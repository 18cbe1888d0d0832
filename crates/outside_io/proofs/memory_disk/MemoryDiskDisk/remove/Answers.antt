use Rattle.std.proofs.Common.{None}
use Rattle.outside_io.specs.Log.{text_of}
use Rattle.outside_io.proofs.Steps.{ok_weaker}
use Rattle.outside_io.proofs.Logged.{either_way, elapses_push, elapses_same, to_removed, remove_but, same_but}
use Rattle.outside_io.proofs.memory_disk.MemoryDiskDisk.remove.Goals as goal

pub returns-clause-removed : goal.returns-clause-removed
returns-clause-removed c = λ told fresh is. ok_weaker c.remove_file-answer.result (λ a. to_removed (text_of c.args.self.now.made) fresh c.args.self.now.log.items c.remove_file-answer.new.log.items is a) c.remove_file-answer.ensures.removed

pub returns-clause-others : goal.returns-clause-others
returns-clause-others c = λ told fresh is. either_way c.remove_file-answer.result c.remove_file-answer.ensures.removed c.remove_file-answer.ensures.same
    (λ a. remove_but (text_of c.args.self.now.made) fresh c.args.self.now.log.items c.remove_file-answer.new.log.items is a) (λ same. same_but fresh c.args.self.now.log.items c.remove_file-answer.new.log.items same)

pub returns-clause-time : goal.returns-clause-time
returns-clause-time c = λ told. either_way c.remove_file-answer.result c.remove_file-answer.ensures.removed c.remove_file-answer.ensures.same
    (λ a. elapses_push a.fresh (None) (None) c.args.self.now.log.items c.remove_file-answer.new.log.items a.pushed)
    (λ same. elapses_same c.args.self.now.log.items c.remove_file-answer.new.log.items same)
