use Rattle.std.proofs.Common.{◌++◌, Some, None}
use Rattle.outside_io.specs.Log.{text_of}
use Rattle.outside_io.proofs.Steps.{ok_weaker}
use Rattle.outside_io.proofs.Logged.{either_way, elapses_push, elapses_same, to_appended, append_but, same_but}
use Rattle.outside_io.proofs.memory_disk.MemoryDiskDisk.write.Goals as goal

pub returns-clause-wrote : goal.returns-clause-wrote
returns-clause-wrote c = λ told fresh is. ok_weaker c.append_file-answer.result (λ a. to_appended c.args.bytes.now (text_of c.args.self.now.made) fresh c.args.self.now.log.items c.append_file-answer.new.log.items is a) c.append_file-answer.ensures.appended

pub returns-clause-others : goal.returns-clause-others
returns-clause-others c = λ told fresh is. either_way c.append_file-answer.result c.append_file-answer.ensures.appended c.append_file-answer.ensures.same
    (λ a. append_but c.args.bytes.now (text_of c.args.self.now.made) fresh c.args.self.now.log.items c.append_file-answer.new.log.items is a) (λ same. same_but fresh c.args.self.now.log.items c.append_file-answer.new.log.items same)

pub returns-clause-time : goal.returns-clause-time
returns-clause-time c = λ told. either_way c.append_file-answer.result c.append_file-answer.ensures.appended c.append_file-answer.ensures.same
    (λ a. elapses_push a.fresh (Some (a.was ++ c.args.bytes.now)) (None) c.args.self.now.log.items c.append_file-answer.new.log.items a.pushed)
    (λ same. elapses_same c.args.self.now.log.items c.append_file-answer.new.log.items same)
