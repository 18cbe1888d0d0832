use Rattle.rewrite.proofs.Joined.{arm}
use Rattle.rewrite.proofs.setting.Setting.push_calling.Goals as goal

pub returns-in-BrTable : goal.returns-in-BrTable
returns-in-BrTable c = arm c.push_table.result c.args.self.now c.args.position c.args.instr.now _ c.args.code.now.items c.push_table.new.code.items c.in-BrTable.is c.push_table.ensures

pub returns-in-Call : goal.returns-in-Call
returns-in-Call c = arm c.push_call_of.result c.args.self.now c.args.position c.args.instr.now _ c.args.code.now.items c.push_call_of.new.code.items c.in-Call.is c.push_call_of.ensures

pub returns-in-CallIndirect : goal.returns-in-CallIndirect
returns-in-CallIndirect c = arm c.push_indirect_of.result c.args.self.now c.args.position c.args.instr.now _ c.args.code.now.items c.push_indirect_of.new.code.items c.in-CallIndirect.is c.push_indirect_of.ensures
