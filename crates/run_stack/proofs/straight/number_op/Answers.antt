use Rattle.std.proofs.Common.{◌<◌, length, subst}
use Rattle.std.proofs.lemmas.Bool.Decides.{not_from_Decides}
use Rattle.wasm_num.specs.Numbers.{Num}
use Rattle.run_stack.proofs.Straights.{IfGives, taken}
use Rattle.run_stack.proofs.straight.number_op.Goals as goal

pub binary-requires : goal.binary-requires
binary-requires c =
    let r = c.requires.before in
    (taken c.args.stack.now r.0 r.1 r.2 c.args.op r.3 (not_from_Decides c.is_unary.result c.is_unary.ensures c.if-is_unary.false) c.pop-second.result c.pop-first.result c.pop-second.new.self c.pop-first.new.self c.pop-second.ensures c.pop-first.ensures).typed

pub push-requires-in-Ok : goal.push-requires-in-Ok
push-requires-in-Ok c =
    let r = c.requires.before in
    let t = taken c.args.stack.now r.0 r.1 r.2 c.args.op r.3 (not_from_Decides c.is_unary.result c.is_unary.ensures c.if-is_unary.false) c.pop-second.result c.pop-first.result c.pop-second.new.self c.pop-first.new.self c.pop-second.ensures c.pop-first.ensures in
    subst (λ (n : Num). IfGives n (length c.pop-first.new.self.values < c.pop-first.new.self.value_room)) c.in-Ok.ensures t.room
