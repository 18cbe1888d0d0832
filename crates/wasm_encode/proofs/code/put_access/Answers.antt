-- An opcode, an alignment and an offset, one behind the other.
use Rattle.std.proofs.lemmas.Result.{on_ok_weaker}
use Rattle.leb_binary.specs.Shortest.{unsigned_bytes}
use Rattle.wasm_encode.proofs.Adding.{added_three}
use Rattle.wasm_encode.proofs.code.put_access.Goals as goal

pub returns : goal.returns
returns c =
    let arg = c.args.arg in
    on_ok_weaker c.put_u32-2.result
    (added_three c.args.out.now.items c.push.new.self.items c.put_u32.new.out.items c.put_u32-2.new.out.items c.args.opcode (unsigned_bytes arg.align) (unsigned_bytes arg.offset)
    c.in_ok-push.ensures.items c.in_ok-put_u32.ensures.ok)
    c.put_u32-2.ensures.ok
