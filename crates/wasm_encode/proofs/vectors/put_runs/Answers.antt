use Rattle.std.proofs.Common.{ℕ, ◌+◌, List, ◌++◌, length, arith, ap, ◌∙◌}
use Rattle.leb_binary.specs.Shortest.{unsigned_bytes}
use Rattle.module_ast.specs.Binary.{sized_bytes}
use Rattle.wasm_encode.proofs.Runs.{section_written}
use Rattle.wasm_encode.proofs.vectors.put_runs.Goals as goal

pub returns : goal.returns
returns g c =
    let count = unsigned_bytes (length c.args.first.now + length c.args.second.now) in
    section_written c.args.id g.T.Encode.bytes c.args.first.now c.args.second.now c.args.out.now.items c.push.new.self.items c.put_sized.new.out.items
    c.put_u64.new.out.items c.put_items.new.out.items c.put_items-2.new.out.items (omega arith)
    (◌∙◌ {A = List ℕ} c.in_ok-put_u64.ensures.ok (ap (λ l. l ++ count) c.new-content.ensures.items)) c.in_ok-put_items.ensures c.in_ok-put_items-2.ensures c.in_ok-push.ensures.items
    (◌∙◌ {A = List ℕ} c.in_ok-put_sized.ensures (ap (λ l. c.push.new.self.items ++ sized_bytes l) c.deref.ensures.value))
