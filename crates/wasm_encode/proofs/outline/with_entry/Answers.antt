use Rattle.std.proofs.Common.{List, ℕ, ◌++◌, ap, ◌∙◌, append_assoc}
use Rattle.leb_binary.specs.Shortest.{unsigned_bytes}
use Rattle.module_ast.specs.Binary.{body_bytes}
use Rattle.wasm_encode.proofs.outline.with_entry.Goals as goal

pub returns : goal.returns
returns c =
    let old = c.args.out.items in
    let body = body_bytes c.args.body.now in
    c.in_ok-put.ensures ∙ ap (λ (l : List ℕ). l ++ body) c.in_ok-put_u64.ensures.ok ∙ append_assoc old (unsigned_bytes c.args.size) body
    ∙ ap (λ n. old ++ (unsigned_bytes n ++ body)) c.requires
