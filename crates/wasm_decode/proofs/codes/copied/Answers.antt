use Rattle.std.proofs.Common.{arith}
use Rattle.wasm_decode.proofs.Bytes.{are_bytes}
use Rattle.wasm_decode.proofs.codes.copied.Goals as goal

pub returns : goal.returns
returns c =
    record { ok = (c.in_ok-copied.ensures.items_if_clones_equal (λ x y e. e), are_bytes c.args.bytes.now (λ i. omega (arith, c.type_inv.bytes i))) }
