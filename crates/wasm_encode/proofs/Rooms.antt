-- The bytes of all bodies are among those of the module.
use Rattle.std.proofs.Common.{◌++◌, ◌<◌, ◌^◌, length, ap, arith, length-append}
use Rattle.module_ast.specs.declared.module.Module.{Module}
use Rattle.module_ast.specs.Binary.{module_bytes}
use Rattle.wasm_encode.specs.Outline.{front_bytes, back_bytes, entries_bytes, code_head}
use Rattle.wasm_encode.proofs.Outlines.{in_three}

pub bodies_room : (m : Module) → length (module_bytes m) < 2 ^ 63 → length (entries_bytes m.bodies) < 2 ^ 63
bodies_room m h =
    let entries = entries_bytes m.bodies in
    let head = code_head (length m.bodies) (length entries) in
    omega (arith, h, ap length (in_three m), length-append (front_bytes m ++ (head ++ entries)) (back_bytes m), length-append (front_bytes m) (head ++ entries), length-append head entries)
