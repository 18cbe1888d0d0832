use Rattle.std.proofs.Common.{◌≡◌, ◌<◌, ◌^◌, length, subst, sym, ◌∙◌, arith}
use Rattle.module_ast.specs.Binary.{IsModule, tree_of, module_bytes, without_customs}
use Rattle.module_ast.proofs.WrittenModules.{module_spelled}
use Rattle.wasm_encode.proofs.Rooms.{bodies_room}
use Rattle.wasm_encode.proofs.encode.Goals as goal

pub entries_length-bodies-requires : goal.entries_length-bodies-requires
entries_length-bodies-requires c = rw c.as_slice.ensures (bodies_room c.args.m.now c.requires.room)

pub returns-clause-grammar : goal.returns-clause-grammar
returns-clause-grammar c =
    let m = c.args.m.now in
    let short : length (module_bytes m) < 2 ^ 32 = omega (arith, c.module_length-length.ensures.length, c.requires.most, c.if-length-max.false) in
    subst (λ bytes. IsModule bytes (tree_of (without_customs m))) (sym c.in_ok-spell_module.ensures) (module_spelled m (c.module_length-length.ensures.fit short))

pub returns-then-length-max-clause-large : goal.returns-then-length-max-clause-large
returns-then-length-max-clause-large c = λ n e.
    let same : c.module_length-length.result ≡ n = cc in
    (sym same ∙ c.module_length-length.ensures.length, omega (arith, same, c.if-length-max.true))
