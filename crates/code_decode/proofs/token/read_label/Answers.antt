use Rattle.std.proofs.Common.{refl, arith}
use Rattle.std.proofs.lemmas.Int.{ints}
use Rattle.leb_binary.proofs.Numbers.{within_signed}
use Rattle.wasm_num.specs.declared.ValType.TheVariants.{I32, I64}
use Rattle.module_ast.specs.Binary.{empty, value, indexed, integer, f32, f64}
use Rattle.code_decode.proofs.BlockTypes.{block_type_end, block_type_long, block_type_none, index_is, number_is, sole_byte}
use Rattle.code_decode.proofs.token.read_label.Goals as goal

pub returns-in_default-clause-bad : goal.returns-in_default-clause-bad
returns-in_default-clause-bad c = block_type_end _ c.in_default.ensures.bad.1

pub overflow_cast-ty : goal.overflow_cast-ty
overflow_cast-ty c = let o = c.in-Ok.ensures.ok.1 in let w = within_signed 33 _ _ (omega arith) o.2 in omega (arith, ints, w.least, w.most)

pub returns-then-number-ge0-clause-ok : goal.returns-then-number-ge0-clause-ok
returns-then-number-ge0-clause-ok c = let o = c.in-Ok.ensures.ok.1 in let e = number_is _ _ _ o in (indexed _, index_is _ _ _ _ o (omega (arith, ints, e)), refl, λ h. refl)

pub returns-then-before-left-gt1-clause-bad : goal.returns-then-before-left-gt1-clause-bad
returns-then-before-left-gt1-clause-bad c = let o = c.in-Ok.ensures.ok.1 in let e = number_is _ _ _ o in block_type_long _ _ _ o (omega (arith, ints, e)) (omega arith)

pub returns-in_default-2-clause-bad : goal.returns-in_default-2-clause-bad
returns-in_default-2-clause-bad c =
    let o = c.in-Ok.ensures.ok.1 in
    let e = number_is _ _ _ o in
    block_type_none _ _ _ o (omega (arith, ints, e)) (λ h. omega (arith, ints, e, h)) (λ h. omega (arith, ints, e, h)) (λ h. omega (arith, ints, e, h)) (λ h. omega (arith, ints, e, h)) (λ h. omega (arith, ints, e, h))

pub returns-in-64-clause-ok : goal.returns-in-64-clause-ok
returns-in-64-clause-ok c =
    let o = c.in-Ok.ensures.ok.1 in let e = number_is _ _ _ o in
    (empty, sole_byte _ _ _ 0x40 63 o (omega (arith, ints, e)) refl (omega arith), refl, λ h. refl)

pub returns-in-127-clause-ok : goal.returns-in-127-clause-ok
returns-in-127-clause-ok c =
    let o = c.in-Ok.ensures.ok.1 in let e = number_is _ _ _ o in
    (value (integer I32), sole_byte _ _ _ 0x7F 0 o (omega (arith, ints, e)) refl (omega arith), refl, λ h. refl)

pub returns-in-126-clause-ok : goal.returns-in-126-clause-ok
returns-in-126-clause-ok c =
    let o = c.in-Ok.ensures.ok.1 in let e = number_is _ _ _ o in
    (value (integer I64), sole_byte _ _ _ 0x7E 1 o (omega (arith, ints, e)) refl (omega arith), refl, λ h. refl)

pub returns-in-125-clause-ok : goal.returns-in-125-clause-ok
returns-in-125-clause-ok c =
    let o = c.in-Ok.ensures.ok.1 in let e = number_is _ _ _ o in
    (value f32, sole_byte _ _ _ 0x7D 2 o (omega (arith, ints, e)) refl (omega arith), refl, λ h. cc)

pub returns-in-124-clause-ok : goal.returns-in-124-clause-ok
returns-in-124-clause-ok c =
    let o = c.in-Ok.ensures.ok.1 in let e = number_is _ _ _ o in
    (value f64, sole_byte _ _ _ 0x7C 3 o (omega (arith, ints, e)) refl (omega arith), refl, λ h. cc)
