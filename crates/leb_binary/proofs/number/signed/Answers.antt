use Rattle.std.proofs.Common.{arith}
use Rattle.std.proofs.lemmas.Int.{ints}
use Rattle.leb_binary.proofs.Numbers.{signed_positive, signed_negative}
use Rattle.leb_binary.proofs.number.signed.Goals as goal

pub returns-then-first-lt64 : goal.returns-then-first-lt64
returns-then-first-lt64 c =
    rw c.in_ok-first.ensures.cases.0 (signed_positive _ _ _ c.if-first-lt64.true ((c.fits_signed.ensures.0 c.if-not-fits_signed.false).0 c.if-first-lt64.true) _ (omega (arith, ints)))

pub returns : goal.returns
returns c =
    rw c.in_ok-first.ensures.cases.0 (signed_negative _ _ _ c.if-first-lt64.false (omega (arith, c.if-first-ge128.false)) ((c.fits_signed.ensures.0 c.if-not-fits_signed.false).1 c.if-first-lt64.false) _ (omega (arith, ints)))
