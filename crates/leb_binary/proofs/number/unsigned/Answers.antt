use Rattle.leb_binary.proofs.Numbers.{unsigned_last}
use Rattle.leb_binary.proofs.number.unsigned.Goals as goal

pub returns-then-fits_unsigned : goal.returns-then-fits_unsigned
returns-then-fits_unsigned c =
    rw (c.from.ensures, c.in_ok-first.ensures.cases.0) (unsigned_last _ _ _ c.if-first-lt128.true (c.fits_unsigned.ensures.0 c.if-fits_unsigned.true))
