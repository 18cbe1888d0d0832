use Rattle.leb_binary.proofs.number.+long_unsigned.Given as goal

abbrev pub decreases-long_unsigned : goal.decreases-long_unsigned
decreases-long_unsigned l = l.size
