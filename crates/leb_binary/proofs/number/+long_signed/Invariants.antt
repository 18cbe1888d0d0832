use Rattle.leb_binary.proofs.number.+long_signed.Given as goal

abbrev pub decreases-long_signed : goal.decreases-long_signed
decreases-long_signed l = l.size
