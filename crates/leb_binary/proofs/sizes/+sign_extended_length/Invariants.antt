use Rattle.leb_binary.proofs.sizes.+sign_extended_length.Given as goal

abbrev pub decreases-sign_extended_length : goal.decreases-sign_extended_length
decreases-sign_extended_length l = l.n
