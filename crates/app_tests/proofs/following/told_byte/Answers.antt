-- The first file is the one module.
use Rattle.std.proofs.Common.{refl, rules}
use Rattle.app_tests.proofs.Stored.{read_one}
use Rattle.app_tests.proofs.following.told_byte.Goals as goal

pub other_byte-requires : goal.other_byte-requires
other_byte-requires g c = (search rules, read_one _ c.in_ok-own.own refl c.in_ok-own.ensures.fit)
