use Rattle.std.proofs.Common.{Some, None, option_and_then, sym, ap, ◌∙◌}
use Rattle.hook_mono.specs.Reading.{if_named}
use Rattle.hook_mono.proofs.Sound.{read_is, kept_is}
use Rattle.hook_mono.proofs.read.key_of.Goals as goal

pub returns-in-Some : goal.returns-in-Some
returns-in-Some c = kept_is c.args.name.now (Some c.in-Some.key) c.if_named.result (sym c.in-Some.is ∙ c.in_ok-key.ensures) c.if_named.ensures

pub returns-in-None : goal.returns-in-None
returns-in-None c = read_is c.args.name.now None (ap (option_and_then (if_named c.args.name.now)) (sym c.in-None.is ∙ c.in_ok-key.ensures))
