-- What the output tells is fit for a shadow of its module.
use Rattle.std.proofs.Common.{[], refl}
use Rattle.wasabi_app.proofs.TaintRuns.{pair_links, opened_fit}
use Rattle.app_tests.proofs.shadows.followed.Goals as goal

pub new-requires-clause-links : goal.new-requires-clause-links
new-requires-clause-links c = pair_links c.args.m.now c.args.session.module c.args.info.now c.requires.paired c.args.script.now c.requires.range c.requires.links

pub follow_out-requires-clause-fit : goal.follow_out-requires-clause-fit
follow_out-requires-clause-fit c =
    opened_fit c.args.m.now c.args.session.module c.args.info.now c.requires.paired c.args.script.now c.requires.range c.requires.links
    (record { sources = []; sinks = [] }) [] [] c.in_ok-shadow.shadow c.args.session.script refl refl c.in_ok-shadow.ensures c.requires.script
