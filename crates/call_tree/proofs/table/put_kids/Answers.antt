use Rattle.std.proofs.Common.{ap, ◌++◌, ◌∙◌, reverse, Ok}
use Rattle.std.proofs.lemmas.Iterator.Consumers.{YieldsList-at, YieldsList-from_copied}
use Rattle.std.proofs.lemmas.Iterator.Adapters.{items_from_extend}
use Rattle.call_tree.proofs.Reversed.{reversed_rest}
use Rattle.call_tree.proofs.table.put_kids.Goals as goal

pub returns : goal.returns
returns c =
    (items_from_extend {E = Unit {0}} (Ok c.in_ok-extend.field-0) c.in_ok-extend.ensures.ran
    (YieldsList-from_copied (YieldsList-at c.copied.ensures.source (reversed_rest c.values.result c.rev.ensures.source)))).0
    ∙ ap (λ l. c.args.waiting.now.items ++ reverse l) c.values.ensures.rest
