use Rattle.std.proofs.Common.{◌∙◌, ap, sym}
use Rattle.std.proofs.lemmas.Str.Pattern.{starts_text}
use Rattle.function_list.specs.Choices.{calls}
use Rattle.function_list.specs.Pieces.{shown}
use Rattle.function_list.proofs.mark.calls.Goals as goal

pub returns-in-Prefix : goal.returns-in-Prefix
returns-in-Prefix c =
    starts_text c.starts_with.result c.in-Prefix.front.now c.args.name.now c.starts_with.ensures.cases
    ∙ sym (ap (λ p. calls (shown p) c.args.name.now) c.in-Prefix.is)
