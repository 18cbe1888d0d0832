use Rattle.std.proofs.Common.{◌∙◌, ap, arith, sym}
use Rattle.command_line.specs.Lines.{number_in}
use Rattle.command_line.proofs.Parsed.{no_number, parsed_number}
use Rattle.command_line.proofs.words.number_in.Goals as goal

pub returns-in-Ok-clause-number : goal.returns-in-Ok-clause-number
returns-in-Ok-clause-number c =
    sym (parsed_number c.args.most c.in-Ok.number c.in_ok-text_in.field-0.now c.in-Ok.ensures.value.0 (omega (arith, c.if-number-ge1.true)) (omega (arith, c.if-number-most.true)))
    ∙ ap (number_in c.args.most) c.in_ok-text_in.ensures

pub returns-in_default-3-clause-number : goal.returns-in_default-3-clause-number
returns-in_default-3-clause-number c = sym (no_number c.args.most c.in_ok-text_in.field-0.now c.in_default.ensures.value.0) ∙ ap (number_in c.args.most) c.in_ok-text_in.ensures
