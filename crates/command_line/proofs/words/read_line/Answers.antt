use Rattle.std.proofs.Common.{◌∙◌, IfOk, IsErrOf, ap, inl, inr, subst, sym}
use Rattle.clap.specs.Words.{IsAmong, fault_of, first_of, is_simple, is_simple_and_free, kind_of, matches_of}
use Rattle.command_line.specs.Lines.{IsLine, line_by, line_of, texts}
use Rattle.command_line.specs.declared.words.LineFault.TheVariants.{Refused}
use Rattle.command_line.proofs.Parsed.{line_read, none_read, none_with, same_error, wasabi_is_free, wasabi_is_simple}
use Rattle.command_line.proofs.words.read_line.Goals as goal

pub returns-in-Err-clause-refused : goal.returns-in-Err-clause-refused
returns-in-Err-clause-refused c =
    let words = texts c.args.words.now in
    let is = c.in_ok-wasabi.ensures in
    λ refused. elim (c.in-Err.ensures.kinds (ap is_simple_and_free is ∙ wasabi_is_free)) [
      | inl memory ↦ absurd (c.fault_of.ensures (same_error c.fault_of.result Refused refused) memory)
      | inr among ↦ none_with (kind_of c.in-Err.error) _ _ (subst (IsAmong (kind_of c.in-Err.error)) (ap (λ app. fault_of app words) is) among)
    ]

pub returns-clause-line : goal.returns-clause-line
returns-clause-line c =
    let words = texts c.args.words.now in
    let is = c.in_ok-wasabi.ensures in
    let taken = sym (ap (λ app. fault_of app words) is) ∙ c.in-Ok.ensures.kinds (ap is_simple_and_free is ∙ wasabi_is_free) in
    let found = (c.in-Ok.ensures.matches (ap is_simple is ∙ wasabi_is_simple)).0 ∙ ap (λ app. matches_of app words) is in
    subst (λ r. IfOk r (λ line. IsLine words (line_of line))) (sym c.ok_or.ensures.value)
    (line_read c.line_in.result _ _ (c.line_in.ensures.line ∙ ap (λ rows. line_by (λ id. first_of id rows)) found) taken)

pub returns-clause-refused : goal.returns-clause-refused
returns-clause-refused c =
    let words = texts c.args.words.now in
    let is = c.in_ok-wasabi.ensures in
    let taken = sym (ap (λ app. fault_of app words) is) ∙ c.in-Ok.ensures.kinds (ap is_simple_and_free is ∙ wasabi_is_free) in
    let found = (c.in-Ok.ensures.matches (ap is_simple is ∙ wasabi_is_simple)).0 ∙ ap (λ app. matches_of app words) is in
    λ refused. none_read c.line_in.result _ _ (c.line_in.ensures.line ∙ ap (λ rows. line_by (λ id. first_of id rows)) found) taken (subst (λ r. IsErrOf r Refused) c.ok_or.ensures.value refused)
