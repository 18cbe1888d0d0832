-- A sign in front, or what `parse` reads.
use Rattle.std.proofs.Common.{◌∙◌, sym, arith}
use Rattle.wasabi_app.proofs.TrialNumbers.{number_read, plus_is_none}
use Rattle.wasabi_app.proofs.trial_mode.number_in.Goals as goal

pub returns-then-starts_with : goal.returns-then-starts_with
returns-then-starts_with c =
    let byte = c.starts_with.ensures.byte (omega arith) (omega arith) (λ w o h. h) in
    plus_is_none c.args.text.now (sym (rw (c.if-starts_with.true) at byte))

pub returns : goal.returns
returns c =
    let byte = c.starts_with.ensures.byte (omega arith) (omega arith) (λ w o h. h) in
    c.ok.ensures.value ∙ number_read c.args.text.now c.parse.result c.parse.ensures.value.0 (sym (rw (c.if-starts_with.false) at byte))
