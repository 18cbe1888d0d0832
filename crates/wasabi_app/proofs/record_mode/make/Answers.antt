-- A run whose trace is too long, and one that was not made.
use Rattle.std.proofs.Common.{ap, Err}
use Rattle.std.proofs.lemmas.Result.{err_from_is_err_and}
use Rattle.app_load.specs.Texts.{long_trace_text}
use Rattle.wasabi_app.proofs.Linked.{fault_within, want_of_memory, was_unlinked}
use Rattle.wasabi_app.proofs.Modes.Record.{was_long}
use Rattle.wasabi_app.proofs.record_mode.make.Goals as goal

pub returns-in_err-told-in-Ok-clause-refused : goal.returns-in_err-told-in-Ok-clause-refused
returns-in_err-told-in-Ok-clause-refused c =
    let p = err_from_is_err_and c.from_residual.result c.from_residual.ensures.1 in
    rw (p.1, p.2) (λ target at tools. want_of_memory _ at tools c.in_err-told-in-Ok.field-0.0 c.in_err-told-in-Ok.ensures.no_memory)

pub returns-in-Err-TooLong-clause-refused : goal.returns-in-Err-TooLong-clause-refused
returns-in-Err-TooLong-clause-refused c = λ target at tools.
    let l = c.in-Err-TooLong.ensures.long (ap Err c.in-Err-TooLong.field-0-is) in
    was_long target c.args.bound c.args.m.now c.args.info.now c.args.script l.0 at tools c.refused.result
    (rw c.bytes.ensures.is at c.bytes.ensures.range).1 (rw c.bytes.ensures.is at l.1)
    (c.refused.ensures (long_trace_text c.args.bound) (rw c.bytes-in-Err-TooLong.ensures.is at c.long_trace_line.ensures))

pub unlinked-requires : goal.unlinked-requires
unlinked-requires c = λ call e.
    fault_within c.args.m.now c.args.script c.in-Err-Unlinked.fault call (c.in-Err-Unlinked.ensures.refused _ (ap Err c.in-Err-Unlinked.field-0-is)) e

pub returns-in-Err-Unlinked-clause-refused : goal.returns-in-Err-Unlinked-clause-refused
returns-in-Err-Unlinked-clause-refused c = λ target at tools.
    was_unlinked c.args.m.now c.args.script c.in-Err-Unlinked.fault _ at tools c.unlinked.result
    (c.in-Err-Unlinked.ensures.refused _ (ap Err c.in-Err-Unlinked.field-0-is)) c.unlinked.ensures
