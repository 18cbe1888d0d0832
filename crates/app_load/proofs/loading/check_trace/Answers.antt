-- A trace, bytes that are none, and want of memory.
use Rattle.std.proofs.Common.{inl, refl}
use Rattle.app_load.specs.Texts.{not_trace_text}
use Rattle.app_load.specs.Wants.{a_trace}
use Rattle.app_load.proofs.Loaded.{refused_as}
use Rattle.app_load.proofs.loading.check_trace.Goals as goal

pub returns-in-Err-NotTrace-clause-refused : goal.returns-in-Err-NotTrace-clause-refused
returns-in-Err-NotTrace-clause-refused c =
    refused_as a_trace c.args.name.now c.args.bytes.now 19 (not_trace_text c.args.name.now) _ (c.refused.ensures _ c.format.ensures.ok)
    (refl, refl, c.in-Err-NotTrace.ensures.not c.in-Err-NotTrace.field-0-is)

pub returns-in-Err-NoMemory-clause-refused : goal.returns-in-Err-NoMemory-clause-refused
returns-in-Err-NoMemory-clause-refused c = inl refl
