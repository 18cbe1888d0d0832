-- What holds of trace files: which lists of events have one, that a file has one list of events, and what writers write.
use Rattle.std.specs.Prelude.{◌≡◌, ℕ, List, [], ◌∷◌, ◌++◌, length}
use Rattle.std.specs.List.{AllByRecursion}
use Rattle.hook_select.specs.declared.Event.{Event}
use Rattle.trace_file.specs.Fields.{FitsNumber}
use Rattle.trace_file.specs.Files.{trace_bytes, file_bytes, IsTrace, IsWithinBound, writing_of, with_event}
use Rattle.trace_file.specs.Rows.{FitsEvent}

-- fewer than 2^32 events whose numbers are of their sizes have a trace file
abbrev pub EventsHaveTraces : Type 0
EventsHaveTraces = (es : List Event) → FitsNumber (length es) → AllByRecursion FitsEvent es → IsTrace (trace_bytes es) es

-- no two lists of events have the same trace file
abbrev pub TracesTellEvents : Type 0
TracesTellEvents = (bytes : List ℕ) (es fs : List Event) → IsTrace bytes es → IsTrace bytes fs → es ≡ fs

-- a writer that has some events and gets one more is a writer that has all of them
abbrev pub WritersGoOn : Type 0
WritersGoOn = (max : ℕ) (es : List Event) (e : Event) → with_event e (writing_of max es) ≡ writing_of max (es ++ e ∷ [])

-- the file that a writer finishes is the trace file of its events
abbrev pub WritersWriteTraces : Type 0
WritersWriteTraces = (max : ℕ) (es : List Event) → file_bytes (writing_of max es).events (writing_of max es).count ≡ trace_bytes es

-- if the trace file of events is no longer than it may be, neither is the trace file of the first few of them
abbrev pub FirstEventsFit : Type 0
FirstEventsFit = (max : ℕ) (es more : List Event) → IsWithinBound (writing_of max (es ++ more)) → IsWithinBound (writing_of max es)
