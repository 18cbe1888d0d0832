-- Trace files: a header, events, and the number of the events.
use Rattle.std.specs.Prelude.{◌≡◌, ◌⊎◌, ℕ, ◌+◌, ◌≤◌, List, [], ◌∷◌, ◌++◌, length, flat_map}
use Rattle.std.specs.List.{AllByRecursion}
use Rattle.leb_binary.specs.Shortest.{unsigned_bytes}
use Rattle.hook_select.specs.declared.Event.{Event}
use Rattle.trace_file.specs.Fields.{FitsNumber}
use Rattle.trace_file.specs.Rows.{event_bytes, FitsEvent}

-- `WTR1`
abbrev pub header : List ℕ
header = 0x57 ∷ 0x54 ∷ 0x52 ∷ 0x31 ∷ []

-- the bytes of events
abbrev pub events_bytes : List Event → List ℕ
events_bytes es = flat_map event_bytes es

-- what comes after the events: a zero byte, which is no tag, and the number of the events
abbrev pub ending : (count : ℕ) → List ℕ
ending count = 0x00 ∷ unsigned_bytes count

-- the file of `count` events that have these bytes
abbrev pub file_bytes : (events : List ℕ) → (count : ℕ) → List ℕ
file_bytes events count = header ++ (events ++ ending count)

-- the trace file of these events
abbrev pub trace_bytes : List Event → List ℕ
trace_bytes es = file_bytes (events_bytes es) (length es)

-- the bytes are the trace file of these events, which are fewer than 2^32 and have their numbers in range
pub record IsTrace (bytes : List ℕ) (es : List Event) : Type 0 where
  pub few : FitsNumber (length es)
  pub fit : AllByRecursion FitsEvent es
  pub spelled : bytes ≡ trace_bytes es

-- the bytes are the trace file of no list of events
abbrev pub IsNoTrace : (bytes : List ℕ) → Type 0
IsNoTrace bytes = (es : List Event) → IsTrace bytes es → ⊥

-- what contracts see of a writer: the most bytes that its file may have, the bytes of its events, and their number
pub record Writing : Type 0 where
  pub max : ℕ
  pub events : List ℕ
  pub count : ℕ

-- a writer that has these events
abbrev pub writing_of : (max : ℕ) → List Event → Writing
writing_of max es = record { max = max; events = events_bytes es; count = length es }

-- a writer with one more event
abbrev pub with_event : Event → Writing → Writing
with_event e w = record { max = w.max; events = w.events ++ event_bytes e; count = w.count + 1 }

-- a writer with these further events
abbrev pub with_events : List Event → Writing → Writing
with_events [] w = w
with_events (e ∷ es) w = with_events es (with_event e w)

-- the events of the writer have a file, and it is no longer than it may be
abbrev pub IsWithinBound : Writing → Type 0
IsWithinBound w = FitsNumber w.count × (length (file_bytes w.events w.count) ≤ w.max)

-- one of these events is too much for the writer, after the events before it
abbrev pub HasTooMuch : List Event → Writing → Type 0
HasTooMuch es w =
    (before : List Event) × (e : Event) × (behind : List Event) × (es ≡ before ++ e ∷ behind) × (IsWithinBound (with_event e (with_events before w)) → ⊥)

-- a file that begins with the header, and a file that does so or is still empty
abbrev pub IsBegun : List ℕ → Type 0
IsBegun file = (events : List ℕ) × (file ≡ header ++ events)

abbrev pub IsEmptyOrBegun : List ℕ → Type 0
IsEmptyOrBegun file = (file ≡ []) ⊎ IsBegun file

-- what contracts see of a reader: the bytes, how many events were read from them, and the bytes that are left
pub record TraceReading : Type 0 where
  pub bytes : List ℕ
  pub count : ℕ
  pub left : List ℕ

-- these events were read from the bytes, and what follows them is left
pub record HasRead (es : List Event) (r : TraceReading) : Type 0 where
  pub many : r.count ≡ length es
  pub fit : AllByRecursion FitsEvent es
  pub spelled : r.bytes ≡ header ++ (events_bytes es ++ r.left)
