-- The states of analyses.
use Rattle.std.specs.Prelude.{◌≡◌, ℕ, ◌+◌, List, [], length, fold}
use Rattle.hook_select.specs.declared.Event.{Event}
use Rattle.analyses.specs.declared.Kind.{Kind}
use Rattle.analyses.specs.declared.Row.{Row}
use Rattle.analyses.specs.Book.{book, rows_after}

-- what an analysis counts, how many events it has taken, and its book
pub record ToolState : Type 0 where
  pub counts : Kind
  pub event_count : ℕ
  pub book : List Row

-- the state of an analysis that has taken no event
abbrev pub fresh_tool : Kind → ToolState
fresh_tool kind = record { counts = kind; event_count = 0; book = [] }

-- the state of an analysis that has taken these events and no other
abbrev pub tool_with : Kind → List Event → ToolState
tool_with kind es = record { counts = kind; event_count = length es; book = book kind es }

-- the state with one more event
abbrev pub state_after : ToolState → Event → ToolState
state_after s e = record { counts = s.counts; event_count = s.event_count + 1; book = rows_after s.counts s.book e }

-- taking event after event makes the state of these events
abbrev pub TakesMakeTool : Type 0
TakesMakeTool = (kind : Kind) (es : List Event) → fold state_after (fresh_tool kind) es ≡ tool_with kind es
