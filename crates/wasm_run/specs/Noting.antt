-- What the last step of a run entered, and the host call that it made.
use Rattle.std.specs.Prelude.{◌≡◌, ℕ, zero, suc, ◌<◌, ◌≤◌, List, [], ◌∷◌, ◌++◌, Option, Some, None, false}
use Rattle.wasm_sem.specs.Types.{Module}
use Rattle.wasm_sem.specs.declared.Script.{Script}
use Rattle.wasm_sem.specs.Execution.{instance, run_of, TraceItem, entry, host_call, items, chosen_items}
use Rattle.wasm_run.specs.declared.note.Entry.{Entry}
use Rattle.wasm_run.specs.declared.note.HostNote.{HostNote}
use Rattle.wasm_run.specs.declared.note.Note.{Note}
use Rattle.wasm_run.specs.declared.note.Noted.{Noted}
use Rattle.wasm_run.specs.Running.{Run}

-- ---- a note as items of a trace: an entry, and then a host call

abbrev pub entry_items : Option Entry → List TraceItem
entry_items None = []
entry_items (Some c) = entry (record { func = c.func; args = c.args }) ∷ []

abbrev pub host_items : Option HostNote → List TraceItem
host_items None = []
host_items (Some h) = host_call h.import h.args h.results h.writes.items ∷ []

abbrev pub noted_items : Note → List TraceItem
noted_items n = entry_items n.entered ++ host_items n.host

-- ---- a step

-- the entries and the host calls among items: no group is selected
abbrev pub outside_items : List TraceItem → List TraceItem
outside_items is = chosen_items (λ g. false) is

-- the entries and the host calls that the last of `made` steps added to the trace
abbrev pub last_outside : Module → Script → (made : ℕ) → List TraceItem
last_outside m s zero = []
last_outside m s (suc n) = outside_items (items (instance m s) (run_of m s n))

-- those that the next step adds
abbrev pub next_outside : Run → List TraceItem
next_outside r = last_outside r.module r.script (suc r.made)

-- the note is of the last step of the run: it has the entry and the host call that the step added to the trace, and
-- nothing else
abbrev pub IsNoteOf : Note → Run → Type 0
IsNoteOf n r = noted_items n ≡ last_outside r.module r.script r.made

-- since the step that was noted last there was nothing to note
pub record KeepsNote (n : Noted) (r : Run) : Type 0 where
  pub few : n.made ≤ r.made
  pub last_is : n.made ≡ r.made → IsNoteOf n.last r
  pub since : n.made < r.made → last_outside r.module r.script r.made ≡ []
  pub nothing_is : noted_items n.nothing ≡ []
