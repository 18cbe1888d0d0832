-- The entries of an ordered map as the rows of a book: what a row counts, and its totals.
use Rattle.std.specs.Prelude.{ℕ, ◌+◌, ◌≤◌, min, max, List, map, All}
use Rattle.std.specs.Map.{values_of}
use Rattle.analyses.specs.declared.Kind.{Kind}
use Rattle.analyses.specs.declared.Kind.TheVariants.{Blocks, Branches, Calls, Memory}
use Rattle.analyses.specs.declared.Row.{Row}
use Rattle.analyses.specs.declared.ledger.Heading.{Heading}
use Rattle.analyses.specs.declared.ledger.Totals.{Totals}
use Rattle.analyses.specs.Book.{Key}

abbrev pub key_of_heading : Heading → Key
key_of_heading h = record { func = h.func; instr = h.instr; tag = h.tag; other = h.other }

abbrev pub row_of_entry : Heading × Totals → Row
row_of_entry e = record {
  func = e.0.func;
  instr = e.0.instr;
  tag = e.0.tag;
  other = e.0.other;
  count = e.1.count;
  least = e.1.least;
  greatest = e.1.greatest;
}

abbrev pub book_of_entries : List (Heading × Totals) → List Row
book_of_entries es = map row_of_entry es

-- the totals of the first event under a heading
abbrev pub first_tally : Kind → (address : ℕ) → Totals
first_tally Memory a = record { count = 1; least = a; greatest = a }
first_tally Blocks a = record { count = 1; least = 0; greatest = 0 }
first_tally Branches a = record { count = 1; least = 0; greatest = 0 }
first_tally Calls a = record { count = 1; least = 0; greatest = 0 }

-- the totals with one more event
abbrev pub counted_tally : Kind → (address : ℕ) → Totals → Totals
counted_tally Memory a t = record { count = t.count + 1; least = min t.least a; greatest = max t.greatest a }
counted_tally Blocks a t = record t { count = t.count + 1 }
counted_tally Branches a t = record t { count = t.count + 1 }
counted_tally Calls a t = record t { count = t.count + 1 }

-- no count is above n
abbrev pub CountsUpTo : ℕ → List (Heading × Totals) → Type 0
CountsUpTo n es = All (λ (t : Totals). t.count ≤ n) (values_of es)
