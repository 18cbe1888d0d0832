-- How a text is printed.
use Rattle.std.specs.Prelude.{ℕ, ◌≤◌, List}
use Rattle.outside_io.specs.Outside.{Rose, Printed, PrintedPart, PrintState, OnlyPrinted}

-- What came of printing a text with one call of the sink, and the status. The status is `whole` if the whole text was
-- printed. The status is `failed` if a prefix of the text was printed and the count of faults rose. The status is 14 if
-- memory ran out, which may be before the call; then too a prefix of the text was printed.
pub data Said (text : List ℕ) (whole failed : ℕ) (old new : PrintState) : ℕ → Type 0 where
  said : Printed text old.text new.text → OnlyPrinted 1 old new → Said text whole failed old new whole
  said_part : Rose old.faults new.faults → PrintedPart text old.text new.text → OnlyPrinted 1 old new → Said text whole failed old new failed
  said_no_memory : (prints : ℕ) → prints ≤ 1 → PrintedPart text old.text new.text → OnlyPrinted prints old new → Said text whole failed old new 14
