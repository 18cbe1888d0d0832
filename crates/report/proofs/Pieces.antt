-- What was printed piece by piece.
use Rattle.std.proofs.Common.{◌≡◌, ℕ, ◌+◌, ◌<◌, List, ◌∷◌, ◌++◌, length, drop, get_or, flat_map, Option, Some, None, Result, Ok, Err, OnErr, pos, refl, sym, ap, ◌∙◌, add-one, drop-cons, append_assoc}
use Rattle.analyses.specs.declared.Kind.{Kind}
use Rattle.analyses.specs.declared.Row.{Row}
use Rattle.report.specs.Text.{head_line, report_text, row_line}
use Rattle.outside_io.specs.Outside.{Printed, PrintedPart}

-- one piece, and then another
pub printed_then : (first second third : Option (List ℕ)) (a b : List ℕ) → Printed a first second → Printed b second third → Printed (a ++ b) first third
printed_then None None None a b one two = tt
printed_then (Some x) (Some y) (Some z) a b one two = two ∙ ap (λ v. v ++ b) one ∙ append_assoc x a b
printed_then None None (Some z) a b one two = absurd two
printed_then None (Some y) third a b one two = absurd one
printed_then (Some x) None third a b one two = absurd one
printed_then (Some x) (Some y) None a b one two = absurd two

-- one piece whole, and then a part of the next
pub printed_part_then : (first second third : Option (List ℕ)) (a b rest whole : List ℕ) → a ++ (b ++ rest) ≡ whole → Printed a first second
    → PrintedPart b second third → PrintedPart whole first third
printed_part_then first second third a b rest whole e one two =
    let (part, (more, joined), printed) = two in
    let f : (a ++ part) ++ (more ++ rest) ≡ whole =
    append_assoc a part (more ++ rest) ∙ ap (λ v. a ++ v) (sym (append_assoc part more rest) ∙ ap (λ v. v ++ rest) joined) ∙ e in
    (a ++ part, (more ++ rest, f), printed_then first second third a part one printed)

-- a front that was printed is a part
pub part_of_front : (first second : Option (List ℕ)) (a rest whole : List ℕ) → a ++ rest ≡ whole → Printed a first second → PrintedPart whole first second
part_of_front first second a rest whole e one = (a, (rest, e), one)

-- a part of a front is a part of the whole
pub part_of_longer : (first second : Option (List ℕ)) (a rest whole : List ℕ) → a ++ rest ≡ whole → PrintedPart a first second → PrintedPart whole first second
part_of_longer first second a rest whole e one =
    let (part, (more, joined), printed) = one in
    let f : part ++ (more ++ rest) ≡ whole = sym (append_assoc part more rest) ∙ ap (λ v. v ++ rest) joined ∙ e in
    (part, (more ++ rest, f), printed)

-- all but the lines of these rows was printed
abbrev pub PrintedBefore : Kind → (whole : List ℕ) → (left : List Row) → (old new : Option (List ℕ)) → Type 0
PrintedBefore kind whole left old new = (front : List ℕ) × (front ++ flat_map (row_line kind) left ≡ whole) × Printed front old new

-- the head was printed, or a part of it
pub printed_head : (kind : Kind) (rows : List Row) (old new : Option (List ℕ)) → Printed (head_line kind (length rows)) old new
    → PrintedBefore kind (report_text kind rows) rows old new
printed_head kind rows old new printed = (head_line kind (length rows), refl, printed)

pub part_of_head : (kind : Kind) (rows : List Row) (old new : Option (List ℕ)) → PrintedPart (head_line kind (length rows)) old new
    → PrintedPart (report_text kind rows) old new
part_of_head kind rows old new part =
    part_of_longer old new (head_line kind (length rows)) (flat_map (row_line kind) rows) (report_text kind rows) refl part

-- the row at a place
abbrev pub row_at : List Row → ℕ → Row
row_at rows i = get_or rows i (record { func = 0; instr = pos 0; tag = 0; other = 0; count = 0; least = 0; greatest = 0 })

-- what is left from there on
row_left : (rows : List Row) (i : ℕ) → i < length rows → drop i rows ≡ row_at rows i ∷ drop (i + 1) rows
row_left rows i within = drop-cons rows i _ within ∙ ap (λ j. row_at rows i ∷ drop j rows) (sym (add-one i))

-- a line more was printed
pub printed_row : (kind : Kind) (whole : List ℕ) (rows : List Row) (i : ℕ) (first second third : Option (List ℕ)) → i < length rows
    → PrintedBefore kind whole (drop i rows) first second → Printed (row_line kind (row_at rows i)) second third
    → PrintedBefore kind whole (drop (i + 1) rows) first third
printed_row kind whole rows i first second third within before printed =
    let row = row_line kind (row_at rows i) in
    let (front, joined, earlier) = before in
    let e : (front ++ row) ++ flat_map (row_line kind) (drop (i + 1) rows) ≡ whole =
    append_assoc front row _ ∙ ap (λ v. front ++ flat_map (row_line kind) v) (sym (row_left rows i within)) ∙ joined in
    (front ++ row, e, printed_then first second third front row earlier printed)

-- a part of a line more was printed
pub printed_row_part : (kind : Kind) (whole : List ℕ) (rows : List Row) (i : ℕ) (first second third : Option (List ℕ)) → i < length rows
    → PrintedBefore kind whole (drop i rows) first second → PrintedPart (row_line kind (row_at rows i)) second third → PrintedPart whole first third
printed_row_part kind whole rows i first second third within before part =
    let row = row_line kind (row_at rows i) in
    let (front, joined, earlier) = before in
    let e : front ++ (row ++ flat_map (row_line kind) (drop (i + 1) rows)) ≡ whole =
    ap (λ v. front ++ flat_map (row_line kind) v) (sym (row_left rows i within)) ∙ joined in
    printed_part_then first second third front row _ whole e earlier part

-- no line more was printed
pub printed_front : (kind : Kind) (whole : List ℕ) (left : List Row) (old new : Option (List ℕ)) → PrintedBefore kind whole left old new → PrintedPart whole old new
printed_front kind whole left old new before = part_of_front old new before.0 _ whole before.1 before.2

-- what holds wherever
pub on_err : {A E : Type 0} {P : Type 0} (r : Result A E) → P → OnErr r P
on_err (Ok x) h = tt
on_err (Err e) h = h
