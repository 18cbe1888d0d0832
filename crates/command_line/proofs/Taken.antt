-- What the parser finds in words in their plain form.
use Rattle.std.proofs.Common.{◌≡◌, ◌∙◌, ◌||◌, Bool, true, false, true≢false, cond, refl, sym, ap, ap₂, subst, List, [], ◌∷◌, ◌++◌, map, append_assoc, append-nil, Option, Some, None, option_map, codes, is_some}
use Rattle.std.specs.Prelude.{find, flat_map, slice_get, option_and_then, unwrap_or}
use Rattle.std.specs.List.{fold, list_all}
use Rattle.std.specs.Option.{option_or, option_map_or}
use Rattle.clap.specs.Facts.{explicit_source}
use Rattle.std.specs.Str.{bytes_eq}
use Rattle.std.specs.Str.Parse.{digits_value, without_leading_plus}
use Rattle.std.proofs.lemmas.Slice.Eq.{bytes_eq-Decides}
use Rattle.clap.specs.Walk.{Rule, Row, Text, default_rows, finished, first_of, has_row, is_empty, more_values, nothing_held, reading_by, settled, walk_from, walked, with_default, Walk}
use Rattle.clap.specs.Simple.{built, entered, matches_of}
use Rattle.clap.specs.Kinds.{Kinds, or_else}
use Rattle.clap.specs.Takes.{is_given}
use Rattle.clap.specs.Faults.{check_fault, defaults_fault, entered_fault, given_default_fault, settle_fault, walk_fault}
use Rattle.clap.specs.declared.parser.matches.ValueSource.TheVariants.{DefaultValue}
use Rattle.clap.proofs.OnLiterals.{clap_on_literals}
use Rattle.clap.proofs.WalkLemmas.{both}
use Rattle.command_line.specs.Lines.{IsLine, Kind, Line, any_text, text_or, number_to, is_complete, line_at, line_by, may_have, option_named, options, unless, wasabi}
use Rattle.command_line.specs.Pairs.{AreUses, IsOption, IsValue, Says, Takes, Use, all_of, default_uses, has_option, value_given, words_with}
use Rattle.command_line.proofs.Walks.{Goes, accepted, each_has, goes, is_small, missing_row, passes_if, row_for, standing, starts, starts_well, subject_kept, taken, top}

-- ---- the defaults give no fault

abbrev are_none : Kinds → Bool
are_none [] = true
are_none (k ∷ ks) = false

abbrev is_fine : Rule → Bool
is_fine a = is_empty a.defaults || are_none (given_default_fault a a.defaults)

no_fault : (there empty : Bool) (k : Kinds) → (empty || are_none k) ≡ true → cond (there || empty) [] k ≡ []
no_fault true empty k fine = refl
no_fault false true k fine = refl
no_fault false false [] fine = refl
no_fault false false (x ∷ xs) fine = absurd (true≢false (sym fine))

defaults_pass : (rules : List Rule) (rows : List Row) → list_all is_fine rules ≡ true → defaults_fault rows rules ≡ []
unfolding clap_on_literals
defaults_pass [] rows fine = refl
defaults_pass (a ∷ more) rows fine =
    let each = both _ _ fine in
    ap (λ k. or_else k (defaults_fault (with_default rows a) more)) (no_fault (has_row a.id rows) (is_empty a.defaults) (given_default_fault a a.defaults) each.0)
    ∙ defaults_pass more (with_default rows a) each.1

are_fine : list_all is_fine top.rules ≡ true
unfolding clap_on_literals
are_fine = refl

-- ---- what is found after the defaults

abbrev is_of : Text → Row → Bool
is_of id r = bytes_eq r.id id

find_either : {A : Type 0} (p : A → Bool) (xs ys : List A) → find p (xs ++ ys) ≡ option_or (find p xs) (find p ys)
find_either p [] ys = refl
find_either p (x ∷ xs) ys = go (p x) (find_either p xs ys)
  where
    go : (b : Bool) → find p (xs ++ ys) ≡ option_or (find p xs) (find p ys) → cond b (Some x) (find p (xs ++ ys)) ≡ option_or (cond b (Some x) (find p xs)) (find p ys)
    go true more = refl
    go false more = more

-- the row that a rule's default makes
abbrev default_row : Rule → List Text → List Row
default_row a [] = []
default_row a (d ∷ ds) = record { id = a.id; values = d ∷ ds; count = None; source = Some DefaultValue; reading = reading_by a } ∷ []

abbrev default_rows_of : List Rule → List Row
default_rows_of = flat_map (λ a. default_row a a.defaults)

row_noted : (rows : List Row) (a : Rule) → has_row a.id rows ≡ false → (ds : List Text) → default_rows a.id (reading_by a) ds rows ≡ rows ++ default_row a ds
row_noted rows a new [] = sym (append-nil rows)
row_noted rows a new (d ∷ ds) = missing_row a.id (more_values DefaultValue (d ∷ ds)) (default_row a (d ∷ ds)) rows new

no_row : (id : Text) (rows : List Row) → find (is_of id) rows ≡ None → has_row id rows ≡ false
no_row id [] e = refl
no_row id (x ∷ xs) e = go (is_of id x) e (no_row id xs)
  where
    go : (b : Bool) → cond b (Some x) (find (is_of id) xs) ≡ None → (find (is_of id) xs ≡ None → has_row id xs ≡ false) → (b || has_row id xs) ≡ false
    go true e next = cc
    go false e next = next e

-- a row that is there has another id than one that is not
passed_by : (id : Text) (rows behind : List Row) (a : Rule) → has_row a.id rows ≡ true → find (is_of id) rows ≡ None → (ds : List Text)
    → find (is_of id) behind ≡ find (is_of id) (default_row a ds ++ behind)
passed_by id rows behind a there none [] = refl
passed_by id rows behind a there none (d ∷ ds) = go (bytes_eq a.id id) refl
  where
    row : Row
    row = record { id = a.id; values = d ∷ ds; count = None; source = Some DefaultValue; reading = reading_by a }

    go : (b : Bool) → bytes_eq a.id id ≡ b → find (is_of id) behind ≡ cond b (Some row) (find (is_of id) behind)
    go true same = absurd (true≢false (sym there ∙ ap (λ i. has_row i rows) ((bytes_eq-Decides a.id id).0 same) ∙ no_row id rows none))
    go false same = refl

-- the defaults are as good as behind the rows
defaulted : (id : Text) (rules : List Rule) (rows : List Row) → find (is_of id) (fold with_default rows rules) ≡ find (is_of id) (rows ++ default_rows_of rules)
defaulted id [] rows = ap (find (is_of id)) (sym (append-nil rows))
defaulted id (a ∷ more) rows = defaulted id more (with_default rows a) ∙ go (has_row a.id rows) refl (default_rows_of more)
  where
    or_else_found : (behind : List Row) → has_row a.id rows ≡ true → (o : Option Row) → find (is_of id) rows ≡ o
        → option_or o (find (is_of id) behind) ≡ option_or o (find (is_of id) (default_row a a.defaults ++ behind))
    or_else_found behind there None none = passed_by id rows behind a there none a.defaults
    or_else_found behind there (Some r) some = refl

    go : (b : Bool) → has_row a.id rows ≡ b → (behind : List Row)
        → find (is_of id) (cond b rows (default_rows a.id (reading_by a) a.defaults rows) ++ behind) ≡ find (is_of id) (rows ++ (default_row a a.defaults ++ behind))
    go true there behind =
        find_either (is_of id) rows behind ∙ or_else_found behind there (find (is_of id) rows) refl ∙ sym (find_either (is_of id) rows (default_row a a.defaults ++ behind))
    go false new behind = ap (λ rs. find (is_of id) (rs ++ behind)) (row_noted rows a new a.defaults) ∙ ap (find (is_of id)) (append_assoc rows (default_row a a.defaults) behind)

-- ---- the line of what is found

abbrev first_text : Option Row → Option Text
first_text = option_and_then (λ (r : Row). slice_get r.values 0)

abbrev value_of : Option Use → Option Text
value_of = option_map (λ (u : Use). u.value)

-- a mode, a subject, options, and defaults
abbrev with_defaults : (mode subject : Text) → List Use → List Use
with_defaults mode subject uses = all_of mode subject uses ++ flat_map default_uses options

abbrev row_by_default : Use → Row
row_by_default u = record (row_for u) { source = Some DefaultValue }

either_text : (b : Bool) (r : Row) (u : Use) (rows : Option Row) (uses : Option Use) → first_text (Some r) ≡ Some u.value → first_text rows ≡ value_of uses
    → first_text (cond b (Some r) rows) ≡ value_of (cond b (Some u) uses)
either_text true r u rows uses here more = here
either_text false r u rows uses here more = more

texts_found : (id : Text) (xs ys : List Use) → first_text (find (is_of id) (map row_for xs ++ map row_by_default ys)) ≡ value_given (xs ++ ys) id
texts_found id [] [] = refl
texts_found id [] (y ∷ ys) = either_text (bytes_eq y.id id) (row_by_default y) y _ _ refl (texts_found id [] ys)
texts_found id (x ∷ xs) ys = either_text (bytes_eq x.id id) (row_for x) x _ _ refl (texts_found id xs ys)

text_found : (uses : List Use) (id : Text) → first_of id (fold with_default (map row_for uses) top.rules) ≡ value_given (uses ++ flat_map default_uses options) id
unfolding clap_on_literals
text_found uses id = ap first_text (defaulted id top.rules (map row_for uses)) ∙ texts_found id uses (flat_map default_uses options)

-- ---- each argument has what it must have

taken_fits : (kind : Kind) (v : Text) → is_small kind ≡ true → Takes kind v → may_have kind (Some v) ≡ true
taken_fits any_text v small takes = refl
taken_fits (text_or d) v small takes = refl
taken_fits (number_to most d) v small takes =
    ap (λ b. is_some (cond b (Some (digits_value 10 (without_leading_plus v))) None)) (accepted most takes.0 v small takes.1)

-- an option that was found takes its value
option_in : (before uses : List Use) → AreUses before uses → (id : Text) (u : Use) → find (λ w. bytes_eq w.id id) uses ≡ Some u
    → (u.id ≡ id) × IsOption (option_named u.id) u.value
option_in before [] are id u e = cc
option_in before (n ∷ ns) are id u e = go (bytes_eq n.id id) refl e (option_in (before ++ n ∷ []) ns are.3 id u)
  where
    go : (b : Bool) → bytes_eq n.id id ≡ b → cond b (Some n) (find (λ w. bytes_eq w.id id) ns) ≡ Some u
        → (find (λ w. bytes_eq w.id id) ns ≡ Some u → (u.id ≡ id) × IsOption (option_named u.id) u.value) → (u.id ≡ id) × IsOption (option_named u.id) u.value
    go true s e next =
        let same : n ≡ u = ap (λ o. unwrap_or o n) e in
        subst (λ (w : Use). (w.id ≡ id) × IsOption (option_named w.id) w.value) same ((bytes_eq-Decides n.id id).0 s, are.0)
    go false s e next = next e

-- what is known of an option, by which it has its value or its default
abbrev Facts : Type 0
Facts = Option (Text × Kind) × Bool × Bool × Bool × Bool

abbrev facts_of : Text × Kind → Facts
facts_of o = (option_named o.0, bytes_eq (codes "mode") o.0, bytes_eq (codes "subject") o.0, is_small o.1, may_have o.1 (value_given (flat_map default_uses options) o.0))

abbrev facts_wanted : Text × Kind → Facts
facts_wanted o = (Some o, false, false, true, true)

has_value : (mode subject : Text) (uses : List Use) → AreUses [] uses → (o : Text × Kind) → facts_of o ≡ facts_wanted o
    → may_have o.1 (value_given (with_defaults mode subject uses) o.0) ≡ true
has_value mode subject uses are o facts =
    let no_mode : bytes_eq (codes "mode") o.0 ≡ false = ap (λ (f : Facts). f.1) facts in
    let no_subject : bytes_eq (codes "subject") o.0 ≡ false = ap (λ (f : Facts). f.2) facts in
    let p = λ (u : Use). bytes_eq u.id o.0 in
    let m : Use = record { id = codes "mode"; value = mode } in
    let s : Use = record { id = codes "subject"; value = subject } in
    let behind : find p (with_defaults mode subject uses) ≡ option_or (find p uses) (find p (flat_map default_uses options)) =
    ap₂ (λ a b. cond a (Some m) (cond b (Some s) (find p (uses ++ flat_map default_uses options)))) no_mode no_subject ∙ find_either p uses (flat_map default_uses options) in
    ap (λ f. may_have o.1 (value_of f)) behind ∙ go (find p uses) refl
  where
    go : (f : Option Use) → find (λ u. bytes_eq u.id o.0) uses ≡ f → may_have o.1 (value_of (option_or f (find (λ u. bytes_eq u.id o.0) (flat_map default_uses options)))) ≡ true
    go None e = ap (λ (f : Facts). f.4) facts
    go (Some u) e =
        let in_uses = option_in [] uses are o.0 u e in
        let takes : Takes o.1 u.value = subst (λ f. IsOption f u.value) (ap option_named in_uses.0 ∙ ap (λ (f : Facts). f.0) facts) in_uses.1 in
        taken_fits o.1 u.value (ap (λ (f : Facts). f.3) facts) takes

complete : (mode subject : Text) (uses : List Use) → AreUses [] uses → is_complete (value_given (with_defaults mode subject uses)) ≡ true
complete mode subject uses are = each_has facts_of facts_wanted (λ o. may_have o.1 (value_given (with_defaults mode subject uses) o.0)) (has_value mode subject uses are) options refl

-- ---- the whole parse

gone : (mode subject : Text) (uses : List Use) → IsValue mode → IsValue subject → AreUses (all_of mode subject []) uses
    → Goes (standing (row_for (record { id = codes "mode"; value = mode }) ∷ []) (record { id = codes "subject"; value = subject })) (all_of mode subject uses) (words_with uses)
gone mode subject uses m s are =
    goes (record { id = codes "mode"; value = mode } ∷ []) (record { id = codes "subject"; value = subject }) uses
    (passes_if (record { id = codes "mode"; value = mode } ∷ []) (record { id = codes "subject"; value = subject }) (subject_kept subject) refl) are

widened : (mode subject : Text) (before uses : List Use) → AreUses before uses → AreUses (all_of mode subject before) uses
widened mode subject before [] are = tt
widened mode subject before (u ∷ us) are =
    let other = (taken u.id u.value are.0).known in
    (are.0, are.1, ap₂ (λ a b. a || (b || has_option before u.id)) other.no_mode other.no_subject ∙ are.2, widened mode subject (before ++ u ∷ []) us are.3)

-- what is required is there
checked : (mode subject : Text) (uses : List Use) → check_fault top (fold with_default (map row_for (all_of mode subject uses)) top.rules) false ≡ []
unfolding clap_on_literals
checked mode subject uses =
    let found = fold with_default (map row_for (all_of mode subject uses)) top.rules in
    let mode_there : is_given (codes "mode") found ≡ true = ap (λ (o : Option Row). option_map_or (λ r. explicit_source r.source) o false) (defaulted (codes "mode") top.rules (map row_for (all_of mode subject uses))) in
    let subject_there : is_given (codes "subject") found ≡ true = ap (λ (o : Option Row). option_map_or (λ r. explicit_source r.source) o false) (defaulted (codes "subject") top.rules (map row_for (all_of mode subject uses))) in
    rw (mode_there, subject_there) refl

-- the faults of a parse, by where its walk ends and by the faults of the walk
abbrev ended : Walk → Kinds → Kinds
ended w found =
    or_else found (or_else (entered_fault (built wasabi) w.stopped) (or_else (settle_fault top.rules false w.held)
    (or_else (defaults_fault (settled top.rules w.held).rows top.rules) (check_fault top (finished top.rules w.held) (is_some (entered (built wasabi) w.stopped))))))

pub pairs_say : (program mode subject : Text) (uses : List Use) → IsValue mode → IsValue subject → AreUses [] uses
    → (line : Line) × IsLine (program ∷ mode ∷ subject ∷ words_with uses) line × Says mode subject uses line
unfolding clap_on_literals
pairs_say program mode subject uses m s are =
    let g = gone mode subject uses m s (widened mode subject [] uses are) in
    let words = mode ∷ subject ∷ words_with uses in
    let final = standing (map row_for g.before) g.last in
    let stand : fold (walked top.rules []) (walk_from nothing_held) words ≡ final = ap (λ w. fold (walked top.rules []) w (words_with uses)) (starts mode subject m s) ∙ g.end in
    let faultless : walk_fault top [] (walk_from nothing_held) words ≡ [] = starts_well mode subject m s (words_with uses) ∙ g.no_fault in
    let ends : ended final [] ≡ [] =
    ap (λ k. or_else k (or_else (defaults_fault (settled top.rules final.held).rows top.rules) (check_fault top (finished top.rules final.held) false))) g.fault
    ∙ ap (λ k. or_else k (check_fault top (finished top.rules final.held) false)) (defaults_pass top.rules (settled top.rules final.held).rows are_fine)
    ∙ ap (λ rs. check_fault top (fold with_default rs top.rules) false) g.rows ∙ checked mode subject uses in
    let rows : matches_of wasabi (program ∷ words) ≡ fold with_default (map row_for (all_of mode subject uses)) top.rules =
    ap (λ (w : Walk). finished top.rules w.held) stand ∙ ap (λ rs. fold with_default rs top.rules) g.rows in
    let value = value_given (with_defaults mode subject uses) in
    let texts : (λ id. first_of id (matches_of wasabi (program ∷ words))) ≡ value = ap (λ rs id. first_of id rs) rows ∙ (λ i id. text_found (all_of mode subject uses) id i) in
    let says : line_by value ≡ Some (line_at value) = ap (λ b. cond b (Some (line_at value)) None) (complete mode subject uses are) in
    (line_at value, ap₂ unless (ap₂ ended stand faultless ∙ ends) (ap line_by texts ∙ says), says)
