-- How the parser goes over words in their plain form.
use Rattle.std.proofs.Common.{◌≡◌, ◌≢◌, ◌∙◌, ◌||◌, ◌&&◌, ◌==◌, nat_lt, ◌<◌, ◌≤◌, ◌^◌, arith, subst, append_assoc, ℕ, Bool, true, false, true≢false, cond, refl, sym, ap, ap₂, List, [], ◌∷◌, ◌++◌, map, append-nil, Option, Some, None, codes}
use Rattle.std.specs.Prelude.{find}
use Rattle.std.specs.List.{fold, list_all}
use Rattle.std.specs.Str.{bytes_eq}
use Rattle.std.proofs.lemmas.Bool.{ltb-true, ne_eqb}
use Rattle.std.proofs.lemmas.List.{map-append}
use Rattle.std.proofs.lemmas.Slice.Eq.{bytes_eq-Decides}
use Rattle.clap.specs.Lexer.{long_of_rest}
use Rattle.clap.specs.Walk.{Row, Rule, Text, Walk, arg_by_id, arg_by_long, at_row, has_row, idle, more_values, nothing_held, option, without, settled_rows, walk_from, walked, with_values}
use Rattle.clap.specs.Simple.{Shape, built, filled}
use Rattle.clap.specs.Kinds.{or_else}
use Rattle.clap.specs.Faults.{settle_fault, turn_fault, walk_fault}
use Rattle.clap.specs.declared.parser.matches.ValueSource.TheVariants.{CommandLine}
use Rattle.clap.specs.declared.builder.value_parser.Reading.TheVariants as reading
use Rattle.clap.proofs.ValueTestLemmas.{Accepts-accepts}
use Rattle.clap.specs.ValueTests.{accepts}
use Rattle.clap.specs.declared.builder.value_parser.ValueParser.TheVariants as parser
use Rattle.clap.proofs.OnLiterals.{clap_on_literals}
use Rattle.command_line.specs.Lines.{Kind, any_text, text_or, number_to, option_named, option_rule, options, wasabi}
use Rattle.command_line.specs.Pairs.{AreUses, IsOption, IsValue, Takes, Use, WritesNumber, has_option, words_with}

abbrev pub top : Shape
top = (built wasabi).top

-- ---- what is so of each option

head_same : {B : Type 0} (a b : B) (xs ys : List B) → a ∷ xs ≡ b ∷ ys → (a ≡ b) × (xs ≡ ys)
head_same a b xs ys e = (cc, cc)

none_some : {A : Type 0} (x : A) → None ≡ Some x → ⊥
none_some x e = cc

-- what is found in a list passes the test, and has what each element has
found_has : {A B : Type 0} (p : A → Bool) (f g : A → B) (xs : List A) (x : A) → find p xs ≡ Some x → map f xs ≡ map g xs → (p x ≡ true) × (f x ≡ g x)
found_has p f g [] x e same = cc
found_has {A} {B} p f g (y ∷ ys) x e same =
    let parts = head_same (f y) (g y) (map f ys) (map g ys) same in
    go (p y) refl e (λ there. found_has p f g ys x there parts.1)
  where
    go : (b : Bool) → p y ≡ b → cond b (Some y) (find p ys) ≡ Some x → (find p ys ≡ Some x → (p x ≡ true) × (f x ≡ g x)) → (p x ≡ true) × (f x ≡ g x)
    go true is here more =
        let one : y ≡ x = cc in
        subst (λ z. (p z ≡ true) × (f z ≡ g z)) one (is, (head_same (f y) (g y) (map f ys) (map g ys) same).0)
    go false is here more = more here

-- what follows of each element
pub each_has : {A B : Type 0} (f g : A → B) (q : A → Bool) → ((x : A) → f x ≡ g x → q x ≡ true) → (xs : List A) → map f xs ≡ map g xs → list_all q xs ≡ true
each_has f g q each [] same = refl
each_has f g q each (x ∷ xs) same =
    let parts = head_same (f x) (g x) (map f xs) (map g xs) same in
    ap₂ (λ a b. a && b) (each x parts.0) (each_has f g q each xs parts.1)

-- an option's rule, as building fills it in
abbrev pub made : Text × Kind → Rule
made o = filled (option_rule o)

abbrev pub is_small : Kind → Bool
is_small (number_to most default) = nat_lt most (2 ^ 64)
is_small _ = true

-- the parser finds an option by its name, which is that of no other argument, and is written with two hyphens before it
pub record IsKnown (o : Text × Kind) : Type 0 where
  pub by_id : arg_by_id top.rules o.0 ≡ Some (made o)
  pub by_long : arg_by_long top.rules o.0 ≡ Some (made o)
  pub long : long_of_rest o.0 ≡ Some (o.0, None)
  pub same : bytes_eq o.0 o.0 ≡ true
  pub no_mode : bytes_eq (codes "mode") o.0 ≡ false
  pub no_subject : bytes_eq (codes "subject") o.0 ≡ false
  pub small : is_small o.1 ≡ true

-- an option with a value that it takes
pub record IsTaken (id v : Text) : Type 0 where
  pub kind : Kind
  pub named : option_named id ≡ Some (id, kind)
  pub takes : Takes kind v
  pub known : IsKnown (id, kind)

known : (id : Text) (o : Text × Kind) → option_named id ≡ Some o → (o.0 ≡ id) × IsKnown o
known id o e =
    let fact = λ (B : Type 0) (f g : Text × Kind → B) (same : map f options ≡ map g options). found_has (λ (r : Text × Kind). bytes_eq r.0 id) f g options o e same in (
      (bytes_eq-Decides o.0 id).0 (fact Bool (λ _. true) (λ _. true) refl).0,
      record {
        by_id = (fact (Option Rule) (λ r. arg_by_id top.rules r.0) (λ r. Some (made r)) refl).1;
        by_long = (fact (Option Rule) (λ r. arg_by_long top.rules r.0) (λ r. Some (made r)) refl).1;
        long = (fact (Option (Text × Option Text)) (λ r. long_of_rest r.0) (λ r. Some (r.0, None)) refl).1;
        same = (fact Bool (λ r. bytes_eq r.0 r.0) (λ _. true) refl).1;
        no_mode = (fact Bool (λ r. bytes_eq (codes "mode") r.0) (λ _. false) refl).1;
        no_subject = (fact Bool (λ r. bytes_eq (codes "subject") r.0) (λ _. false) refl).1;
        small = (fact Bool (λ r. is_small r.1) (λ _. true) refl).1;
      },
    )

pub taken : (id v : Text) → IsOption (option_named id) v → IsTaken id v
taken id v is = go (option_named id) refl is
  where
    go : (found : Option (Text × Kind)) → option_named id ≡ found → IsOption found v → IsTaken id v
    go None e is = absurd is
    go (Some (name, kind)) e takes =
        let facts = known id (name, kind) e in
        let one : name ≡ id = facts.0 in
        record {
          kind = kind;
          named = e ∙ ap (λ (i : Text). Some (i, kind)) one;
          takes = takes;
          known = subst (λ (i : Text). IsKnown (i, kind)) one facts.1;
        }

-- ---- the words

-- what is found for a use
abbrev pub row_for : Use → Row
row_for u = record { id = u.id; values = u.value ∷ []; count = None; source = Some CommandLine; reading = reading.AsWritten }

-- between two pairs: some uses are done, and the last one is still to be noted
abbrev pub standing : List Row → Use → Walk
standing rows u = record {
  held = record { rows = rows; pending = Some (u.id, u.value ∷ []); skip = 0 };
  waiting = idle;
  position = 3;
  is_trailing = false;
  stopped = None;
}

not_dash : (b : ℕ) → b ≢ 45 → (b == 45) ≡ false
not_dash b h = ne_eqb b 45 h

-- behind the first word
abbrev begun : Text → Walk
begun mode = record {
  held = record { rows = []; pending = Some (codes "mode", mode ∷ []); skip = 0 };
  waiting = idle;
  position = 2;
  is_trailing = false;
  stopped = None;
}

first_word : (mode : Text) → IsValue mode → walked top.rules [] (walk_from nothing_held) mode ≡ begun mode
unfolding clap_on_literals
first_word [] m = absurd m
first_word (b ∷ bs) m = let e = not_dash b m in rw e (rw e refl)

second_word : (mode subject : Text) → IsValue subject
    → walked top.rules [] (begun mode) subject ≡ standing (row_for (record { id = codes "mode"; value = mode }) ∷ []) (record { id = codes "subject"; value = subject })
unfolding clap_on_literals
second_word mode [] s = absurd s
second_word mode (d ∷ ds) s = let e = not_dash d s in rw e (rw e refl)

-- the first two words
pub starts : (mode subject : Text) → IsValue mode → IsValue subject
    → walked top.rules [] (walked top.rules [] (walk_from nothing_held) mode) subject ≡ standing (row_for (record { id = codes "mode"; value = mode }) ∷ []) (record { id = codes "subject"; value = subject })
starts mode subject m s = ap (λ w. walked top.rules [] w subject) (first_word mode m) ∙ second_word mode subject s

first_turn : (mode : Text) → IsValue mode → turn_fault top [] (walk_from nothing_held) mode ≡ []
unfolding clap_on_literals
first_turn [] m = absurd m
first_turn (b ∷ bs) m = let e = not_dash b m in rw e (rw e refl)

second_turn : (mode subject : Text) → IsValue subject → turn_fault top [] (begun mode) subject ≡ []
unfolding clap_on_literals
second_turn mode [] s = absurd s
second_turn mode (d ∷ ds) s = let e = not_dash d s in rw e (rw e refl)

pub starts_well : (mode subject : Text) → IsValue mode → IsValue subject → (rest : List Text)
    → walk_fault top [] (walk_from nothing_held) (mode ∷ subject ∷ rest)
    ≡ walk_fault top [] (standing (row_for (record { id = codes "mode"; value = mode }) ∷ []) (record { id = codes "subject"; value = subject })) rest
unfolding clap_on_literals
starts_well mode subject m s rest =
    let second = ap (λ w. turn_fault top [] w subject) (first_word mode m) ∙ second_turn mode subject s in
    ap₂ (λ a b. or_else a (or_else b (walk_fault top [] (walked top.rules [] (walked top.rules [] (walk_from nothing_held) mode) subject) rest))) (first_turn mode m) second
    ∙ ap (λ w. walk_fault top [] w rest) (starts mode subject m s)

-- ---- an option and its value

-- behind the name of an option
abbrev named : List Rule → List Row → Use → (id : Text) → Walk
named c rows u id = record {
  held = record { rows = settled_rows c (Some (u.id, u.value ∷ [])) rows; pending = Some (id, []); skip = 0 };
  waiting = option id;
  position = 3;
  is_trailing = false;
  stopped = None;
}

module _ (s : Shape) (o : Text × Kind) (by_id : arg_by_id s.rules o.0 ≡ Some (made o)) (by_long : arg_by_long s.rules o.0 ≡ Some (made o))
    (long : long_of_rest o.0 ≡ Some (o.0, None)) (same : bytes_eq o.0 o.0 ≡ true) (rows : List Row) (u : Use) where
  at_name : walked s.rules [] (standing rows u) (45 ∷ 45 ∷ o.0) ≡ named s.rules rows u o.0
  unfolding clap_on_literals
  at_name = go o.0 refl
    where
      go : (id : Text) → o.0 ≡ id → walked s.rules [] (standing rows u) (45 ∷ 45 ∷ o.0) ≡ named s.rules rows u o.0
      go [] e = absurd (none_some (o.0, None) (sym (ap long_of_rest e) ∙ long))
      go (x ∷ xs) e = rw (ap (λ i. bytes_eq i []) e, long, by_long) refl

  at_value : (v : Text) → IsValue v → walked s.rules [] (named s.rules rows u o.0) v ≡ standing (settled_rows s.rules (Some (u.id, u.value ∷ [])) rows) (record { id = o.0; value = v })
  unfolding clap_on_literals
  at_value [] h = absurd h
  at_value (b ∷ bs) h = let e = not_dash b h in rw e (rw e (rw (by_id, same) refl))

  name_fault : turn_fault s [] (standing rows u) (45 ∷ 45 ∷ o.0) ≡ or_else (settle_fault s.rules s.args_override_self (standing rows u).held) []
  unfolding clap_on_literals
  name_fault = go o.0 refl
    where
      go : (id : Text) → o.0 ≡ id → turn_fault s [] (standing rows u) (45 ∷ 45 ∷ o.0) ≡ or_else (settle_fault s.rules s.args_override_self (standing rows u).held) []
      go [] e = absurd (none_some (o.0, None) (sym (ap long_of_rest e) ∙ long))
      go (x ∷ xs) e = rw (ap (λ i. bytes_eq i []) e, long, by_long) refl

  value_fault : (v : Text) → IsValue v → turn_fault s [] (named s.rules rows u o.0) v ≡ []
  unfolding clap_on_literals
  value_fault [] h = absurd h
  value_fault (b ∷ bs) h = let e = not_dash b h in rw e (rw e refl)

-- how a use is noted, if it has not been used before
pub record Kept (id v : Text) : Type 0 where
  rows : (rows : List Row) → has_row id rows ≡ false → settled_rows top.rules (Some (id, v ∷ [])) rows ≡ rows ++ row_for (record { id = id; value = v }) ∷ []
  fault : (rows : List Row) → has_row id rows ≡ false → settle_fault top.rules false (standing rows (record { id = id; value = v })).held ≡ []

pub missing_row : (id : Text) (change : Row → List Row) (missing rows : List Row) → has_row id rows ≡ false → at_row id change missing rows ≡ rows ++ missing
missing_row id change missing [] h = refl
missing_row id change missing (r ∷ rs) h = go (bytes_eq r.id id) h (missing_row id change missing rs)
  where
    go : (b : Bool) → (b || has_row id rs) ≡ false → (has_row id rs ≡ false → at_row id change missing rs ≡ rs ++ missing)
        → cond b (change r ++ rs) (r ∷ at_row id change missing rs) ≡ r ∷ (rs ++ missing)
    go true e more = absurd (true≢false e)
    go false e more = ap (λ l. r ∷ l) (more e)

noted : (id v : Text) (rows : List Row) → has_row id rows ≡ false
    → with_values id reading.AsWritten CommandLine (v ∷ []) (without id rows) ≡ rows ++ row_for (record { id = id; value = v }) ∷ []
noted id v rows h =
    let none : without id rows ≡ rows = missing_row id (λ _. []) [] rows h ∙ append-nil rows in
    rw none (missing_row id (more_values CommandLine (v ∷ [])) (row_for (record { id = id; value = v }) ∷ []) rows h)

pub accepted : (most n : ℕ) (v : Text) → nat_lt most (2 ^ 64) ≡ true → WritesNumber most v n → accepts false (parser.Unsigned 1 most) v ≡ true
accepted most n v small is =
    let below : most < 2 ^ 64 = ltb-true _ _ small in
    Accepts-accepts false (parser.Unsigned 1 most) v
    (is.numeral, omega (arith, is.value, is.at_most, below), subst (λ k. 1 ≤ k) is.value is.least, subst (λ k. k ≤ most) is.value is.at_most)

-- a rule that notes its value as it is written
kept_by : (c : List Rule) (kind : Kind) (id v : Text) → arg_by_id c id ≡ Some (made (id, kind)) → is_small kind ≡ true → Takes kind v → (rows : List Row) → has_row id rows ≡ false
    → (settled_rows c (Some (id, v ∷ [])) rows ≡ rows ++ row_for (record { id = id; value = v }) ∷ []) × (settle_fault c false (standing rows (record { id = id; value = v })).held ≡ [])
kept_by c any_text id v found small takes rows h = (rw found (noted id v rows h), rw (found, h) refl)
kept_by c (text_or d) id v found small takes rows h = (rw found (noted id v rows h), rw (found, h) refl)
kept_by c (number_to most d) id v found small takes rows h = (rw found (noted id v rows h), rw (found, h, accepted most takes.0 v small takes.1) refl)

pub option_kept : (id v : Text) → IsTaken id v → Kept id v
option_kept id v is = record {
  rows = λ rows h. (kept_by top.rules is.kind id v is.known.by_id is.known.small is.takes rows h).0;
  fault = λ rows h. (kept_by top.rules is.kind id v is.known.by_id is.known.small is.takes rows h).1;
}

pub subject_kept : (v : Text) → Kept (codes "subject") v
unfolding clap_on_literals
subject_kept v = record { rows = λ rows h. noted (codes "subject") v rows h; fault = λ rows h. rw h refl }

has_rows : (uses : List Use) (id : Text) → has_row id (map row_for uses) ≡ has_option uses id
has_rows [] id = refl
has_rows (u ∷ us) id = ap (λ b. bytes_eq u.id id || b) (has_rows us id)

-- the last use will be noted behind those before it
pub record Passes (before : List Use) (u : Use) : Type 0 where
  pub rows : settled_rows top.rules (Some (u.id, u.value ∷ [])) (map row_for before) ≡ map row_for (before ++ u ∷ [])
  pub fault : settle_fault top.rules false (standing (map row_for before) u).held ≡ []

pub passes_if : (before : List Use) (u : Use) → Kept u.id u.value → has_option before u.id ≡ false → Passes before u
passes_if before u kept new =
    let absent = has_rows before u.id ∙ new in
    record {
      rows = kept.rows (map row_for before) absent ∙ sym (map-append row_for before (u ∷ []));
      fault = kept.fault (map row_for before) absent;
    }

-- where the walk stands behind all the pairs
pub record Goes (start : Walk) (all : List Use) (words : List Text) : Type 0 where
  pub before : List Use
  pub last : Use
  pub rows : settled_rows top.rules (Some (last.id, last.value ∷ [])) (map row_for before) ≡ map row_for all
  pub fault : settle_fault top.rules false (standing (map row_for before) last).held ≡ []
  pub end : fold (walked top.rules []) start words ≡ standing (map row_for before) last
  pub no_fault : walk_fault top [] start words ≡ []

pub goes : (before : List Use) (u : Use) (uses : List Use) → Passes before u → AreUses (before ++ u ∷ []) uses
    → Goes (standing (map row_for before) u) (before ++ u ∷ uses) (words_with uses)
unfolding clap_on_literals
goes before u [] passes are =
    record { before = before; last = u; rows = passes.rows; fault = passes.fault; end = refl; no_fault = refl }
goes before u (n ∷ ns) passes are =
    let is = taken n.id n.value are.0 in
    let o : Text × Kind = (n.id, is.kind) in
    let k = is.known in
    let rest = goes (before ++ u ∷ []) n ns (passes_if (before ++ u ∷ []) n (option_kept n.id n.value is) are.2) are.3 in
    let rows = map row_for before in
    let name = at_name top o k.by_id k.by_long k.long k.same rows u in
    let value : walked top.rules [] (named top.rules rows u n.id) n.value ≡ standing (map row_for (before ++ u ∷ [])) n =
    at_value top o k.by_id k.by_long k.long k.same rows u n.value are.1 ∙ ap (λ r. standing r n) passes.rows in
    let here : walked top.rules [] (walked top.rules [] (standing rows u) (45 ∷ 45 ∷ n.id)) n.value ≡ standing (map row_for (before ++ u ∷ [])) n =
    ap (λ w. walked top.rules [] w n.value) name ∙ value in
    let first : turn_fault top [] (standing rows u) (45 ∷ 45 ∷ n.id) ≡ [] = name_fault top o k.by_id k.by_long k.long k.same rows u ∙ ap (λ ks. or_else ks []) passes.fault in
    let second : turn_fault top [] (walked top.rules [] (standing rows u) (45 ∷ 45 ∷ n.id)) n.value ≡ [] =
    ap (λ w. turn_fault top [] w n.value) name ∙ value_fault top o k.by_id k.by_long k.long k.same rows u n.value are.1 in
    record {
      before = rest.before;
      last = rest.last;
      rows = rest.rows ∙ ap (map row_for) (append_assoc before (u ∷ []) (n ∷ ns));
      fault = rest.fault;
      end = ap (λ w. fold (walked top.rules []) w (words_with ns)) here ∙ rest.end;
      no_fault =
          ap₂ (λ a b. or_else a (or_else b (walk_fault top [] (walked top.rules [] (walked top.rules [] (standing rows u) (45 ∷ 45 ∷ n.id)) n.value) (words_with ns)))) first second
          ∙ ap (λ w. walk_fault top [] w (words_with ns)) here ∙ rest.no_fault;
    }
