-- What the vectors of a stack are seen as, after one of them has changed.
use Rattle.std.proofs.Common.{◌≡◌, ℕ, ◌+◌, ◌-◌, ◌<◌, ◌≤◌, List, [], ◌∷◌, ◌++◌, length, take, drop, get_or, set, Some, None, sym, ap, subst, ◌∙◌, refl, arith, length-append}
use Rattle.std.specs.Prelude.{reverse, slice_get}
use Rattle.std.proofs.lemmas.List.{reverse-append, reverse-reverse, length-reverse, get_or-reverse}
use Rattle.std.proofs.lemmas.Option.{slice_get_read, slice_get-get_or}
use Rattle.wasm_sem.specs.Types.{Value}
use Rattle.module_ast.specs.Structure.{Tree, done}
use Rattle.run_stack.specs.Flat.{Spot, Base, Flat, kept, returned, resumed, landed, moved_spots, other_spots, lowest_arity, first_base, closed, from_below, local_place, HasMoreRoom, framed, opened, PutsFrame}
use Rattle.ctrl_stack.proofs.Lists.{reverse-last, reverse-take, reverse-set}

abbrev pub flat : List Value → List Spot → List Base → (a b c : ℕ) → Flat
flat vs ss bs a b c = record { values = vs; spots = ss; bases = bs; value_room = a; spot_room = b; base_room = c }

abbrev some_spot : Spot
some_spot = record { rest = done; again = None; height = 0; arity = 0 }

-- one is there
last_of : {A : Type 0} (xs ys : List A) (n : ℕ) → n ≡ length xs → reverse xs ≡ ys → 0 < length ys → n - 1 + 1 ≡ length xs
last_of xs ys n e v h = omega (arith, ap length v, length-reverse xs)

lowest_end : (ss : List Spot) (s : Spot) → lowest_arity (ss ++ s ∷ []) ≡ s.arity
lowest_end [] s = refl
lowest_end (t ∷ []) s = refl
lowest_end (t ∷ u ∷ ss) s = lowest_end (u ∷ ss) s

module _ (vs : List Value) (xs : List Spot) (bs : List Base) (a b c n : ℕ) (f : Flat) (size : n ≡ length xs) (view : flat vs (reverse xs) bs a b c ≡ f) (some : 0 < length f.spots) where
  has_last : n - 1 + 1 ≡ length xs
  has_last = last_of xs f.spots n size (ap (λ (f : Flat). f.spots) view) some

  pub close_view : (ys : List Spot) (d : ℕ) → ys ≡ take (n - 1) xs → d ≡ b → flat vs (reverse ys) bs a d c ≡ closed f
  close_view ys d e g =
      ap (λ zs. flat vs (reverse zs) bs a d c) e
      ∙ ap (λ zs. flat vs (other_spots zs) bs a d c) (sym (reverse-last xs (n - 1) some_spot has_last))
      ∙ ap (λ d. flat vs (other_spots (reverse xs)) bs a d c) g
      ∙ ap closed view

  -- what a branch to the outermost label takes
  pub lowest_view : (t : Spot) → t ≡ get_or xs 0 t → t.arity ≡ lowest_arity f.spots
  lowest_view t h = go xs h size_is ∙ ap (λ (f : Flat). lowest_arity f.spots) view
    where
      size_is : 0 < length xs
      size_is = let labels = ap (λ (f : Flat). length f.spots) view in omega (arith, labels, length-reverse xs, some)

      go : (xs : List Spot) → t ≡ get_or xs 0 t → 0 < length xs → t.arity ≡ lowest_arity (reverse xs)
      go [] h within = absurd (omega (arith, within))
      go (x ∷ xs) h within = ap (λ (x : Spot). x.arity) h ∙ sym (lowest_end (reverse xs) x) ∙ sym (ap lowest_arity (reverse-append (x ∷ []) xs))

  -- the innermost label goes on with another sequence
  pub go_on_view : (old new : Spot) (k : Tree) → old ≡ get_or xs (n - 1) old → new ≡ record old { rest = k } → flat vs (reverse (set xs (n - 1) new)) bs a b c ≡ record f { spots = moved_spots k f.spots }
  go_on_view old new k h e =
      ap (λ ss. flat vs ss bs a b c)
      (ap (λ (s : Spot). reverse (set xs (n - 1) s)) e
      ∙ reverse-set xs (n - 1) (record old { rest = k }) old has_last
      ∙ ap (λ (s : Spot). record s { rest = k } ∷ reverse (take (n - 1) xs)) h
      ∙ ap (moved_spots k) (sym (reverse-last xs (n - 1) old has_last)))
      ∙ ap (λ (f : Flat). record f { spots = moved_spots k f.spots }) view

pub local_view : (xs : List Value) (ss : List Spot) (bs : List Base) (a b c n x : ℕ) (base : Base) (f : Flat) (v : Value) → n ≡ length bs → flat (reverse xs) ss (reverse bs) a b c ≡ f → 0 < length f.bases
    → base ≡ get_or bs (n - 1) base → local_place f x < length f.values → v ≡ get_or xs (base.values + x) v → from_below f (local_place f x) ≡ Some v
local_view xs ss bs a b c n x base f v size view some g within h =
    let frame : first_base (reverse bs) ≡ base =
    ap first_base (reverse-last bs (n - 1) base (last_of bs f.bases n size (ap (λ (f : Flat). f.bases) view) some)) ∙ sym g in
    let place : local_place (flat (reverse xs) ss (reverse bs) a b c) x ≡ base.values + x = ap (λ (z : Base). z.values + x) frame in
    let room : base.values + x < length xs =
    omega (arith, length-reverse xs, sym place, subst (λ f. local_place f x < length f.values) (sym view) within) in
    subst (λ f. from_below f (local_place f x) ≡ Some v) view
    (ap (λ ys. slice_get ys (local_place (flat (reverse xs) ss (reverse bs) a b c) x)) (reverse-reverse xs)
    ∙ ap (slice_get xs) place ∙ slice_get_read xs (length xs) (base.values + x) v refl room h)

-- the same parts
pub same_flat : {vs us : List Value} {ss ts : List Spot} {bs cs : List Base} {a b c d e f : ℕ} → vs ≡ us → ss ≡ ts → bs ≡ cs → a ≡ d → b ≡ e → c ≡ f → flat vs ss bs a b c ≡ flat us ts cs d e f
same_flat {vs} {us} {ss} {ts} {bs} {cs} {a} {b} {c} {d} {e} {f} p q r x y z =
    ap (λ vs. flat vs ss bs a b c) p ∙ ap (λ ss. flat us ss bs a b c) q ∙ ap (λ bs. flat us ts bs a b c) r
    ∙ ap (λ a. flat us ts cs a b c) x ∙ ap (λ b. flat us ts cs d b c) y ∙ ap (λ c. flat us ts cs d e c) z

module _ (xs : List Value) (ls : List Spot) (bs : List Base) (a b c n : ℕ) (f : Flat) (size : n ≡ length bs) (view : flat (reverse xs) (reverse ls) (reverse bs) a b c ≡ f) where
  pub leave_view : (base : Base) (arity : ℕ) (ys : List Value) (ms : List Spot) (cs : List Base) (d e g : ℕ) → 0 < length f.bases → base ≡ get_or bs (n - 1) base → reverse ys ≡ kept arity base.values (reverse xs)
      → ms ≡ take base.labels ls → cs ≡ take (n - 1) bs → d ≡ a → e ≡ b → g ≡ c → flat (reverse ys) (reverse ms) (reverse cs) d e g ≡ returned arity f
  leave_view base arity ys ms cs d e g some at v l m x y z =
      let last = last_of bs f.bases n size (ap (λ (f : Flat). f.bases) view) some in
      let parts : reverse bs ≡ base ∷ reverse (take (n - 1) bs) = reverse-last bs (n - 1) base last ∙ ap (λ d. d ∷ reverse (take (n - 1) bs)) (sym at) in
      same_flat v (ap reverse l ∙ reverse-take base.labels ls) (ap reverse m) x y z
      ∙ ap (λ bs. returned arity (flat (reverse xs) (reverse ls) bs a b c)) (sym parts) ∙ ap (returned arity) view

-- a label, counted from below and outwards
pub spot_at : (ls : List Spot) (at number : ℕ) (t : Spot) → at + number + 1 ≡ length ls → t ≡ get_or ls at t → slice_get (reverse ls) number ≡ Some t
spot_at ls at number t e h =
    let place : length ls - 1 - number ≡ at = omega (arith, e) in
    slice_get-get_or (reverse ls) number t (omega (arith, length-reverse ls, e))
    ∙ ap (λ t. Some t) (get_or-reverse ls number t (omega (arith, e)) ∙ ap (λ k. get_or ls k t) place ∙ sym h)

-- those outside it
pub spots_behind : (ls : List Spot) (at number : ℕ) → at + number + 1 ≡ length ls → reverse (take at ls) ≡ drop (number + 1) (reverse ls)
spots_behind ls at number e =
    let count : length (reverse ls) - at ≡ number + 1 = omega (arith, length-reverse ls, e) in
    reverse-take at ls ∙ ap (λ k. drop k (reverse ls)) count

-- the innermost label goes on with another sequence
pub resumed_spots : (ls : List Spot) (at : ℕ) (old : Spot) (k : Tree) → 0 < at → at ≡ length ls → old ≡ get_or ls (at - 1) old → reverse (set ls (at - 1) (record old { rest = k })) ≡ moved_spots k (reverse ls)
resumed_spots ls at old k some e h =
    let last : at - 1 + 1 ≡ length ls = omega (arith, e) in
    reverse-set ls (at - 1) (record old { rest = k }) old last
    ∙ ap (λ (s : Spot). record s { rest = k } ∷ reverse (take (at - 1) ls)) h
    ∙ ap (moved_spots k) (sym (reverse-last ls (at - 1) old last))

-- a branch inside a frame
pub land_view : (xs : List Value) (ls : List Spot) (bs : List Base) (a b c : ℕ) (f : Flat) (at number : ℕ) (t : Spot) → flat (reverse xs) (reverse ls) bs a b c ≡ f → at + number + 1 ≡ length f.spots → t ≡ get_or ls at t
    → (ys : List Value) (ms : List Spot) (d e : ℕ) → reverse ys ≡ kept t.arity t.height (reverse xs) → reverse ms ≡ resumed t.again (reverse (take at ls)) → d ≡ a → e ≡ b
    → (x : Spot) × (slice_get f.spots number ≡ Some x) × (flat (reverse ys) (reverse ms) bs d e c ≡ landed x (drop (number + 1) f.spots) f)
land_view xs ls bs a b c f at number t view size h ys ms d e v l x y =
    let sizes : at + number + 1 ≡ length ls = size ∙ sym (ap (λ (f : Flat). length f.spots) view) ∙ length-reverse ls in (
      t,
      ap (λ (f : Flat). slice_get f.spots number) (sym view) ∙ spot_at ls at number t sizes h,
      same_flat v (l ∙ ap (resumed t.again) (spots_behind ls at number sizes)) refl x y refl ∙ ap (λ (f : Flat). landed t (drop (number + 1) f.spots) f) view,
    )

-- the innermost frame
pub base_at : (vs : List Value) (ss : List Spot) (bs : List Base) (a b c n : ℕ) (f : Flat) (base : Base) → n ≡ length bs → flat vs ss (reverse bs) a b c ≡ f → 0 < length f.bases → base ≡ get_or bs (n - 1) base → first_base f.bases ≡ base
base_at vs ss bs a b c n f base size view some at =
    ap (λ (f : Flat). first_base f.bases) (sym view)
    ∙ ap first_base (reverse-last bs (n - 1) base (last_of bs f.bases n size (ap (λ (f : Flat). f.bases) view) some)) ∙ sym at

-- so many values are taken off the top
pub drop_view : (xs ys : List Value) (ss : List Spot) (bs : List Base) (a b c d n count : ℕ) (f : Flat) → n ≡ length xs → flat (reverse xs) ss bs a b c ≡ f → count ≤ length f.values
    → ys ≡ take (n - count) xs → d ≡ a → flat (reverse ys) ss bs d b c ≡ record f { values = drop count f.values }
drop_view xs ys ss bs a b c d n count f size view within e g =
    let left : length (reverse xs) - (n - count) ≡ count = omega (arith, size, length-reverse xs, within, ap (λ (f : Flat). length f.values) view) in
    ap (λ vs. flat vs ss bs d b c) (ap reverse e ∙ reverse-take (n - count) xs ∙ ap (λ j. drop j (reverse xs)) left)
    ∙ ap (λ d. flat (drop count (reverse xs)) ss bs d b c) g
    ∙ ap (λ (f : Flat). record f { values = drop count f.values }) view

-- ---- a function is entered

module _ (f a b d u : Flat) (params locals arity height nesting : ℕ) (zs : List Value) (k : Tree) where
  pub entered : HasMoreRoom f a → length f.values + (locals + height) ≤ a.value_room → length f.spots + (nesting + 1) ≤ a.spot_room → b ≡ framed params a
      → d.values ≡ reverse zs ++ b.values → d.spots ≡ b.spots → d.bases ≡ b.bases → b.value_room ≤ d.value_room → d.spot_room ≡ b.spot_room → u ≡ opened k None 0 arity d → length zs ≡ locals
      → PutsFrame params zs k arity height nesting f u
  entered more values spots framed_is v l m x y open_is size =
      let vs : d.values ≡ reverse zs ++ f.values = v ∙ ap (λ (b : Flat). reverse zs ++ b.values) framed_is ∙ ap (λ vs. reverse zs ++ vs) more.values in
      let ss : d.spots ≡ f.spots = l ∙ ap (λ (b : Flat). b.spots) framed_is ∙ more.spots in
      let room : a.value_room ≤ d.value_room = subst (λ (b : Flat). b.value_room ≤ d.value_room) framed_is x in
      let labels : d.spot_room ≡ a.spot_room = y ∙ ap (λ (b : Flat). b.spot_room) framed_is in
      let count : length d.values ≡ length zs + length f.values = ap length vs ∙ length-append (reverse zs) f.values ∙ ap (λ n. n + length f.values) (length-reverse zs) in
      let high : length d.values - 0 ≡ length zs + length f.values = omega (arith, count) in
      let u_room : u.value_room ≡ d.value_room = ap (λ (u : Flat). u.value_room) open_is in
      let u_labels : u.spot_room ≡ d.spot_room = ap (λ (u : Flat). u.spot_room) open_is in
      record {
        values = ap (λ (u : Flat). u.values) open_is ∙ vs;
        spots = ap (λ (u : Flat). u.spots) open_is ∙ ap (λ n. record { rest = k; again = None; height = n; arity = arity } ∷ d.spots) high
            ∙ ap (λ ss. record { rest = k; again = None; height = length zs + length f.values; arity = arity } ∷ ss) ss;
        bases = ap (λ (u : Flat). u.bases) open_is ∙ m ∙ ap (λ (b : Flat). b.bases) framed_is
            ∙ ap (λ vs. record { values = length vs - params; labels = length a.spots } ∷ a.bases) more.values
            ∙ ap (λ ss. record { values = length f.values - params; labels = length ss } ∷ a.bases) more.spots
            ∙ ap (λ bs. record { values = length f.values - params; labels = length f.spots } ∷ bs) more.bases;
        value_room = omega (arith, more.value_room, room, u_room);
        spot_room = omega (arith, more.spot_room, labels, u_labels);
        for_values = omega (arith, values, room, u_room, size);
        for_spots = omega (arith, spots, labels, u_labels);
      }
