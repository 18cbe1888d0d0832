-- The marks of code rise, and what stands at a position among marks that rise.
--     code_rises      the marks of code
--     rises      marks that rise are in the order of their positions
--     mark_found      the type at a position is that of the first mark that is not before it
use Rattle.std.proofs.Common.{◌≡◌, ℕ, zero, suc, ◌+◌, ◌<◌, ◌≤◌, List, [], ◌∷◌, ◌++◌, length, drop, get_or, slice_get, Bool, true, false, cond, refl, ap, ◌∙◌, arith, ltb, ltb-true, ltb-false}
use Rattle.std.specs.Prelude.{◌==◌}
use Rattle.std.specs.List.Sorted.{IsNonDecreasingBy, IsPartitionPoint}
use Rattle.std.proofs.lemmas.Bool.{ne_eqb}
use Rattle.wasm_sem.specs.Types.{ValType}
use Rattle.wasm_num.specs.declared.ValType.TheVariants.{I32}
use Rattle.module_ast.specs.Lists.{when}
use Rattle.module_ast.specs.Places.{Mark, plain_marks, code_marks, mark_at, operands_behind, starts_of, operands_past, code_size, goes_on}
use Rattle.module_ast.specs.Structure.{Tree, done, plain, block, loop, if_then, if_else, Plain, drop_, select}
use Rattle.module_ast.specs.Validation.{Context}
use Rattle.rewrite_needs.specs.Rising.{MarksRiseFrom, type_in}

-- ---- the marks of code

-- marks that rise from p on, all before q
abbrev StandBetween : (p q : ℕ) → List Mark → Type 0
StandBetween p q [] = p ≤ q
StandBetween p q (m ∷ ms) = (p ≤ m.place) × StandBetween (m.place + 1) q ms

from_before : (p q r : ℕ) (ms : List Mark) → p ≤ q → StandBetween q r ms → StandBetween p r ms
from_before p q r [] l h = omega arith
from_before p q r (m ∷ ms) l h = (omega (arith, h.0), h.1)

to_behind : (p q r : ℕ) (ms : List Mark) → q ≤ r → StandBetween p q ms → StandBetween p r ms
to_behind p q r [] l h = omega arith
to_behind p q r (m ∷ ms) l h = (h.0, to_behind (m.place + 1) q r ms l h.1)

-- in a row
one_behind : (p q q' r : ℕ) (ms ns : List Mark) → q ≤ q' → StandBetween p q ms → StandBetween q' r ns → StandBetween p r (ms ++ ns)
one_behind p q q' r [] ns l h k = from_before p q' r ns (omega arith) k
one_behind p q q' r (m ∷ ms) ns l h k = (h.0, one_behind (m.place + 1) q q' r ms ns l h.1 k)

plain_stands : (p : ℕ) (i : Plain) (o : List ValType) → StandBetween p (p + 1) (plain_marks p i o)
plain_stands p drop_ o = (omega arith, omega arith)
plain_stands p select o = (omega arith, omega arith)
plain_stands p i o = omega arith

when_stand : (b : Bool) (p q : ℕ) (ms : List Mark) → p ≤ q → StandBetween p q ms → StandBetween p q (when b ms)
when_stand true p q ms l h = h
when_stand false p q ms l h = l

-- those of a block and of what follows it
two_parts : (p b r e : ℕ) (ms ns : List Mark) → p + b + r + 2 ≤ e → StandBetween (p + 1) (p + 1 + b) ms → StandBetween (p + b + 2) (p + b + 2 + r) ns → StandBetween p e (ms ++ ns)
two_parts p b r e ms ns l h k =
    from_before p (p + 1) e (ms ++ ns) (omega arith)
    (to_behind (p + 1) (p + b + 2 + r) e (ms ++ ns) (omega arith) (one_behind (p + 1) (p + 1 + b) (p + b + 2) (p + b + 2 + r) ms ns (omega arith) h k))

code_stands : (c : Context) (p : ℕ) (k : Tree) (o : List ValType) → StandBetween p (p + code_size k) (code_marks c p k o)
code_stands c p done o = omega arith
code_stands c p (plain i k) o =
    let n = code_size k in
    let more = code_marks c (p + 1) k (operands_behind c i o) in
    let behind : StandBetween (p + 1) (p + 1 + n) more = code_stands c (p + 1) k (operands_behind c i o) in
    to_behind p (p + 1 + n) (p + (1 + n)) (plain_marks p i o ++ when (goes_on i) more) (omega arith)
    (one_behind p (p + 1) (p + 1) (p + 1 + n) (plain_marks p i o) (when (goes_on i) more) (omega arith) (plain_stands p i o)
    (when_stand (goes_on i) (p + 1) (p + 1 + n) more (omega arith) behind))
code_stands c p (block ty body k) o =
    let b = code_size body in
    let r = code_size k in
    two_parts p b r (p + (b + 2 + r)) _ _ (omega arith) (code_stands c (p + 1) body (starts_of c.types ty)) (code_stands c (p + b + 2) k (operands_past c.types ty o))
code_stands c p (loop ty body k) o =
    let b = code_size body in
    let r = code_size k in
    two_parts p b r (p + (b + 2 + r)) _ _ (omega arith) (code_stands c (p + 1) body (starts_of c.types ty)) (code_stands c (p + b + 2) k (operands_past c.types ty o))
code_stands c p (if_then ty body k) o =
    let b = code_size body in
    let r = code_size k in
    two_parts p b r (p + (b + 2 + r)) _ _ (omega arith) (code_stands c (p + 1) body (starts_of c.types ty)) (code_stands c (p + b + 2) k (operands_past c.types ty (drop 1 o)))
code_stands c p (if_else ty body other k) o =
    let b = code_size body in
    let e = code_size other in
    let r = code_size k in
    let starts = starts_of c.types ty in
    let behind = operands_past c.types ty (drop 1 o) in
    let two = code_marks c (p + b + 2) other starts in
    let more = code_marks c (p + b + e + 3) k behind in
    two_parts p b (e + 1 + r) (p + (b + e + 3 + r)) (code_marks c (p + 1) body starts) (two ++ more) (omega arith) (code_stands c (p + 1) body starts)
    (to_behind (p + b + 2) (p + b + e + 3 + r) (p + b + 2 + (e + 1 + r)) (two ++ more) (omega arith)
    (one_behind (p + b + 2) (p + b + 2 + e) (p + b + e + 3) (p + b + e + 3 + r) two more (omega arith) (code_stands c (p + b + 2) other starts)
    (code_stands c (p + b + e + 3) k behind)))

stands_rise : (p q : ℕ) (ms : List Mark) → StandBetween p q ms → MarksRiseFrom p ms
stands_rise p q [] h = tt
stands_rise p q (m ∷ ms) h = (h.0, stands_rise (m.place + 1) q ms h.1)

pub code_rises : (c : Context) (p : ℕ) (k : Tree) (o : List ValType) → MarksRiseFrom p (code_marks c p k o)
code_rises c p k o = stands_rise p (p + code_size k) (code_marks c p k o) (code_stands c p k o)

-- ---- what stands at a position

from_start : (p : ℕ) (ms : List Mark) → MarksRiseFrom p ms → (j : ℕ) (d : Mark) → j < length ms → p ≤ (get_or ms j d).place
from_start p [] up j d h = absurd (omega arith)
from_start p (m ∷ ms) up zero d h = up.0
from_start p (m ∷ ms) up (suc j) d h = omega (arith, up.0, from_start (m.place + 1) ms up.1 j d (omega arith))

pub rises : (p : ℕ) (ms : List Mark) → MarksRiseFrom p ms → IsNonDecreasingBy (λ (m : Mark). m.place) ms
rises p [] up i j d le h = absurd (omega arith)
rises p (m ∷ ms) up zero zero d le h = omega arith
rises p (m ∷ ms) up zero (suc j) d le h = let behind = from_start (m.place + 1) ms up.1 j d (omega arith) in omega (arith, behind)
rises p (m ∷ ms) up (suc i) zero d le h = absurd (omega arith)
rises p (m ∷ ms) up (suc i) (suc j) d le h = rises (m.place + 1) ms up.1 i j d (omega arith) (omega arith)

-- marks behind a position say nothing of it
none_behind : (x p : ℕ) (ms : List Mark) → MarksRiseFrom p ms → x < p → mark_at ms x ≡ I32
none_behind x p [] up l = refl
none_behind x p (m ∷ ms) up l =
    ap (λ b. cond b m.ty (mark_at ms x)) (ne_eqb m.place x (λ e. omega (arith, up.0))) ∙ none_behind x (m.place + 1) ms up.1 (omega (arith, up.0))

found_at : (x p i : ℕ) (ms : List Mark) → MarksRiseFrom p ms → ((k : ℕ) (d : Mark) → k < i → (get_or ms k d).place < x)
    → ((d : Mark) → i < length ms → x ≤ (get_or ms i d).place) → mark_at ms x ≡ type_in (slice_get ms i) x
found_at x p i [] up before behind = refl
found_at x p zero (m ∷ ms) up before behind =
    let h : x ≤ m.place = behind m (omega arith) in ap (λ t. cond (m.place == x) m.ty t) (none_behind x (m.place + 1) ms up.1 (omega arith))
found_at x p (suc i) (m ∷ ms) up before behind =
    let h : m.place < x = before 0 m (omega arith) in
    ap (λ b. cond b m.ty (mark_at ms x)) (ne_eqb m.place x (λ e. omega (arith, h)))
    ∙ found_at x (m.place + 1) i ms up.1 (λ k d l. before (suc k) d (omega arith)) (λ d l. behind d (omega arith))

pub mark_found : (ms : List Mark) (x i : ℕ) → MarksRiseFrom 0 ms → IsPartitionPoint (λ (m : Mark). ltb m.place x ≡ true) (λ (m : Mark). ltb m.place x ≡ false) ms i → mark_at ms x ≡ type_in (slice_get ms i) x
mark_found ms x i up point =
    found_at x 0 i ms up (λ k d h. ltb-true _ x (point.0 k d (omega arith) h)) (λ d h. ltb-false _ x (point.1 i d (omega arith) h))
