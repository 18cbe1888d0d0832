-- How frames lie after a change of the innermost one.
use Rattle.std.proofs.Common.{◌≡◌, ℕ, suc, ◌+◌, ◌-◌, ◌<◌, List, [], ◌∷◌, ◌++◌, length, set, refl, sym, ap, ◌∙◌, arith, append_assoc, length-append}
use Rattle.std.specs.Prelude.{reverse, slice_set}
use Rattle.std.proofs.lemmas.List.{reverse-reverse, reverse-append, length-reverse, length-set, set-append_left}
use Rattle.wasm_sem.specs.Types.{Value}
use Rattle.module_ast.specs.Structure.{Tree}
use Rattle.wasm_sem.specs.Execution.{Label, Frame}
use Rattle.run_stack.specs.Flat.{Flat, first_base, moved_spots, local_place, set_from_below}
use Rattle.run_stack.specs.Kept.{ops_of, spots_of, all_values, under, low_of, all_spots, Lies}

abbrev pub with_values : Flat → List Value → Flat
with_values f vs = record f { values = vs }

-- the innermost operands are others
pub lies_with_ops : (f : Flat) (fr : Frame) (below : List Frame) (o : List Value) → Lies f (fr ∷ below) → Lies (with_values f (o ++ under fr below)) (record fr { top = record fr.top { ops = o } } ∷ below)
lies_with_ops f fr below o h = record { values = refl; spots = h.spots; bases = h.bases }

-- the innermost label goes on with another rest
pub lies_moved : (f : Flat) (fr : Frame) (below : List Frame) (k : Tree) → Lies f (fr ∷ below) → Lies (record f { spots = moved_spots k f.spots }) (record fr { top = record fr.top { rest = k } } ∷ below)
lies_moved f fr below k h = record { values = h.values; spots = ap (moved_spots k) h.spots; bases = h.bases }

-- ---- labels

pub spots_count : (low : ℕ) (ls : List Label) → length (spots_of low ls) ≡ length ls
spots_count low [] = refl
spots_count low (l ∷ ls) = omega (arith, spots_count low ls)

-- the innermost frame has its own and those inside
pub labels_are : (f : Flat) (fr : Frame) (below : List Frame) → Lies f (fr ∷ below) → length f.spots - (first_base f.bases).labels ≡ length fr.outer + 1
labels_are f fr below lies =
    let spots : length f.spots ≡ length (fr.top ∷ fr.outer) + length (all_spots below) =
    ap length lies.spots ∙ length-append (spots_of (low_of fr below) (fr.top ∷ fr.outer)) (all_spots below) ∙ ap (λ n. n + length (all_spots below)) (spots_count (low_of fr below) (fr.top ∷ fr.outer)) in
    omega (arith, spots, ap (λ bs. (first_base bs).labels) lies.bases)

-- ---- locals

set_middle : {A : Type 0} (xs ys zs : List A) (n i : ℕ) (x : A) → n ≡ length xs → i < length ys → set (xs ++ (ys ++ zs)) (n + i) x ≡ xs ++ (set ys i x ++ zs)
set_middle [] ys zs n i x e h = let k : n + i ≡ i = omega (arith, e) in ap (λ j. set (ys ++ zs) j x) k ∙ set-append_left ys zs i x h
set_middle (a ∷ xs) ys zs n i x e h =
    let k : n + i ≡ suc (length xs + i) = omega (arith, e) in
    ap (λ j. set (a ∷ (xs ++ (ys ++ zs))) j x) k ∙ ap (λ zs. a ∷ zs) (set_middle xs ys zs (length xs) i x refl h)

-- values from below: the locals stand above what is lower
from_low : (o ops locals low : List Value) → reverse (o ++ (ops ++ (reverse locals ++ low))) ≡ reverse low ++ (locals ++ (reverse ops ++ reverse o))
from_low o ops locals low =
    reverse-append o (ops ++ (reverse locals ++ low))
    ∙ ap (λ xs. xs ++ reverse o) (reverse-append ops (reverse locals ++ low) ∙ ap (λ xs. xs ++ reverse ops) (reverse-append (reverse locals) low ∙ ap (λ xs. reverse low ++ xs) (reverse-reverse locals)))
    ∙ append_assoc (reverse low ++ locals) (reverse ops) (reverse o)
    ∙ append_assoc (reverse low) locals (reverse ops ++ reverse o)

module _ (f : Flat) (fr : Frame) (below : List Frame) (lies : Lies f (fr ∷ below)) where
  abbrev low : List Value
  low = all_values below

  place_is : (x : ℕ) → local_place f x ≡ length low + x
  place_is x = ap (λ bs. local_place (record f { bases = bs }) x) lies.bases

  values_are : reverse f.values ≡ reverse low ++ (fr.locals ++ (reverse (ops_of fr.outer) ++ reverse fr.top.ops))
  values_are = ap reverse lies.values ∙ from_low fr.top.ops (ops_of fr.outer) fr.locals low

  -- a local is set
  pub lies_with_local : (x : ℕ) (v : Value) → x < length fr.locals → Lies (set_from_below f (local_place f x) v) (record fr { locals = slice_set fr.locals x v } ∷ below)
  lies_with_local x v h =
      let ops = ops_of fr.outer in
      let o = fr.top.ops in
      record {
        values = (
            ap (λ xs. reverse (slice_set xs (local_place f x) v)) values_are
            ∙ ap (λ n. reverse (slice_set (reverse low ++ (fr.locals ++ (reverse ops ++ reverse o))) n v)) (place_is x)
            ∙ ap reverse (set_middle (reverse low) fr.locals (reverse ops ++ reverse o) (length low) x v (sym (length-reverse low)) h)
            ∙ ap reverse (sym (from_low o ops (slice_set fr.locals x v) low))
            ∙ reverse-reverse (o ++ (ops ++ (reverse (slice_set fr.locals x v) ++ low)))
            );
        spots = lies.spots ∙ ap (λ n. spots_of (n + length low) (fr.top ∷ fr.outer) ++ all_spots below) (sym (length-set fr.locals x v));
        bases = lies.bases;
      }
