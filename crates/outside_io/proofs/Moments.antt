-- How a run of calls of a disk goes on.
use Rattle.std.proofs.Common.{inl, inr, ⊎_elim, ◌⊎◌, ℕ, ◌≤◌, List, Option, arith}
use Rattle.outside_io.specs.Disk.{Elapses}
use Rattle.outside_io.specs.Whole.{LeavesOnly}

module _ {D : Type 0} (moment : D → ℕ) (left_since : D → ℕ → List ℕ → Option (List ℕ) → Type 0) where
  -- before the first call
  pub started : (old : D) (P : List ℕ → Option (List ℕ) → Type 0) → ((p : List ℕ) (c : Option (List ℕ)) → left_since old (moment old) p c → P p c) → LeavesOnly moment left_since old old P
  started old P here = record { later = omega arith; each = here; before = λ t p c le left. inl left }

  -- one call more, after which a crash leaves what has P
  pub goes_on : (old mid new : D) (P may_leave : List ℕ → Option (List ℕ) → Type 0) → LeavesOnly moment left_since old mid P → Elapses (moment mid) (moment new) (left_since mid) (left_since new) may_leave
      → ((p : List ℕ) (c : Option (List ℕ)) → may_leave p c → P p c) → LeavesOnly moment left_since old new P
  goes_on old mid new P may_leave so_far time here = record {
    later = omega (arith, so_far.later, time.later);
    each = λ p c left. ⊎_elim (so_far.each p c) (here p c) (time.nothing_else (moment old) p c so_far.later left);
    before = λ t p c le left. ⊎_elim (so_far.before t p c le) (λ now. inr (here p c now)) (time.nothing_else t p c (omega (arith, le, so_far.later)) left);
  }

  -- one run after another
  pub joined : (old mid new : D) (P Q : List ℕ → Option (List ℕ) → Type 0) → LeavesOnly moment left_since old mid P → LeavesOnly moment left_since mid new Q
      → ((p : List ℕ) (c : Option (List ℕ)) → Q p c → P p c) → LeavesOnly moment left_since old new P
  joined old mid new P Q first second here = record {
    later = omega (arith, first.later, second.later);
    each = λ p c left. ⊎_elim (first.each p c) (here p c) (second.before (moment old) p c first.later left);
    before = λ t p c le left. ⊎_elim (first.before t p c le) (λ now. inr (here p c now)) (second.before t p c (omega (arith, le, first.later)) left);
  }
