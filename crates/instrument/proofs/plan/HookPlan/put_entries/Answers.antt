use Rattle.std.proofs.Common.{◌≡◌, ◌++◌, List, ℕ, length, append_assoc, ap, sym, ◌∙◌, subst, arith}
use Rattle.std.specs.List.Sorted.{IsStrictlyIncreasing}
use Rattle.std.proofs.lemmas.List.{length-map}
use Rattle.instrument.specs.Pieces.{entries_at, bound_at, last_bound}
use Rattle.instrument.specs.Plan.{new_bodies, body_length}
use Rattle.instrument.proofs.PlannedEntries.{entries_on, entries_all}
use Rattle.instrument.proofs.plan.HookPlan.put_entries.Goals as goal

pub round_end-end-requires-clause-begun : goal.round_end-end-requires-clause-begun
round_end-end-requires-clause-begun g c =
    omega (arith, ap length c.requires.sizes, length-map (new_bodies c.args.self.now) body_length, c.body_count-count.ensures, c.loop-first-test.true)

pub round_end-end-requires-clause-small : goal.round_end-end-requires-clause-small
round_end-end-requires-clause-small g c =
    omega (arith, ap length c.requires.sizes, length-map (new_bodies c.args.self.now) body_length, c.body_count-count.ensures, c.body_count-count.type_inv)

pub put-requires-clause-rising : goal.put-requires-clause-rising
put-requires-clause-rising g c κs within = subst IsStrictlyIncreasing (sym c.deref.ensures.value) c.in_ok-bounds.ensures.rising

pub put-requires-clause-within : goal.put-requires-clause-within
put-requires-clause-within g c κs within =
    omega (arith, ap last_bound c.deref.ensures.value, c.in_ok-bounds.ensures.ends, ap length c.requires.sizes, length-map (new_bodies c.args.self.now) body_length, c.round_end-end.ensures.within)

pub loop-first-preserved : goal.loop-first-preserved
loop-first-preserved g c =
    let p = c.args.self.now in
    let l = c.loop-first in
    let before = c.args.out.now.items in
    let end = c.round_end-end.result in
    let first : bound_at c.deref.result.now 0 ≡ l.first = ap (λ (bs : List ℕ). bound_at bs 0) c.deref.ensures.value ∙ c.in_ok-bounds.ensures.begins in
    let last : last_bound c.deref.result.now ≡ end = ap last_bound c.deref.ensures.value ∙ c.in_ok-bounds.ensures.ends in
    let put : c.put.new.out.items ≡ l.out.items ++ entries_at p (bound_at c.deref.result.now 0) (last_bound c.deref.result.now) = c.in_ok-put.ensures in (
      put ∙ ap (λ (xs : List ℕ). xs ++ entries_at p (bound_at c.deref.result.now 0) (last_bound c.deref.result.now)) l.invariant.0
          ∙ append_assoc before (entries_at p 0 l.first) (entries_at p (bound_at c.deref.result.now 0) (last_bound c.deref.result.now))
          ∙ ap (λ (n : ℕ). before ++ (entries_at p 0 l.first ++ entries_at p n (last_bound c.deref.result.now))) first
          ∙ ap (λ (n : ℕ). before ++ (entries_at p 0 l.first ++ entries_at p l.first n)) last
          ∙ ap (λ (xs : List ℕ). before ++ xs) (entries_on p 0 l.first end (omega arith) (omega (arith, c.round_end-end.ensures.after))),
      omega (arith, ap length c.requires.sizes, length-map (new_bodies p) body_length, c.round_end-end.ensures.within, c.body_count-count.ensures),
    )

pub returns : goal.returns
returns g c =
    c.loop-first.invariant.0
    ∙ ap (λ (bs : List ℕ). c.args.out.now.items ++ bs) (entries_all c.args.self.now c.loop-first.first (omega (arith, c.body_count-count.ensures, c.loop-first-test.false)))
