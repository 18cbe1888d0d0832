use Rattle.std.proofs.Common.{◌≡◌, ◌<◌, List, ◌++◌, ℕ, Some, length, slice_get, ap, sym, ◌∙◌, arith}
use Rattle.wasm_encode.specs.Outline.{entry_bytes}
use Rattle.instrument.specs.Pieces.{entries_at, bound_at}
use Rattle.instrument.specs.Plan.{new_bodies}
use Rattle.instrument.proofs.PlannedEntries.{size_is, entry_made, entries_more}
use Rattle.instrument.proofs.entries.RoundJob.piece.Goals as goal

pub with_entry-requires : goal.with_entry-requires
with_entry-requires g c =
    let r = c.args.self.now in
    size_is r.plan.now r.sizes.now c.loop-defined.defined c.in_ok-body.body c.requires.sizes_are (c.request-asked.ensures.makes c.in_ok-body.body c.in_ok-body.ensures)

pub loop-defined-preserved : goal.loop-defined-preserved
loop-defined-preserved g c =
    let p = c.args.self.now.plan.now in
    let l = c.loop-defined in
    let from = bound_at c.args.self.now.bounds.now c.args.index in
    let b = c.in_ok-body.body in
    let within : l.defined < length (new_bodies p) = omega (arith, c.loop-defined-test.true, c.requires.within) in
    let made : slice_get (new_bodies p) l.defined ≡ Some b = c.request-asked.ensures.makes b c.in_ok-body.ensures in (
      c.in_ok-entries-2.ensures ∙ ap (λ (e : List ℕ). e ++ entry_bytes b) l.invariant.0 ∙ ap (λ (e : List ℕ). entries_at p from l.defined ++ e) (entry_made p l.defined b made)
          ∙ sym (entries_more p from l.defined l.invariant.1 within),
      omega (arith, l.invariant.1),
    )
