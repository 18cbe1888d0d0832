use Rattle.std.proofs.Common.{[], ◌∷◌, length-append, sym, ◌∙◌, arith, rules}
use Rattle.module_ast.proofs.Compose.{read_more, vec_none, vec_stuck, vec_some}
use Rattle.name_map.proofs.Forms.{entries_rise, entries_after, rising_none, rising_some, rising_falls}
use Rattle.name_map.proofs.entries.read_entries.Goals as goal

pub returns-in_err-count-clause-malformed : goal.returns-in_err-count-clause-malformed
returns-in_err-count-clause-malformed g c = λ e. rising_none g.E.Entry.is g.E.Entry.index _ (vec_none g.E.Entry.is _ c.in_err-count.ensures.bad.1)

pub returns-in_err-entry-clause-malformed : goal.returns-in_err-entry-clause-malformed
returns-in_err-entry-clause-malformed g c = λ e.
    let i = c.loop-i.invariant in
    rising_none g.E.Entry.is g.E.Entry.index _
    (vec_stuck g.E.Entry.is c.requires.one _ _ _ _ _ c.in_ok-count.ensures.ok.1 i.items (omega (arith, i.many)) (c.in_err-entry.ensures.malformed (search rules)))

pub loop-i-preserved : goal.loop-i-preserved
loop-i-preserved g c =
    let i = c.loop-i.invariant in
    let x = c.in_ok-entry.entry in
    rw c.in_ok-push.ensures.items (record {
      items = read_more g.E.Entry.is _ _ _ c.loop-i.entries.items x i.items c.in_ok-entry.ensures.ok;
      many = omega (arith, length-append c.loop-i.entries.items (x ∷ []), i.many);
      rising = entries_rise g.E.Entry.index c.loop-i.entries.items x _ _ _ _ i.rising i.next (c.from-index.ensures ∙ c.index.ensures) c.goes_on-rises.ensures;
      next = entries_after g.E.Entry.index c.loop-i.entries.items x _ (omega (arith, c.from-index.ensures, c.index.ensures));
    })

pub returns-then-not-rises-clause-malformed : goal.returns-then-not-rises-clause-malformed
returns-then-not-rises-clause-malformed g c = λ e.
    let i = c.loop-i.invariant in
    rising_falls g.E.Entry.is g.E.Entry.index c.requires.one _ _ _
    (vec_some g.E.Entry.is _ _ _ _ _ c.in_ok-count.ensures.ok.1 i.items (omega (arith, i.many))) (sym i.rising ∙ c.if-not-rises.true)

pub returns-clause-ok : goal.returns-clause-ok
returns-clause-ok g c =
    let i = c.loop-i.invariant in
    rising_some g.E.Entry.is g.E.Entry.index _ _ _ (vec_some g.E.Entry.is _ _ _ _ _ c.in_ok-count.ensures.ok.1 i.items (omega (arith, i.many))) (sym i.rising ∙ c.if-not-rises.false)
