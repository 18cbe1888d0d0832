use Rattle.std.proofs.Common.{length, ap, arith, rules, subst}
use Rattle.module_ast.proofs.Compose.{whole_missing, whole_none}
use Rattle.name_map.specs.NameMaps.{IsRisingVec}
use Rattle.name_map.specs.Sections.{AreEntriesIn}
use Rattle.name_map.proofs.Chunks.{seen}
use Rattle.name_map.proofs.Forms.{one_rising}
use Rattle.name_map.proofs.entries.entries_in.Goals as goal

pub returns-in_err-entries-clause-malformed : goal.returns-in_err-entries-clause-malformed
returns-in_err-entries-clause-malformed g c = λ e es p.
    let item = IsRisingVec g.E.Entry.is g.E.Entry.index in
    let h = rw c.new-cursor.ensures.left at c.in_err-entries.ensures.malformed in
    whole_missing item c.in-Some.content.now (h (search rules)) es (subst (λ o. AreEntriesIn item (seen o) es) c.in-Some.is p)

pub returns-then-left-ne0-clause-malformed : goal.returns-then-left-ne0-clause-malformed
returns-then-left-ne0-clause-malformed g c = λ e es p.
    let item = IsRisingVec g.E.Entry.is g.E.Entry.index in
    let here = rw c.new-cursor.ensures.left at c.in_ok-entries.ensures.ok in
    whole_none item (one_rising g.E.Entry.is g.E.Entry.index c.requires.one) c.in-Some.content.now _ _ here (λ z. omega (arith, ap length z)) es
    (subst (λ o. AreEntriesIn item (seen o) es) c.in-Some.is p)
