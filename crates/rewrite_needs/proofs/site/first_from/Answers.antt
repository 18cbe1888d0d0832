use Rattle.std.proofs.Common.{◌≡◌, ◌∙◌, sym, ap, ltb, rules}
use Rattle.std.specs.List.{HoldsAt}
use Rattle.std.proofs.lemmas.List.Sorted.{IsPartitionPoint-from_clause, IsPartitionedBy-ltb}
use Rattle.module_ast.proofs.Lookups.{copied_at}
use Rattle.module_ast.specs.Places.{Mark}
use Rattle.rewrite_needs.specs.Rising.{type_in}
use Rattle.rewrite_needs.proofs.Rising.{rises, mark_found}
use Rattle.rewrite_needs.proofs.site.first_from.Goals as goal

pub returns : goal.returns
returns c =
    let marks = c.args.marks.now in
    let x = c.args.position in
    let before = c.partition_point-before.result in
    let parted = IsPartitionedBy-ltb (λ (m : Mark). m.place) marks x (rises 0 marks c.requires) in
    let point = IsPartitionPoint-from_clause (λ (m : Mark). ltb m.place x) marks before c.partition_point-before.ensures.partitioned parted (λ a r q k. search rules) in
    let found = copied_at (λ y. HoldsAt (λ z. y.now ≡ z) marks before) c.get.result marks before c.get.ensures.lookup.1 c.get.ensures.lookup.3 in
    mark_found marks x before c.requires point ∙ ap (λ o. type_in o x) (sym found ∙ sym c.copied.ensures)
