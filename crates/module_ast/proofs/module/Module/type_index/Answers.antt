use Rattle.std.proofs.Common.{◌≡◌, ◌∙◌, ap, [], slice_get, drop, arith}
use Rattle.std.specs.List.{HoldsAt}
use Rattle.std.proofs.Math.ListN.{drop_of_length-le}
use Rattle.module_ast.proofs.Lookups.{copied_at}
use Rattle.module_ast.proofs.module.Module.type_index.Goals as goal

pub returns : goal.returns
returns c =
    let funcs = c.as_slice.result.now in
    let left = c.loop-import.left in
    let behind : drop c.loop-import.import-index c.as_slice-import-items.result.now ≡ [] = drop_of_length-le c.as_slice-import-items.result.now (omega arith) in
    let found = copied_at (λ x. HoldsAt (λ y. x.now ≡ y) funcs left) c.get.result funcs left c.get.ensures.lookup.1 c.get.ensures.lookup.3 in
    c.copied.ensures ∙ found ∙ ap (λ l. slice_get l left) c.as_slice.ensures ∙ rw behind at c.loop-import.invariant
