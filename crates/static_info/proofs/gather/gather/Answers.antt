use Rattle.std.proofs.Common.{◌≡◌, ◌++◌, subst, flat_map, Some}
use Rattle.branch_resolve.specs.Walks.{IsNextPlace}
use Rattle.static_info.specs.Info.{place_blocks, place_tables, live_blocks, live_tables}
use Rattle.static_info.proofs.Gathering.{told_blocks, told_tables, one_more}
use Rattle.static_info.proofs.gather.gather.Goals as goal

pub loop-walk-preserved : goal.loop-walk-preserved
loop-walk-preserved c =
    let y = c.in-Some.place in
    let left = c.next.new.self.left in
    let next : IsNextPlace c.loop-walk.walk c.next.new.self (Some y) = subst (IsNextPlace c.loop-walk.walk c.next.new.self) c.in-Some.is c.in_ok-place.ensures.ok in
    let x = next.0 in
    let code = c.args.code.now in
    record {
      blocks =
          one_more place_blocks x left _ _ _ (live_blocks code)
          (subst (λ xs. c.loop-walk.all.blocks.items ++ flat_map place_blocks xs ≡ live_blocks code) next.1 c.loop-walk.invariant.blocks)
          (told_blocks x y next.2) c.in_ok-add_place.ensures.blocks;
      tables =
          one_more place_tables x left _ _ _ (live_tables code)
          (subst (λ xs. c.loop-walk.all.tables.items ++ flat_map place_tables xs ≡ live_tables code) next.1 c.loop-walk.invariant.tables)
          (told_tables x y next.2) c.in_ok-add_place.ensures.tables;
    }
