use Rattle.std.proofs.Common.{◌∙◌, Some, sym, ap, rules, SFits, w32}
use Rattle.std.proofs.lemmas.Int.{to_z-of_z}
use Rattle.std.proofs.lemmas.Option.{slice_get-get_or, slice_get_past}
use Rattle.shadow_replay.specs.BlockRows.{row_block}
use Rattle.shadow_replay.proofs.BlockRead.{looked_up, looked_past}
use Rattle.shadow_replay.proofs.blocks.Blocks.at.Goals as goal

pub returns-in-Some : goal.returns-in-Some
returns-in-Some c m h =
    let rows = c.as_slice.result.now in
    let row = c.in-Some.row.now in
    let f = c.args.loc.func in
    let fits : SFits w32 c.args.loc.instr = search rules in
    let there = ap Some c.in-Some.ensures.lookup.1 ∙ sym (slice_get-get_or rows f row c.in-Some.ensures.lookup.3.0) in
    looked_up m c.args.loc rows (c.as_slice.ensures.value ∙ c.self.view_is ∙ h) row c.at.result there (c.at.ensures ∙ ap (row_block row) (to_z-of_z w32 c.args.loc.instr fits))

pub returns-in-None : goal.returns-in-None
returns-in-None c m h =
    let rows = c.as_slice.result.now in
    looked_past m c.args.loc rows (c.as_slice.ensures.value ∙ c.self.view_is ∙ h) (sym (slice_get_past rows c.args.loc.func c.in-None.ensures.lookup.3))
