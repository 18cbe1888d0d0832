use Rattle.std.proofs.Common.{◌∙◌, ap, sym}
use Rattle.module_ast.specs.Structure.{plain_of}
use Rattle.rewrite_needs.specs.Watching.{watch_at}
use Rattle.rewrite_needs.specs.Room.{widened}
use Rattle.rewrite_needs.proofs.Rows.{has_nothing_told, other_temps, untold_temps, told_temps}
use Rattle.rewrite_needs.proofs.pool.Room.or_instr.Goals as goal

pub returns-then-is_untold : goal.returns-then-is_untold
returns-then-is_untold c =
    let s = c.args.site.now in
    let p = c.args.position in
    ap (widened c.args.self) (sym (untold_temps s p c.args.hooks (plain_of c.args.instr.now) (sym (c.is_untold.ensures s p) ∙ c.if-is_untold.true)))

pub returns-in-Some : goal.returns-in-Some
returns-in-Some c =
    let s = c.args.site.now in
    let p = c.args.position in
    let called = sym (c.is_untold.ensures s p) ∙ c.if-is_untold.false in
    let same = told_temps s p c.args.hooks (plain_of c.args.instr.now) c.in-Some.told called (sym c.telling_of.ensures ∙ c.in-Some.is) in
    c.or_told.ensures ∙ ap (widened c.args.self) (sym same)

pub returns-in-None : goal.returns-in-None
returns-in-None c =
    let s = c.args.site.now in
    let p = c.args.position in
    let o = plain_of c.args.instr.now in
    let same = other_temps s p c.args.hooks o (has_nothing_told (watch_at s p o) (sym c.telling_of.ensures ∙ c.in-None.is)) in
    c.or_branch.ensures ∙ ap (widened c.args.self) (sym same)
