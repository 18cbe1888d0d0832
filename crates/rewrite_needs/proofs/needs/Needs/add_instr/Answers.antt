use Rattle.std.proofs.Common.{◌∙◌, ◌∷◌, [], ap, sym}
use Rattle.std.proofs.lemmas.Result.{on_ok_weaker}
use Rattle.module_ast.specs.Structure.{plain_of}
use Rattle.rewrite_needs.specs.declared.needs.Needs.{Needs}
use Rattle.rewrite_needs.specs.Watching.{watch_at}
use Rattle.rewrite_needs.specs.Needing.{with_needed}
use Rattle.rewrite_needs.proofs.Rows.{has_key, has_no_key, watched_keys, other_keys, untold_keys}
use Rattle.rewrite_needs.proofs.needs.Needs.add_instr.Goals as goal

pub returns-then-is_untold : goal.returns-then-is_untold
returns-then-is_untold c =
    let n = c.args.self.now in
    let s = c.args.site.now in
    let p = c.args.position in
    ap (λ t. let n : Needs = record n { table = t } in n) (sym (untold_keys s p n.hooks n.table (plain_of c.args.instr.now) (sym (c.is_untold.ensures s p) ∙ c.if-is_untold.true)))

pub returns-in-Some : goal.returns-in-Some
returns-in-Some c =
    let s = c.args.site.now in
    let p = c.args.position in
    let o = plain_of c.args.instr.now in
    let x = has_key (watch_at s p o) c.in-Some.key (sym c.key_of.ensures ∙ c.in-Some.is) in
    let same = watched_keys s p o x.0 x.1 ∙ ap (λ k. k ∷ []) x.2 in
    on_ok_weaker c.add.result (λ e. e ∙ ap (with_needed c.args.self.now) (sym same)) c.add.ensures.ok

pub returns-in-None : goal.returns-in-None
returns-in-None c =
    let s = c.args.site.now in
    let p = c.args.position in
    let o = plain_of c.args.instr.now in
    let same = other_keys s p o (has_no_key (watch_at s p o) (sym c.key_of.ensures ∙ c.in-None.is)) in
    on_ok_weaker c.add_branch.result (λ e. e ∙ ap (with_needed c.args.self.now) (sym same)) (c.add_branch.ensures p)
