use Rattle.std.proofs.Common.{◌≡◌, ◌∙◌, ◌++◌, ◌∷◌, [], ap, sym, subst, rules}
use Rattle.std.proofs.lemmas.Result.{on_ok_weaker}
use Rattle.wasm_num.specs.declared.BlockKind.TheVariants as kinds
use Rattle.module_ast.specs.Lists.{when}
use Rattle.module_ast.specs.Places.{function_scope}
use Rattle.module_ast.specs.Structure.{onto, done}
use Rattle.i64_split.specs.Pushing.{instrs}
use Rattle.rewrite.specs.Templates.{tell_results}
use Rattle.rewrite_needs.specs.Temporaries.{close_temps}
use Rattle.rewrite.specs.Live.{rest_code}
use Rattle.rewrite.specs.Emitted.{HasRoom, block_end_code}
use Rattle.rewrite.proofs.Joined.{closed_function}
use Rattle.rewrite.proofs.setting.Setting.close_function.Goals as goal

pub push_results-requires : goal.push_results-requires
push_results-requires c =
    let w = c.args.self.now in
    subst (λ live. HasRoom w.pool (when live (close_temps w.hooks w.site kinds.Function))) c.if-not-live.false c.requires.room

pub returns-then-not-live : goal.returns-then-not-live
returns-then-not-live c =
    let w = c.args.self.now in
    ap (λ live. onto c.args.code.now.items (rest_code w (function_scope w.site.body.code ∷ []) live 0 done)) (sym c.if-not-live.true)

pub returns : goal.returns
returns c =
    let w = c.args.self.now in
    let f = function_scope w.site.body.code in
    let old = c.args.code.now.items in
    let mid = c.push_results.new.code.items in
    let new = c.push_end.new.code.items in
    let results : mid ≡ old ++ instrs (tell_results w c.args.function.end) = search rules in
    on_ok_weaker c.push_end.result (λ (told : new ≡ mid ++ instrs (block_end_code w c.end_of.result)).
    closed_function w f c.args.function old mid new c.requires.function results (told ∙ ap (λ x. mid ++ instrs (block_end_code w x)) c.end_of.ensures)
    ∙ ap (λ live. onto old (rest_code w (f ∷ []) live 0 done)) (sym c.if-not-live.false)) c.push_end.ensures
