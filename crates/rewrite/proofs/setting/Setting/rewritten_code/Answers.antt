use Rattle.std.proofs.Common.{◌∙◌, ap, sym, subst, true}
use Rattle.wasm_num.specs.declared.BlockKind.TheVariants as kinds
use Rattle.wasm_sem.specs.Types.{Body}
use Rattle.module_ast.specs.Lists.{when}
use Rattle.module_ast.specs.Places.{ends_live}
use Rattle.rewrite.specs.Setting.{Setting}
use Rattle.rewrite_needs.specs.Temporaries.{close_temps, code_temps}
use Rattle.rewrite.specs.Emitted.{HasRoom}
use Rattle.rewrite.proofs.ReadyRoom.{ready_room}
use Rattle.rewrite.proofs.setting.Setting.rewritten_code.Goals as goal

pub push_code-requires-clause-room : goal.push_code-requires-clause-room
push_code-requires-clause-room g c =
    let w = c.args.self.now in
    subst (λ (b : Body). HasRoom w.pool (code_temps w.hooks w.site 0 b.code)) (sym (c.body.ensures ∙ ap (λ (x : Setting). x.site.body) c.self.view_is)) (ready_room w c.requires).0

pub close_function-requires-clause-room : goal.close_function-requires-clause-room
close_function-requires-clause-room g c =
    let w = c.args.self.now in
    subst (λ live. HasRoom w.pool (when live (close_temps w.hooks w.site kinds.Function)))
    (sym (c.in_ok-live.ensures.live ∙ ap (λ (b : Body). ends_live true b.code) (c.body.ensures ∙ ap (λ (x : Setting). x.site.body) c.self.view_is))) (ready_room w c.requires).1
