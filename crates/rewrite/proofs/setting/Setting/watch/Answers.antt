use Rattle.std.proofs.Common.{◌∙◌, ap}
use Rattle.rewrite_needs.specs.Watching.{instr_watch}
use Rattle.rewrite.specs.Setting.{Setting}
use Rattle.rewrite.proofs.setting.Setting.watch.Goals as goal

pub returns : goal.returns
returns c = c.watch_of.ensures ∙ ap (λ (w : Setting). instr_watch w.site c.args.position c.args.instr.now) c.self.view_is
