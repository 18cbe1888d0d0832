use Rattle.std.proofs.Common.{◌∙◌, ap}
use Rattle.rewrite_needs.specs.Watching.{instr_watch, is_untold}
use Rattle.rewrite.specs.Setting.{Setting}
use Rattle.rewrite.proofs.setting.Setting.is_untold.Goals as goal

pub returns : goal.returns
returns c p =
    c.is_untold.ensures c.args.self.now.site p ∙ ap (λ (w : Setting). is_untold w.hooks (instr_watch c.args.self.now.site p c.args.instr.now)) c.self.view_is
