use Rattle.rewrite.proofs.Sizable.{site_narrow, site_bytes}
use Rattle.rewrite.proofs.size.size_of.Goals as goal

pub rewritten_length-requires-clause-narrow : goal.rewritten_length-requires-clause-narrow
rewritten_length-requires-clause-narrow c =
    site_narrow c.args.body.module c.marks.ensures.typed.whole c.args.body.defined c.in_ok-setting.setting.site c.in_ok-setting.ensures.site

pub rewritten_length-requires-clause-short : goal.rewritten_length-requires-clause-short
rewritten_length-requires-clause-short c =
    site_bytes c.args.body.module c.marks.ensures.typed.whole c.args.body.defined c.in_ok-setting.setting.site c.in_ok-setting.ensures.site
