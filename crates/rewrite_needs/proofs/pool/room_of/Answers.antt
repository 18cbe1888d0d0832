use Rattle.std.proofs.Common.{◌∙◌, ap}
use Rattle.wasm_sem.specs.Types.{Body}
use Rattle.rewrite_needs.specs.Room.{behind_code}
use Rattle.rewrite_needs.proofs.Room.{entry, last_room, body_measured}
use Rattle.rewrite_needs.proofs.pool.room_of.Goals as goal

pub returns : goal.returns
returns c =
    let hooks = c.args.hooks in
    let s = c.args.site.now in
    let end = c.behind_code-end.ensures ∙ ap (λ (b : Body). behind_code hooks s b.code entry) c.body.ensures in
    c.or_types.ensures ∙ last_room _ _ _ _ _ _ end c.has.ensures c.results.ensures ∙ body_measured hooks s
