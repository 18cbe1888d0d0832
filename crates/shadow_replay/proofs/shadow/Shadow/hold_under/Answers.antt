use Rattle.std.proofs.Common.{[], ◌∙◌, ap}
use Rattle.shadow_replay.specs.Stacked.{Standing, exchanged}
use Rattle.shadow_replay.specs.Replayed.{Replay, with_standing, standing_in}
use Rattle.shadow_replay.proofs.ShadowTakes.{seen_in}
use Rattle.shadow_replay.proofs.ShadowBranches.{Drops, branch_takes}
use Rattle.shadow_replay.proofs.shadow.Shadow.hold_under.Goals as goal

pub returns-clause-ok : goal.returns-clause-ok
returns-clause-ok c =
    let mid = c.hold.new.self in
    let seen = seen_in c.self.view_is in
    let put : Standing → Replay = λ st. record seen { shadow = with_standing st seen.shadow } in
    let drops : Drops mid (put c.pop.new.self) = ap put c.pop.ensures ∙ ap (λ (r : Replay). (let t : Replay = record r { shadow = with_standing (exchanged 1 [] (standing_in r.shadow)) r.shadow } in t)) c.self.view_is in
    branch_takes c.args.label c.args.self.now mid _ c.requires.fit c.in_ok-hold.ensures.ok drops
