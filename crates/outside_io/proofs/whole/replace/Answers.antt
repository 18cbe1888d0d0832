use Rattle.std.proofs.Common.{inl, ℕ, List, Option, Some}
use Rattle.outside_io.specs.Whole.{OldOrNew, IsNew}
use Rattle.outside_io.proofs.Moments.{started, goes_on, joined}
use Rattle.outside_io.proofs.Steps.{after_new, lifted, free_beside, removed}
use Rattle.outside_io.proofs.whole.replace.Goals as goal

pub returns-in-Err-clause-any_moment : goal.returns-in-Err-clause-any_moment
returns-in-Err-clause-any_moment g c = λ told.
    let created = c.in_ok-create.ensures.created told in
    let fresh = created.0 in
    let new = created.1 in
    let is_new : IsNew fresh c.args.place.now (g.D.Disk.made c.create.new.self) (g.D.Disk.under c.create.new.self) = record { is_made = new.is_made; apart = new.apart; empty = new.empty } in
    let P = OldOrNew c.args.place.now c.args.bytes.now (Some fresh) (g.D.Disk.may_leave c.args.disk.now) in
    let at_start = started g.D.Disk.moment g.D.Disk.left_since c.args.disk.now P (λ p o left. inl (g.met.D.Disk.only_now c.args.disk.now p o left)) in
    let here_1 : (p : List ℕ) (o : Option (List ℕ)) → g.D.Disk.may_leave c.create.new.self p o → P p o =
    after_new fresh c.args.place.now c.args.bytes.now _ _ (g.D.Disk.may_leave c.args.disk.now) (g.D.Disk.may_leave c.args.disk.now) (g.D.Disk.may_leave c.create.new.self) (λ p o left. inl left) new.others in
    let run_1 = goes_on g.D.Disk.moment g.D.Disk.left_since c.args.disk.now c.args.disk.now c.create.new.self P _ at_start (c.create.ensures.time told) here_1 in
    let run_2 = joined g.D.Disk.moment g.D.Disk.left_since c.args.disk.now c.create.new.self c.fill.new.disk P (OldOrNew c.args.place.now c.args.bytes.now (Some fresh) (g.D.Disk.may_leave c.create.new.self)) run_1 (c.fill.ensures.any_moment told fresh is_new)
    (lifted c.args.place.now c.args.bytes.now (Some fresh) (g.D.Disk.may_leave c.args.disk.now) (g.D.Disk.may_leave c.create.new.self) here_1) in
    let here_2 : (p : List ℕ) (o : Option (List ℕ)) → g.D.Disk.may_leave c.fill.new.disk p o → P p o =
    λ p o left. run_2.each p o (g.met.D.Disk.counts_now c.fill.new.disk (g.D.Disk.moment c.args.disk.now) p o run_2.later left) in
    let left = c.in-Err.ensures.refused told fresh is_new in
    let here_3 : (p : List ℕ) (o : Option (List ℕ)) → g.D.Disk.may_leave c.remove.new.self p o → P p o =
    after_new fresh c.args.place.now c.args.bytes.now _ _ (g.D.Disk.may_leave c.args.disk.now) (g.D.Disk.may_leave c.fill.new.disk) (g.D.Disk.may_leave c.remove.new.self) here_2 (c.remove.ensures.others told fresh left.is_made) in
    (Some fresh, free_beside fresh c.args.place.now _ new.free new.apart, goes_on g.D.Disk.moment g.D.Disk.left_since c.args.disk.now c.fill.new.disk c.remove.new.self P _ run_2 (c.remove.ensures.time told) here_3)

pub returns-in-Err-clause-kept : goal.returns-in-Err-clause-kept
returns-in-Err-clause-kept g c = λ told.
    let created = c.in_ok-create.ensures.created told in
    let fresh = created.0 in
    let new = created.1 in
    let is_new : IsNew fresh c.args.place.now (g.D.Disk.made c.create.new.self) (g.D.Disk.under c.create.new.self) = record { is_made = new.is_made; apart = new.apart; empty = new.empty } in
    let left = c.in-Err.ensures.refused told fresh is_new in
    removed c.remove.result fresh c.args.place.now (g.D.Disk.under c.args.disk.now) (g.D.Disk.under c.create.new.self) (g.D.Disk.under c.fill.new.disk) (g.D.Disk.under c.remove.new.self)
    (g.D.Disk.refusals c.args.disk.now) (g.D.Disk.refusals c.create.new.self) (g.D.Disk.refusals c.fill.new.disk) (g.D.Disk.refusals c.remove.new.self)
    new.free new.apart new.others.same left.others (c.remove.ensures.others told fresh left.is_made).same (c.remove.ensures.removed told fresh left.is_made)
    c.in_ok-create.ensures.counts c.in-Err.ensures.counts c.remove.ensures.counts

pub returns-clause-any_moment : goal.returns-clause-any_moment
returns-clause-any_moment g c = λ told.
    let created = c.in_ok-create.ensures.created told in
    let fresh = created.0 in
    let new = created.1 in
    let is_new : IsNew fresh c.args.place.now (g.D.Disk.made c.create.new.self) (g.D.Disk.under c.create.new.self) = record { is_made = new.is_made; apart = new.apart; empty = new.empty } in
    let P = OldOrNew c.args.place.now c.args.bytes.now (Some fresh) (g.D.Disk.may_leave c.args.disk.now) in
    let at_start = started g.D.Disk.moment g.D.Disk.left_since c.args.disk.now P (λ p o left. inl (g.met.D.Disk.only_now c.args.disk.now p o left)) in
    let here_1 : (p : List ℕ) (o : Option (List ℕ)) → g.D.Disk.may_leave c.create.new.self p o → P p o =
    after_new fresh c.args.place.now c.args.bytes.now _ _ (g.D.Disk.may_leave c.args.disk.now) (g.D.Disk.may_leave c.args.disk.now) (g.D.Disk.may_leave c.create.new.self) (λ p o left. inl left) new.others in
    let run_1 = goes_on g.D.Disk.moment g.D.Disk.left_since c.args.disk.now c.args.disk.now c.create.new.self P _ at_start (c.create.ensures.time told) here_1 in
    let run_2 = joined g.D.Disk.moment g.D.Disk.left_since c.args.disk.now c.create.new.self c.fill.new.disk P (OldOrNew c.args.place.now c.args.bytes.now (Some fresh) (g.D.Disk.may_leave c.create.new.self)) run_1 (c.fill.ensures.any_moment told fresh is_new)
    (lifted c.args.place.now c.args.bytes.now (Some fresh) (g.D.Disk.may_leave c.args.disk.now) (g.D.Disk.may_leave c.create.new.self) here_1) in
    let here_2 : (p : List ℕ) (o : Option (List ℕ)) → g.D.Disk.may_leave c.fill.new.disk p o → P p o =
    λ p o left. run_2.each p o (g.met.D.Disk.counts_now c.fill.new.disk (g.D.Disk.moment c.args.disk.now) p o run_2.later left) in
    let here_3 : (p : List ℕ) (o : Option (List ℕ)) → g.D.Disk.may_leave c.settle.new.self p o → P p o =
    λ p o left. here_2 p o ((c.settle.ensures.untouched told).crash p o left) in
    (Some fresh, free_beside fresh c.args.place.now _ new.free new.apart, goes_on g.D.Disk.moment g.D.Disk.left_since c.args.disk.now c.fill.new.disk c.settle.new.self P _ run_2 (c.settle.ensures.time told) here_3)
