use Rattle.std.proofs.Common.{◌≡◌, inl, ℕ, List, Option, Some, subst, ◌∙◌}
use Rattle.outside_io.specs.Whole.{OldBut, OldOrNew}
use Rattle.outside_io.proofs.Moments.{started, goes_on, joined}
use Rattle.outside_io.proofs.Steps.{after_pour, good_from, ok_weaker, err_weaker, lifted, written_from, kept_from, free_from}
use Rattle.outside_io.proofs.whole.write_whole.Goals as goal

pub returns-in-At-clause-written : goal.returns-in-At-clause-written
returns-in-At-clause-written g c = λ told target leads.
    let found = rw (leads, c.in-At.is) at (c.in_ok-place.ensures.found told) in
    let is : c.as_str.result.now ≡ target = c.as_str.ensures.value ∙ found in
    let still = c.find.ensures.untouched told in
    ok_weaker c.replace.result
    (λ w. written_from c.as_str.result.now target c.args.bytes.now (g.D.Disk.under c.args.disk.now) (g.D.Disk.under c.find.new.self) (g.D.Disk.under c.replace.new.disk) is still.same w)
    (c.replace.ensures.written told)

pub returns-in-At-clause-for_good : goal.returns-in-At-clause-for_good
returns-in-At-clause-for_good g c = λ told target leads.
    let found = rw (leads, c.in-At.is) at (c.in_ok-place.ensures.found told) in
    let is : c.as_str.result.now ≡ target = c.as_str.ensures.value ∙ found in
    ok_weaker c.replace.result
    (good_from c.as_str.result.now target c.args.bytes.now (g.D.Disk.may_leave c.replace.new.disk)
    (g.D.Disk.refusals c.args.disk.now) (g.D.Disk.refusals c.find.new.self) (g.D.Disk.refusals c.replace.new.disk) is c.in_ok-place.ensures.counts)
    (c.replace.ensures.for_good told)

pub returns-in-At-clause-kept : goal.returns-in-At-clause-kept
returns-in-At-clause-kept g c = λ told target leads.
    let found = rw (leads, c.in-At.is) at (c.in_ok-place.ensures.found told) in
    let is : c.as_str.result.now ≡ target = c.as_str.ensures.value ∙ found in
    let still = c.find.ensures.untouched told in
    err_weaker c.replace.result
    (λ w. kept_from c.as_str.result.now target (g.D.Disk.under c.args.disk.now) (g.D.Disk.under c.find.new.self) (g.D.Disk.under c.replace.new.disk)
    (g.D.Disk.refusals c.args.disk.now) (g.D.Disk.refusals c.find.new.self) (g.D.Disk.refusals c.replace.new.disk) is still.same c.in_ok-place.ensures.counts w)
    (c.replace.ensures.kept told)

pub returns-in-At-clause-any_moment : goal.returns-in-At-clause-any_moment
returns-in-At-clause-any_moment g c = λ told target leads.
    let found = rw (leads, c.in-At.is) at (c.in_ok-place.ensures.found told) in
    let is : c.as_str.result.now ≡ target = c.as_str.ensures.value ∙ found in
    let still = c.find.ensures.untouched told in
    let all = c.replace.ensures.any_moment told in
    let P = OldOrNew target c.args.bytes.now all.0 (g.D.Disk.may_leave c.args.disk.now) in
    let at_start = started g.D.Disk.moment g.D.Disk.left_since c.args.disk.now P (λ p o left. inl (g.met.D.Disk.only_now c.args.disk.now p o left)) in
    let here : (p : List ℕ) (o : Option (List ℕ)) → g.D.Disk.may_leave c.find.new.self p o → P p o = λ p o left. inl (still.crash p o left) in
    let run_1 = goes_on g.D.Disk.moment g.D.Disk.left_since c.args.disk.now c.args.disk.now c.find.new.self P _ at_start (c.find.ensures.time told) here in
    let lift : (p : List ℕ) (o : Option (List ℕ)) → OldOrNew c.as_str.result.now c.args.bytes.now all.0 (g.D.Disk.may_leave c.find.new.self) p o → P p o = λ p o left.
    lifted target c.args.bytes.now all.0 (g.D.Disk.may_leave c.args.disk.now) (g.D.Disk.may_leave c.find.new.self) here p o
    (subst (λ (q : List ℕ). OldOrNew q c.args.bytes.now all.0 (g.D.Disk.may_leave c.find.new.self) p o) is left) in (
      all.0,
      free_from c.as_str.result.now target (g.D.Disk.under c.args.disk.now) (g.D.Disk.under c.find.new.self) all.0 is still.same all.1,
      joined g.D.Disk.moment g.D.Disk.left_since c.args.disk.now c.find.new.self c.replace.new.disk P (OldOrNew c.as_str.result.now c.args.bytes.now all.0 (g.D.Disk.may_leave c.find.new.self)) run_1 all.2 lift,
    )

pub returns-in-Special-clause-any_moment_poured : goal.returns-in-Special-clause-any_moment_poured
returns-in-Special-clause-any_moment_poured g c = λ told opened leads.
    let P = OldBut (λ p. opened ≡ Some p) (g.D.Disk.may_leave c.args.disk.now) in
    let still = c.find.ensures.untouched told in
    let at_start = started g.D.Disk.moment g.D.Disk.left_since c.args.disk.now P (λ p o left. inl (g.met.D.Disk.only_now c.args.disk.now p o left)) in
    let here_1 : (p : List ℕ) (o : Option (List ℕ)) → g.D.Disk.may_leave c.find.new.self p o → P p o = λ p o left. inl (still.crash p o left) in
    let run_1 = goes_on g.D.Disk.moment g.D.Disk.left_since c.args.disk.now c.args.disk.now c.find.new.self P _ at_start (c.find.ensures.time told) here_1 in
    let others = rw (c.find.ensures.links told c.args.name.now ∙ leads) at (c.pour.ensures.others told) in
    let here_2 : (p : List ℕ) (o : Option (List ℕ)) → g.D.Disk.may_leave c.pour.new.self p o → P p o =
    after_pour opened (g.D.Disk.under c.find.new.self) (g.D.Disk.under c.pour.new.self) (g.D.Disk.may_leave c.args.disk.now) (g.D.Disk.may_leave c.find.new.self) (g.D.Disk.may_leave c.pour.new.self)
    (λ p o left. still.crash p o left) others in
    goes_on g.D.Disk.moment g.D.Disk.left_since c.args.disk.now c.find.new.self c.pour.new.self P _ run_1 (c.pour.ensures.time told) here_2
