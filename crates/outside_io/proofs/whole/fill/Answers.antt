use Rattle.std.proofs.Common.{◌≡◌, inl, ℕ, List, Option, Some, sym, ◌∙◌}
use Rattle.outside_io.specs.Whole.{OldOrNew, Unfilled}
use Rattle.outside_io.proofs.Moments.{started, goes_on}
use Rattle.outside_io.proofs.Steps.{after_new, after_move, any_err, err_both, ok_weaker}
use Rattle.outside_io.proofs.whole.fill.Goals as goal

pub returns-in_err-write-clause-refused : goal.returns-in_err-write-clause-refused
returns-in_err-write-clause-refused g c = λ told fresh new.
    let wrote = c.write.ensures.others told fresh new.is_made in
    let kept : Unfilled fresh (g.D.Disk.under c.args.disk.now) (g.D.Disk.under c.write.new.self) (g.D.Disk.made c.write.new.self) = record { is_made = c.write.ensures.made told ∙ new.is_made; others = λ p off. wrote.same p off } in
    any_err _ kept

pub returns-in_err-keep_permissions-clause-refused : goal.returns-in_err-keep_permissions-clause-refused
returns-in_err-keep_permissions-clause-refused g c = λ told fresh new.
    let wrote = c.write.ensures.others told fresh new.is_made in
    let kept : Unfilled fresh (g.D.Disk.under c.args.disk.now) (g.D.Disk.under c.keep_permissions.new.self) (g.D.Disk.made c.keep_permissions.new.self) = record { is_made = c.keep_permissions.ensures.made told ∙ c.write.ensures.made told ∙ new.is_made; others = λ p off. (c.keep_permissions.ensures.untouched told).same p ∙ wrote.same p off } in
    any_err _ kept

pub returns-in_err-sync-clause-refused : goal.returns-in_err-sync-clause-refused
returns-in_err-sync-clause-refused g c = λ told fresh new.
    let wrote = c.write.ensures.others told fresh new.is_made in
    let kept : Unfilled fresh (g.D.Disk.under c.args.disk.now) (g.D.Disk.under c.sync.new.self) (g.D.Disk.made c.sync.new.self) = record { is_made = c.sync.ensures.made told ∙ c.keep_permissions.ensures.made told ∙ c.write.ensures.made told ∙ new.is_made; others = λ p off. (c.sync.ensures.untouched told).same p ∙ (c.keep_permissions.ensures.untouched told).same p ∙ wrote.same p off } in
    any_err _ kept

pub returns-in_err-write-clause-any_moment : goal.returns-in_err-write-clause-any_moment
returns-in_err-write-clause-any_moment g c = λ told fresh new.
    let P = OldOrNew c.args.place.now c.args.bytes.now (Some fresh) (g.D.Disk.may_leave c.args.disk.now) in
    let wrote = c.write.ensures.others told fresh new.is_made in
    let at_start = started g.D.Disk.moment g.D.Disk.left_since c.args.disk.now P (λ p o left. inl (g.met.D.Disk.only_now c.args.disk.now p o left)) in
    let here_1 : (p : List ℕ) (o : Option (List ℕ)) → g.D.Disk.may_leave c.write.new.self p o → P p o =
    after_new fresh c.args.place.now c.args.bytes.now _ _ (g.D.Disk.may_leave c.args.disk.now) (g.D.Disk.may_leave c.args.disk.now) (g.D.Disk.may_leave c.write.new.self) (λ p o left. inl left) wrote in
    let run_1 = goes_on g.D.Disk.moment g.D.Disk.left_since c.args.disk.now c.args.disk.now c.write.new.self P _ at_start (c.write.ensures.time told) here_1 in
    run_1

pub returns-in_err-keep_permissions-clause-any_moment : goal.returns-in_err-keep_permissions-clause-any_moment
returns-in_err-keep_permissions-clause-any_moment g c = λ told fresh new.
    let P = OldOrNew c.args.place.now c.args.bytes.now (Some fresh) (g.D.Disk.may_leave c.args.disk.now) in
    let wrote = c.write.ensures.others told fresh new.is_made in
    let at_start = started g.D.Disk.moment g.D.Disk.left_since c.args.disk.now P (λ p o left. inl (g.met.D.Disk.only_now c.args.disk.now p o left)) in
    let here_1 : (p : List ℕ) (o : Option (List ℕ)) → g.D.Disk.may_leave c.write.new.self p o → P p o =
    after_new fresh c.args.place.now c.args.bytes.now _ _ (g.D.Disk.may_leave c.args.disk.now) (g.D.Disk.may_leave c.args.disk.now) (g.D.Disk.may_leave c.write.new.self) (λ p o left. inl left) wrote in
    let run_1 = goes_on g.D.Disk.moment g.D.Disk.left_since c.args.disk.now c.args.disk.now c.write.new.self P _ at_start (c.write.ensures.time told) here_1 in
    let here_2 : (p : List ℕ) (o : Option (List ℕ)) → g.D.Disk.may_leave c.keep_permissions.new.self p o → P p o = λ p o left. here_1 p o ((c.keep_permissions.ensures.untouched told).crash p o left) in
    let run_2 = goes_on g.D.Disk.moment g.D.Disk.left_since c.args.disk.now c.write.new.self c.keep_permissions.new.self P _ run_1 (c.keep_permissions.ensures.time told) here_2 in
    run_2

pub returns-in_err-sync-clause-any_moment : goal.returns-in_err-sync-clause-any_moment
returns-in_err-sync-clause-any_moment g c = λ told fresh new.
    let P = OldOrNew c.args.place.now c.args.bytes.now (Some fresh) (g.D.Disk.may_leave c.args.disk.now) in
    let wrote = c.write.ensures.others told fresh new.is_made in
    let at_start = started g.D.Disk.moment g.D.Disk.left_since c.args.disk.now P (λ p o left. inl (g.met.D.Disk.only_now c.args.disk.now p o left)) in
    let here_1 : (p : List ℕ) (o : Option (List ℕ)) → g.D.Disk.may_leave c.write.new.self p o → P p o =
    after_new fresh c.args.place.now c.args.bytes.now _ _ (g.D.Disk.may_leave c.args.disk.now) (g.D.Disk.may_leave c.args.disk.now) (g.D.Disk.may_leave c.write.new.self) (λ p o left. inl left) wrote in
    let run_1 = goes_on g.D.Disk.moment g.D.Disk.left_since c.args.disk.now c.args.disk.now c.write.new.self P _ at_start (c.write.ensures.time told) here_1 in
    let here_2 : (p : List ℕ) (o : Option (List ℕ)) → g.D.Disk.may_leave c.keep_permissions.new.self p o → P p o = λ p o left. here_1 p o ((c.keep_permissions.ensures.untouched told).crash p o left) in
    let run_2 = goes_on g.D.Disk.moment g.D.Disk.left_since c.args.disk.now c.write.new.self c.keep_permissions.new.self P _ run_1 (c.keep_permissions.ensures.time told) here_2 in
    let here_3 : (p : List ℕ) (o : Option (List ℕ)) → g.D.Disk.may_leave c.sync.new.self p o → P p o = λ p o left. here_2 p o ((c.sync.ensures.untouched told).crash p o left) in
    let run_3 = goes_on g.D.Disk.moment g.D.Disk.left_since c.args.disk.now c.keep_permissions.new.self c.sync.new.self P _ run_2 (c.sync.ensures.time told) here_3 in
    run_3

pub returns-clause-any_moment : goal.returns-clause-any_moment
returns-clause-any_moment g c = λ told fresh new.
    let P = OldOrNew c.args.place.now c.args.bytes.now (Some fresh) (g.D.Disk.may_leave c.args.disk.now) in
    let wrote = c.write.ensures.others told fresh new.is_made in
    let at_start = started g.D.Disk.moment g.D.Disk.left_since c.args.disk.now P (λ p o left. inl (g.met.D.Disk.only_now c.args.disk.now p o left)) in
    let here_1 : (p : List ℕ) (o : Option (List ℕ)) → g.D.Disk.may_leave c.write.new.self p o → P p o =
    after_new fresh c.args.place.now c.args.bytes.now _ _ (g.D.Disk.may_leave c.args.disk.now) (g.D.Disk.may_leave c.args.disk.now) (g.D.Disk.may_leave c.write.new.self) (λ p o left. inl left) wrote in
    let run_1 = goes_on g.D.Disk.moment g.D.Disk.left_since c.args.disk.now c.args.disk.now c.write.new.self P _ at_start (c.write.ensures.time told) here_1 in
    let here_2 : (p : List ℕ) (o : Option (List ℕ)) → g.D.Disk.may_leave c.keep_permissions.new.self p o → P p o = λ p o left. here_1 p o ((c.keep_permissions.ensures.untouched told).crash p o left) in
    let run_2 = goes_on g.D.Disk.moment g.D.Disk.left_since c.args.disk.now c.write.new.self c.keep_permissions.new.self P _ run_1 (c.keep_permissions.ensures.time told) here_2 in
    let here_3 : (p : List ℕ) (o : Option (List ℕ)) → g.D.Disk.may_leave c.sync.new.self p o → P p o = λ p o left. here_2 p o ((c.sync.ensures.untouched told).crash p o left) in
    let run_3 = goes_on g.D.Disk.moment g.D.Disk.left_since c.args.disk.now c.keep_permissions.new.self c.sync.new.self P _ run_2 (c.sync.ensures.time told) here_3 in
    let has : g.D.Disk.under c.keep_permissions.new.self fresh ≡ Some c.args.bytes.now =
    (c.keep_permissions.ensures.untouched told).same fresh ∙ c.in_ok-write.ensures.wrote told fresh new.is_made _ new.empty in
    let made_2 : g.D.Disk.made c.keep_permissions.new.self ≡ Some fresh = c.keep_permissions.ensures.made told ∙ c.write.ensures.made told ∙ new.is_made in
    let made_3 : g.D.Disk.made c.sync.new.self ≡ Some fresh = c.sync.ensures.made told ∙ c.keep_permissions.ensures.made told ∙ c.write.ensures.made told ∙ new.is_made in
    let here_4 : (p : List ℕ) (o : Option (List ℕ)) → g.D.Disk.may_leave c.take_place.new.self p o → P p o =
    after_move fresh c.args.place.now c.args.bytes.now (g.D.Disk.may_leave c.args.disk.now) (g.D.Disk.may_leave c.sync.new.self) (g.D.Disk.may_leave c.take_place.new.self) (g.D.Disk.holds c.sync.new.self) here_3
    (λ b held. sym has ∙ c.in_ok-sync.ensures.durable told fresh made_2 b held) (c.take_place.ensures.crash told fresh made_3 new.apart) in
    goes_on g.D.Disk.moment g.D.Disk.left_since c.args.disk.now c.sync.new.self c.take_place.new.self P _ run_3 (c.take_place.ensures.time told) here_4

pub returns-clause-filled : goal.returns-clause-filled
returns-clause-filled g c = λ told fresh new.
    let wrote = c.write.ensures.others told fresh new.is_made in
    let has : g.D.Disk.under c.keep_permissions.new.self fresh ≡ Some c.args.bytes.now =
    (c.keep_permissions.ensures.untouched told).same fresh ∙ c.in_ok-write.ensures.wrote told fresh new.is_made _ new.empty in
    let made_2 : g.D.Disk.made c.keep_permissions.new.self ≡ Some fresh = c.keep_permissions.ensures.made told ∙ c.write.ensures.made told ∙ new.is_made in
    let made_3 : g.D.Disk.made c.sync.new.self ≡ Some fresh = c.sync.ensures.made told ∙ c.keep_permissions.ensures.made told ∙ c.write.ensures.made told ∙ new.is_made in
    ok_weaker c.take_place.result (λ moved. record {
      there = moved.there ∙ (c.sync.ensures.untouched told).same fresh ∙ has;
      gone = moved.gone;
      others = λ p off elsewhere. moved.others p off elsewhere ∙ (c.sync.ensures.untouched told).same p ∙ (c.keep_permissions.ensures.untouched told).same p ∙ wrote.same p off;
      for_good = λ b held. sym (c.in_ok-sync.ensures.durable told fresh made_2 b (moved.same_file b held)) ∙ has;
    }) (c.take_place.ensures.moved told fresh made_3 new.apart)

pub returns-clause-refused : goal.returns-clause-refused
returns-clause-refused g c = λ told fresh new.
    let wrote = c.write.ensures.others told fresh new.is_made in
    let made_3 : g.D.Disk.made c.sync.new.self ≡ Some fresh = c.sync.ensures.made told ∙ c.keep_permissions.ensures.made told ∙ c.write.ensures.made told ∙ new.is_made in
    err_both c.take_place.result (λ same made. record { is_made = made ∙ made_3; others = λ p off. same p ∙ (c.sync.ensures.untouched told).same p ∙ (c.keep_permissions.ensures.untouched told).same p ∙ wrote.same p off }) (c.take_place.ensures.refused told) (c.take_place.ensures.made told)
