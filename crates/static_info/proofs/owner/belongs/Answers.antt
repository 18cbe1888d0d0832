use Rattle.std.proofs.Common.{length, sym, ap, subst, IsTrue}
use Rattle.std.proofs.lemmas.Bool.{eqb-true, eq-eqb}
use Rattle.static_info.proofs.Followed.{belongs_not, belongs_at_end, none_of_empty}
use Rattle.static_info.proofs.owner.belongs.Goals as goal

pub returns-then-not-branch : goal.returns-then-not-branch
returns-then-not-branch c =
    belongs_not c.args.m.now c.args.info.now.imports c.args.info.now.hooks c.loop-import.following.own c.loop-import.following.hooks.now c.follows.new.self.hooks.now c.follows.new.self.own
    c.as_slice-import-items.result.now c.loop-import.import-index c.import-item.result c.in-Func.index c.in_ok-follows.field-0
    c.loop-import.invariant c.loop-import-test.true c.import-item.is c.in-Func.is c.if-not-branch.true c.in_ok-follows.ensures

pub returns-then-following-eq0 : goal.returns-then-following-eq0
returns-then-following-eq0 c =
    belongs_at_end c.args.m.now c.args.info.now.imports c.args.info.now.hooks c.loop-import.following.own c.loop-import.following.hooks.now c.as_slice-import-items.result.now c.loop-import.import-index c.is_empty.result
    c.loop-import.invariant c.loop-import-test.false
    (λ t. (c.if-following-eq0.true, none_of_empty c.loop-import.following.hooks.now (subst IsTrue c.is_empty.ensures t)))
    (λ h. subst IsTrue (sym c.is_empty.ensures) (eq-eqb _ _ (ap length h.1)))

pub returns-else-following-eq0 : goal.returns-else-following-eq0
returns-else-following-eq0 c =
    belongs_at_end c.args.m.now c.args.info.now.imports c.args.info.now.hooks c.loop-import.following.own c.loop-import.following.hooks.now c.as_slice-import-items.result.now c.loop-import.import-index _
    c.loop-import.invariant c.loop-import-test.false
    (λ t. absurd (c.if-following-eq0.false (eqb-true _ _ t)))
    (λ h. absurd (c.if-following-eq0.false h.0))
