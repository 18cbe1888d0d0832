-- Where contents are told, a plan leads to one ending, or comes to one read that gives nothing.
use Rattle.std.proofs.Common.{◌≡◌, ℕ, inl, inr, length, refl, sym, ap, subst, ◌∙◌, arith, Some}
use Rattle.outside_io.specs.Outside.{Contents}
use Rattle.app_load.specs.Wants.{content, Value, Read, Gives}
use Rattle.app_load.specs.Plans.{Ending, Plan, reads, ends, LeadsTo, ComesTo}
use Rattle.app_load.specs.Ends.{IsBad, absent, over, wrong}
use Rattle.app_load.proofs.WantLaws.{laws}

-- a name has one list of bytes, and so gives one thing
gives_once : (contents : Contents) (read : Read) (a b : Value read.want) → Gives (Some contents) read a → Gives (Some contents) read b → a ≡ b
gives_once contents read a b p q =
    let g = p.read_well.there in
    let h = q.read_well.there in
    let one : p.bytes ≡ q.bytes = cc in
    (laws read.want).one_value q.bytes a b (subst (λ x. (content read.want).Spell x a) one p.spelled) q.spelled

pub leads_once : (contents : Contents) (plan : Plan) (a b : Ending) → LeadsTo (Some contents) plan a → LeadsTo (Some contents) plan b → a ≡ b
leads_once contents (reads read next) a b (v, g, p) (w, h, q) =
    leads_once contents (next w) a b (subst (λ x. LeadsTo (Some contents) (next x) a) (gives_once contents read v w g h) p) q
leads_once contents (ends e) a b p q = sym p ∙ q

-- what is bad gives nothing
bad_not_given : (contents : Contents) (read : Read) (status : ℕ) (value : Value read.want) → IsBad contents read status
    → Gives (Some contents) read value → ⊥
bad_not_given contents read _ value (absent p) g = let h = g.read_well.there in cc
bad_not_given contents read _ value (over bytes p n) g =
    let h = g.read_well.there in
    let e : bytes ≡ g.bytes = cc in
    omega (arith, ap length e, n, g.read_well.short)
bad_not_given contents read _ value (wrong bytes status p n w) g =
    let h = g.read_well.there in
    let e : bytes ≡ g.bytes = cc in
    (laws read.want).not_wrong g.bytes value status g.spelled (subst (λ x. (content read.want).IsWrong x status) e w)

bad_once : (contents : Contents) (read : Read) (a b : ℕ) → IsBad contents read a → IsBad contents read b → a ≡ b
bad_once contents read _ _ (absent p) (wrong bytes b q n w) = cc
bad_once contents read _ _ (over bytes p n) (wrong other b q m w) =
    let e : bytes ≡ other = cc in
    absurd (omega (arith, ap length e, n, m))
bad_once contents read _ _ (wrong bytes a p n v) (absent q) = cc
bad_once contents read _ _ (wrong bytes a p n v) (over other q m) =
    let e : bytes ≡ other = cc in
    absurd (omega (arith, ap length e, n, m))
bad_once contents read _ _ (wrong bytes a p n v) (wrong other b q m w) =
    let e : bytes ≡ other = cc in
    (laws read.want).one_wrong other a b (subst (λ x. (content read.want).IsWrong x a) e v) w
bad_once contents read _ _ p q = refl

pub comes_once : (contents : Contents) (plan : Plan) (x y : Read) (a b : ℕ) → ComesTo (Some contents) plan x → IsBad contents x a
    → ComesTo (Some contents) plan y → IsBad contents y b → a ≡ b
comes_once contents (ends e) x y a b p f q g = absurd p
comes_once contents (reads first next) x y a b (inl e) f (inl h) g =
    bad_once contents first a b (subst (λ r. IsBad contents r a) (sym e) f) (subst (λ r. IsBad contents r b) (sym h) g)
comes_once contents (reads first next) x y a b (inl e) f (inr (v, given, q)) g =
    absurd (bad_not_given contents first a v (subst (λ r. IsBad contents r a) (sym e) f) given)
comes_once contents (reads first next) x y a b (inr (v, given, p)) f (inl h) g =
    absurd (bad_not_given contents first b v (subst (λ r. IsBad contents r b) (sym h) g) given)
comes_once contents (reads first next) x y a b (inr (v, given, p)) f (inr (w, taken, q)) g =
    comes_once contents (next w) x y a b (subst (λ z. ComesTo (Some contents) (next z) x) (gives_once contents first v w given taken) p) f q g

pub comes_not_leads : (contents : Contents) (plan : Plan) (x : Read) (a : ℕ) (e : Ending) → ComesTo (Some contents) plan x → IsBad contents x a
    → LeadsTo (Some contents) plan e → ⊥
comes_not_leads contents (ends k) x a e p f l = p
comes_not_leads contents (reads first next) x a e (inl h) f (v, given, l) =
    bad_not_given contents first a v (subst (λ r. IsBad contents r a) (sym h) f) given
comes_not_leads contents (reads first next) x a e (inr (w, taken, p)) f (v, given, l) =
    comes_not_leads contents (next v) x a e (subst (λ z. ComesTo (Some contents) (next z) x) (gives_once contents first w v taken given) p) f l
