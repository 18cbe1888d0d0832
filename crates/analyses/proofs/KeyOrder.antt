-- The order of keys: a total one, in which keys that tie are the same.
use Rattle.std.proofs.Common.{◌≡◌, ℕ, ℤ, refl, ap, sym, ◌∙◌}
use Rattle.std.specs.Ordering.{nat_cmp, int_cmp, ordering_then, ordering_reverse}
use Rattle.std.specs.declared.cmp.Ordering.{Ordering}
use Rattle.std.specs.declared.cmp.Ordering.TheVariants.{Less, Equal, Greater}
use Rattle.std.specs.Cmp.{IsTotalOrder}
use Rattle.std.proofs.lemmas.Cmp.{nat_cmp_total, int_cmp_total, on_total, then_total}
use Rattle.std.proofs.lemmas.Map.Lookups.{exact_unsigned, exact_signed}
use Rattle.analyses.specs.Book.{Key, key_cmp}

pub key_cmp_total : IsTotalOrder key_cmp
key_cmp_total =
    then_total (on_total (λ (k : Key). k.func) nat_cmp_total)
    (then_total (on_total (λ (k : Key). k.instr) int_cmp_total)
    (then_total (on_total (λ (k : Key). k.tag) nat_cmp_total) (on_total (λ (k : Key). k.other) nat_cmp_total)))

-- an order that answers as another does of what f shows
pub total_by : {A B : Type 0} (f : A → B) {R : A → A → Ordering} {S : B → B → Ordering} → IsTotalOrder S → ((x y : A) → R x y ≡ S (f x) (f y)) → IsTotalOrder R
total_by f total same = record {
  antisymm = λ x y. same x y ∙ total.antisymm (f x) (f y) ∙ ap ordering_reverse (sym (same y x));
  trans = λ x y z p q. same x z ∙ total.trans (f x) (f y) (f z) (sym (same x y) ∙ p) (sym (same y z) ∙ q);
  congr = λ x y z p. same x z ∙ total.congr (f x) (f y) (f z) (sym (same x y) ∙ p) ∙ sym (same y z);
}

both_tie : (o p : Ordering) → ordering_then o p ≡ Equal → (o ≡ Equal) × (p ≡ Equal)
both_tie Less p tied = cc
both_tie Equal p tied = (refl, tied)
both_tie Greater p tied = cc

abbrev key_with : ℕ → ℤ → ℕ → ℕ → Key
key_with func instr tag other = record { func = func; instr = instr; tag = tag; other = other }

same_parts : (f g : ℕ) (i j : ℤ) (t u v w : ℕ) → f ≡ g → i ≡ j → t ≡ u → v ≡ w → key_with f i t v ≡ key_with g j u w
same_parts f g i j t u v w a b c d = cc

-- keys that tie are the same
pub key_cmp_same : (a b : Key) → key_cmp a b ≡ Equal → a ≡ b
key_cmp_same a b tied =
    let first = both_tie (nat_cmp a.func b.func) _ tied in
    let second = both_tie (int_cmp a.instr b.instr) _ first.1 in
    let third = both_tie (nat_cmp a.tag b.tag) (nat_cmp a.other b.other) second.1 in
    same_parts a.func b.func a.instr b.instr a.tag b.tag a.other b.other
    (exact_unsigned a.func b.func first.0) (exact_signed a.instr b.instr second.0)
    (exact_unsigned a.tag b.tag third.0) (exact_unsigned a.other b.other third.1)
