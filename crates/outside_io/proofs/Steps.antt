-- What a crash leaves after each call, by what it might have left before.
use Rattle.std.proofs.Common.{◌≡◌, ◌≢◌, ◌⊎◌, inl, inr, ⊎_elim, ℕ, ◌+◌, ◌≤◌, min, List, [], ◌∷◌, ◌++◌, Option, Some, None, Result, Ok, Err, OnOk, OnErr, ap, sym, subst, refl, ◌∙◌, arith, append-nil, true, false}
use Rattle.std.specs.Result.{IsErr}
use Rattle.std.proofs.lemmas.Bool.{cases_eq}
use Rattle.outside_io.specs.Disk.{CrashMoved, Poured, UntouchedBut, UntouchedOff, counted}
use Rattle.outside_io.specs.Outside.{Contents, Rose, last_count, raised_count}
use Rattle.outside_io.specs.Whole.{Filled, IsForGood, IsFreeBeside, KeptWhole, OldBut, OldOrNew, RoseTwice, WroteWhole}
use Rattle.outside_io.specs.declared.outside.WriteFault.{WriteFault}

-- two texts are equal or they are not
pub decide : (a b : List ℕ) → (a ≡ b) ⊎ (a ≢ b)
decide [] [] = inl refl
decide [] (y ∷ ys) = inr (λ e. cc)
decide (x ∷ xs) [] = inr (λ e. cc)
decide (x ∷ xs) (y ∷ ys) = ⊎_elim
    (λ same. ⊎_elim (λ rest. let head : x ≡ y = same in inl (cc)) (λ other. inr (λ e. other (cc))) (decide xs ys))
    (λ apart. inr (λ e. let heads : x ≡ y = cc in absurd (apart heads)))
    (cases_eq x y)

-- a call that touches the new file alone
pub after_new : (fresh target bytes : List ℕ) (old new : Contents) (could mid may : List ℕ → Option (List ℕ) → Type 0) →
    ((p : List ℕ) (c : Option (List ℕ)) → mid p c → OldOrNew target bytes (Some fresh) could p c) → UntouchedBut fresh old new mid may
    → (p : List ℕ) (c : Option (List ℕ)) → may p c → OldOrNew target bytes (Some fresh) could p c
after_new fresh target bytes old new could mid may so_far touched p c left =
    ⊎_elim (λ here. inr (inr (ap Some (sym here)))) (λ other. so_far p c (touched.crash p other c left)) (decide p fresh)

-- the call that puts the new file under the target, if a crash leaves all bytes in it
pub after_move : (fresh target bytes : List ℕ) (could mid may : List ℕ → Option (List ℕ) → Type 0) (held : List ℕ → List ℕ → Type 0) →
    ((p : List ℕ) (c : Option (List ℕ)) → mid p c → OldOrNew target bytes (Some fresh) could p c)
    → ((b : List ℕ) → held fresh b → Some bytes ≡ Some b) → CrashMoved fresh target mid may held
    → (p : List ℕ) (c : Option (List ℕ)) → may p c → OldOrNew target bytes (Some fresh) could p c
after_move fresh target bytes could mid may held so_far whole moved p c left =
    ⊎_elim
    (λ here. inr (inr (ap Some (sym here))))
    (λ other. ⊎_elim
    (λ at.
    ⊎_elim
    (λ before. so_far p c (subst (λ (q : List ℕ). mid q c) (sym at) before))
    (λ new. inr (inl (at, new.2 ∙ sym (whole new.0 new.1))))
    (moved.either c (subst (λ (q : List ℕ). may q c) at left)))
    (λ elsewhere. so_far p c (moved.others p other elsewhere c left))
    (decide p target))
    (decide p fresh)

-- a clause on an answer, whatever the answer
pub any_err : {T E P : Type 0} (r : Result T E) → P → OnErr r P
any_err (Ok _) p = tt
any_err (Err _) p = p

pub ok_weaker : {T E P Q : Type 0} (r : Result T E) → (P → Q) → OnOk r P → OnOk r Q
ok_weaker (Ok _) f p = f p
ok_weaker (Err _) f p = tt

pub err_both : {T E P Q R : Type 0} (r : Result T E) → (P → Q → R) → OnErr r P → OnErr r Q → OnErr r R
err_both (Ok _) f p q = tt
err_both (Err _) f p q = f p q

-- what a run may leave is what one that began earlier may leave
pub lifted : (target bytes : List ℕ) (fresh : Option (List ℕ)) (could mid : List ℕ → Option (List ℕ) → Type 0) →
    ((p : List ℕ) (c : Option (List ℕ)) → mid p c → OldOrNew target bytes fresh could p c)
    → (p : List ℕ) (c : Option (List ℕ)) → OldOrNew target bytes fresh mid p c → OldOrNew target bytes fresh could p c
lifted target bytes fresh could mid here p c left = ⊎_elim (here p c) (λ rest. inr rest) left

pub free_beside : (fresh target : List ℕ) (old : Contents) → old fresh ≡ None → fresh ≢ target → IsFreeBeside target old (Some fresh)
free_beside fresh target old free apart place is =
    let same : fresh ≡ place = cc in
    (subst (λ (q : List ℕ). old q ≡ None) same free, subst (λ (q : List ℕ). q ≢ target) same apart)

-- after an error in the file that was being made: it is removed, or that is refused too
pub removed : (r : Result Unit WriteFault) (fresh target : List ℕ) (zero_ one two three : Contents) (f0 f1 f2 f3 : ℕ) →
    zero_ fresh ≡ None → fresh ≢ target → ((p : List ℕ) → p ≢ fresh → one p ≡ zero_ p) → ((p : List ℕ) → p ≢ fresh → two p ≡ one p)
    → ((p : List ℕ) → p ≢ fresh → three p ≡ two p) → OnOk r (three fresh ≡ None)
    → f1 ≡ f0 → f2 ≡ raised_count f1 → f3 ≡ counted r f2
    → KeptWhole target zero_ three f0 f3
removed (Ok _) fresh target zero_ one two three f0 f1 f2 f3 free apart first second third gone c1 c2 c3 =
    inl (λ p. ⊎_elim
    (λ here. subst (λ (q : List ℕ). three q ≡ zero_ q) (sym here) (gone ∙ sym free))
    (λ other. third p other ∙ second p other ∙ first p other)
    (decide p fresh))
removed (Err e) fresh target zero_ one two three f0 f1 f2 f3 free apart first second third gone c1 c2 c3 =
    let twice : RoseTwice f0 f3 = grind (arith) in
    inr (fresh, free, apart, twice, λ p other. third p other ∙ second p other ∙ first p other)

-- the sync of the folder is done, or it was refused
pub settled : {P : Type 0} (r : Result Unit WriteFault) (f0 f1 f2 f3 : ℕ) → OnOk r P → f1 ≡ f0 → f2 ≡ f1 → f3 ≡ counted r f2 → P ⊎ Rose f0 f3
settled (Ok _) f0 f1 f2 f3 done c1 c2 c3 = inl done
settled (Err e) f0 f1 f2 f3 done c1 c2 c3 = let rose : Rose f0 f3 = grind (arith) in inr rose

-- the file has its place
pub wrote : (fresh target bytes : List ℕ) (zero_ one two three : Contents) (holds : List ℕ → List ℕ → Type 0) →
    zero_ fresh ≡ None → fresh ≢ target → ((p : List ℕ) → p ≢ fresh → one p ≡ zero_ p) → Filled fresh target bytes one two holds
    → ((p : List ℕ) → three p ≡ two p) → WroteWhole target bytes zero_ three
wrote fresh target bytes zero_ one two three holds free apart first filled third = record {
  there = third target ∙ filled.there;
  others = λ p other. ⊎_elim
      (λ here. subst (λ (q : List ℕ). three q ≡ zero_ q) (sym here) (third fresh ∙ filled.gone ∙ sym free))
      (λ off. third p ∙ filled.others p off other ∙ first p off)
      (decide p fresh);
}

-- a write after a call that touched nothing
pub written_from : (at target bytes : List ℕ) (old mid new : Contents) → at ≡ target → ((p : List ℕ) → mid p ≡ old p) → WroteWhole at bytes mid new → WroteWhole target bytes old new
written_from at target bytes old mid new is same wrote_it =
    let there : WroteWhole target bytes mid new = subst (λ (q : List ℕ). WroteWhole q bytes mid new) is wrote_it in
    record { there = there.there; others = λ p other. there.others p other ∙ same p }

pub kept_from : (at target : List ℕ) (old mid new : Contents) (f0 f1 f2 : ℕ) → at ≡ target → ((p : List ℕ) → mid p ≡ old p) → f1 ≡ f0
    → KeptWhole at mid new f1 f2 → KeptWhole target old new f0 f2
kept_from at target old mid new f0 f1 f2 is same counts kept =
    ⊎_elim
    (λ all. inl (λ p. all p ∙ same p))
    (λ left. inr (
      left.0,
      sym (same left.0) ∙ left.1,
      subst (λ (q : List ℕ). left.0 ≢ q) is left.2,
      subst (λ (f : ℕ). RoseTwice f f2) counts left.3,
      λ p other. left.4 p other ∙ same p,
    ))
    kept

pub good_from : (at target bytes : List ℕ) (may_leave : List ℕ → Option (List ℕ) → Type 0) (f0 f1 f2 : ℕ) → at ≡ target → f1 ≡ f0
    → IsForGood at bytes may_leave ⊎ Rose f1 f2 → IsForGood target bytes may_leave ⊎ Rose f0 f2
good_from at target bytes may_leave f0 f1 f2 is counts either = ⊎_elim
    (λ good. inl (subst (λ (q : List ℕ). IsForGood q bytes may_leave) is good))
    (λ rose. inr (subst (λ (f : ℕ). Rose f f2) counts rose))
    either

pub free_from : (at target : List ℕ) (old mid : Contents) (fresh : Option (List ℕ)) → at ≡ target → ((p : List ℕ) → mid p ≡ old p)
    → IsFreeBeside at mid fresh → IsFreeBeside target old fresh
free_from at target old mid fresh is same free p here =
    (sym (same p) ∙ (free p here).0, subst (λ (q : List ℕ). p ≢ q) is (free p here).1)

pub err_weaker : {T E P Q : Type 0} (r : Result T E) → (P → Q) → OnErr r P → OnErr r Q
err_weaker (Ok _) f p = tt
err_weaker (Err _) f p = f p

-- what a crash may leave once something special took bytes, if they went to no other file than the open one
pub after_pour : (opened : Option (List ℕ)) (old new : Contents) (could mid may : List ℕ → Option (List ℕ) → Type 0) →
    ((p : List ℕ) (c : Option (List ℕ)) → mid p c → could p c) → UntouchedOff (λ p. opened ≡ Some p) old new mid may
    → (p : List ℕ) (c : Option (List ℕ)) → may p c → OldBut (λ q. opened ≡ Some q) could p c
after_pour None old new could mid may so_far touched p c left = inl (so_far p c (touched.crash p (λ e. cc) c left))
after_pour (Some at) old new could mid may so_far touched p c left =
    ⊎_elim
    (λ here. inr (ap Some here))
    (λ other. inl (so_far p c (touched.crash p (λ e. let same : at ≡ p = cc in other same) c left)))
    (decide at p)

-- something special took nothing, which is a prefix of any bytes
pub none_poured : {T E : Type 0} (r : Result T E) (bytes was is : List ℕ) → IsErr r → is ≡ was → Poured r bytes was is
none_poured (Ok _) bytes was is err same = let no : false ≡ true = err in absurd (cc)
none_poured (Err _) bytes was is err same = ([], (bytes, refl), same ∙ sym (append-nil was))
