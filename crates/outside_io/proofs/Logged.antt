-- One change more.
use Rattle.std.proofs.Common.{◌≡◌, ◌≢◌, ◌⊎◌, inl, inr, ⊎_elim, ℕ, ◌+◌, ◌≤◌, ◌<◌, List, [], ◌∷◌, ◌++◌, length, take, get_or, Option, Some, None, option_map, String, string_bytes, Result, Ok, Err, OnOk, OnErr, Bool, true, false, refl, sym, ◌∙◌, ap, subst, arith, rules, length-append}
use Rattle.std.proofs.lemmas.Bool.{cases_lt}
use Rattle.std.proofs.lemmas.List.{take_all, take-append-le, take_more}
use Rattle.std.specs.declared.alloc.Global.{Global}
use Rattle.std.proofs.lemmas.Slice.Eq.{bytes_eq-Decides}
use Rattle.std.specs.Str.{bytes_eq}
use Rattle.outside_io.proofs.Steps.{decide}
use Rattle.outside_io.specs.Outside.{Contents}
use Rattle.outside_io.specs.Disk.{Appended, CrashMoved, Created, Elapses, Moved, UntouchedBut}
use Rattle.outside_io.specs.Log.{after, changed, is_named, log_contents, nothing, Since, Pushed, MadeFile, AppendedFile, RenamedFile, RemovedFile}
use Rattle.outside_io.specs.declared.memory_disk.Change.{Change}

pub eq_true : (a b : List ℕ) → a ≡ b → bytes_eq a b ≡ true
eq_true a b is = search (rules, bytes_eq-Decides)

pub ne_false : (a b : List ℕ) → (a ≡ b → ⊥) → bytes_eq a b ≡ false
ne_false a b apart = search (rules, bytes_eq-Decides)

pub from_true : (a b : List ℕ) → true ≡ bytes_eq a b → a ≡ b
from_true a b is = ⊎_elim (λ same. same) (λ apart. let h : bytes_eq a b ≡ false = ne_false a b apart in absurd (cc (h, is))) (decide a b)

pub from_false : (a b : List ℕ) → false ≡ bytes_eq a b → a ≡ b → ⊥
from_false a b is same = let h : bytes_eq a b ≡ true = eq_true a b same in cc (h, is)

pub after-push : (log : List Change) (x : Change) (was : Contents) → after (log ++ x ∷ []) was ≡ changed x (after log was)
after-push [] x was = refl
after-push (y ∷ log) x was = after-push log x (changed y was)

pub elapses_same : (log later : List Change) → later ≡ log → Elapses (length log) (length later) (Since log) (Since later) (λ p c. c ≡ log_contents later p)
elapses_same log later is = subst (λ (l : List Change). Elapses (length log) (length l) (Since log) (Since l) (λ p c. c ≡ log_contents l p)) (sym is)
    (record { later = omega arith; nothing_else = λ t p c le left. inl left; keeps = λ t p c le left. left })

one_more : (log : List Change) (x : Change) → Elapses (length log) (length (log ++ x ∷ [])) (Since log) (Since (log ++ x ∷ [])) (λ p c. c ≡ log_contents (log ++ x ∷ []) p)
one_more log x = record {
  later = omega (arith, length-append log (x ∷ []));
  nothing_else = λ t p c le left. ⊎_elim
      (λ new. inr (left.3 ∙ ap (λ (l : List Change). log_contents l p) (take_all left.0 (log ++ x ∷ []) (omega (arith, new, length-append log (x ∷ []))))))
      (λ was. inl (left.0, left.1, was, left.3 ∙ ap (λ (l : List Change). log_contents l p) (take-append-le left.0 log (x ∷ []) was)))
      (cases_lt (length log) left.0);
  keeps = λ t p c le left. (
    left.0,
    left.1,
    omega (arith, left.2, length-append log (x ∷ [])),
    left.3 ∙ ap (λ (l : List Change). log_contents l p) (sym (take-append-le left.0 log (x ∷ []) left.2)),
  );
}

pub elapses_push : (place : List ℕ) (has given : Option (List ℕ)) (log later : List Change) → Pushed place has given log later →
    Elapses (length log) (length later) (Since log) (Since later) (λ p c. c ≡ log_contents later p)
elapses_push place has given log later pushed =
    subst (λ (l : List Change). Elapses (length log) (length l) (Since log) (Since l) (λ p c. c ≡ log_contents l p)) (sym pushed.1) (one_more log pushed.0)

changed_there : (x : Change) (was : Contents) (p : List ℕ) → string_bytes x.place ≡ p → changed x was p ≡ option_map (λ b. b.items) x.has
changed_there x was p is = let h : bytes_eq p (string_bytes x.place) ≡ true = eq_true p (string_bytes x.place) (sym is) in rw h

changed_gone : (x : Change) (was : Contents) (p : List ℕ) → (p ≡ string_bytes x.place → ⊥) → is_named x.gone p ≡ true → changed x was p ≡ None
changed_gone x was p apart up = let h : bytes_eq p (string_bytes x.place) ≡ false = ne_false p (string_bytes x.place) apart in rw (h, up)

changed_else : (x : Change) (was : Contents) (p : List ℕ) → (p ≡ string_bytes x.place → ⊥) → is_named x.gone p ≡ false → changed x was p ≡ was p
changed_else x was p apart up = let h : bytes_eq p (string_bytes x.place) ≡ false = ne_false p (string_bytes x.place) apart in rw (h, up)

not_up : (g : Option (String Global)) (p : List ℕ) → (option_map (λ s. string_bytes s) g ≡ Some p → ⊥) → is_named g p ≡ false
not_up None p apart = refl
not_up (Some s) p apart = ne_false p (string_bytes s) (λ e. apart (ap Some (sym e)))

up : (g : Option (String Global)) (p : List ℕ) → option_map (λ s. string_bytes s) g ≡ Some p → is_named g p ≡ true
up None p is = absurd (cc)
up (Some s) p is = let same : string_bytes s ≡ p = cc in eq_true p (string_bytes s) (sym same)

pushed_at : (log later : List Change) (x : Change) (p : List ℕ) → later ≡ log ++ x ∷ [] → log_contents later p ≡ changed x (log_contents log) p
pushed_at log later x p is = ap (λ (l : List Change). log_contents l p) is ∙ ap (λ (f : Contents). f p) (after-push log x nothing)

pub push_there : (place : List ℕ) (has given : Option (List ℕ)) (log later : List Change) → Pushed place has given log later → log_contents later place ≡ has
push_there place has given log later pushed =
    pushed_at log later pushed.0 place pushed.1 ∙ changed_there pushed.0 (log_contents log) place pushed.2 ∙ pushed.3

pub push_gone : (place given : List ℕ) (has : Option (List ℕ)) (log later : List Change) → Pushed place has (Some given) log later → (given ≡ place → ⊥) → log_contents later given ≡ None
push_gone place given has log later pushed apart =
    pushed_at log later pushed.0 given pushed.1 ∙ changed_gone pushed.0 (log_contents log) given (λ e. apart (e ∙ pushed.2)) (up pushed.0.gone given pushed.4)

pub push_others : (place : List ℕ) (has given : Option (List ℕ)) (log later : List Change) → Pushed place has given log later →
    (p : List ℕ) → (p ≡ place → ⊥) → (given ≡ Some p → ⊥) → log_contents later p ≡ log_contents log p
push_others place has given log later pushed p apart kept =
    pushed_at log later pushed.0 p pushed.1 ∙ changed_else pushed.0 (log_contents log) p (λ e. apart (e ∙ pushed.2)) (not_up pushed.0.gone p (λ e. kept (sym pushed.4 ∙ e)))

-- one change further
pub one_further : (log : List Change) (at : ℕ) (x : Change) (p : List ℕ) → at < length log → get_or log at x ≡ x → log_contents (take (at + 1) log) p ≡ changed x (log_contents (take at log)) p
one_further log at x p within is =
    pushed_at (take at log) (take (at + 1) log) x p (take_more log at x within ∙ ap (λ (y : Change). take at log ++ y ∷ []) is)

-- a change that touches another place
pub passed : (log : List Change) (at : ℕ) (x : Change) (p : List ℕ) → at < length log → get_or log at x ≡ x → (string_bytes x.place ≡ p → ⊥) → (option_map (λ s. string_bytes s) x.gone ≡ Some p → ⊥)
    → log_contents (take (at + 1) log) p ≡ log_contents (take at log) p
passed log at x p within is apart kept =
    one_further log at x p within is ∙ changed_else x (log_contents (take at log)) p (λ e. apart (sym e)) (not_up x.gone p kept)

pub met_there : (log : List Change) (at : ℕ) (x : Change) (p : List ℕ) → at < length log → get_or log at x ≡ x → string_bytes x.place ≡ p
    → log_contents (take (at + 1) log) p ≡ option_map (λ b. b.items) x.has
met_there log at x p within is here = one_further log at x p within is ∙ changed_there x (log_contents (take at log)) p here

pub met_gone : (log : List Change) (at : ℕ) (x : Change) (p : List ℕ) → at < length log → get_or log at x ≡ x → (string_bytes x.place ≡ p → ⊥) → option_map (λ s. string_bytes s) x.gone ≡ Some p
    → log_contents (take (at + 1) log) p ≡ None
met_gone log at x p within is apart here = one_further log at x p within is ∙ changed_gone x (log_contents (take at log)) p (λ e. apart (sym e)) (up x.gone p here)

pub either_way : {T E P Q R : Type 0} (r : Result T E) → OnOk r P → OnErr r Q → (P → R) → (Q → R) → R
either_way (Ok _) p q f g = f p
either_way (Err _) p q f g = g q

-- what a disk in memory may leave is what it has
abbrev Now : List Change → List ℕ → Option (List ℕ) → Type 0
Now log place c = c ≡ log_contents log place

abbrev Held : List Change → List ℕ → List ℕ → Type 0
Held log place bytes = log_contents log place ≡ Some bytes

no_place : (p : List ℕ) → None ≡ Some p → ⊥
no_place p is = cc

pub same_but : (place : List ℕ) (log later : List Change) → later ≡ log → UntouchedBut place (log_contents log) (log_contents later) (Now log) (Now later)
same_but place log later is = record {
  same = λ p off. ap (λ (l : List Change). log_contents l p) is;
  crash = λ p off c left. left ∙ ap (λ (l : List Change). log_contents l p) is;
}

pub push_but : (place fresh : List ℕ) (has : Option (List ℕ)) (log later : List Change) → place ≡ fresh → Pushed place has None log later → UntouchedBut fresh (log_contents log) (log_contents later) (Now log) (Now later)
push_but place fresh has log later is pushed = record {
  same = λ p off. push_others place has None log later pushed p (λ e. off (e ∙ is)) (no_place p);
  crash = λ p off c left. left ∙ push_others place has None log later pushed p (λ e. off (e ∙ is)) (no_place p);
}

one_made : (made : Option (List ℕ)) (a b : List ℕ) → made ≡ Some a → made ≡ Some b → a ≡ b
one_made made a b first second = cc

pub to_created : (beside : List ℕ) (made : Option (List ℕ)) (log later : List Change) → MadeFile beside made log later
    → (fresh : List ℕ) × Created beside fresh (log_contents log) (log_contents later) (Now log) (Now later) made
to_created beside made log later m = (
  m.fresh,
  record {
    is_made = m.is_made;
    apart = m.apart;
    free = m.free;
    empty = push_there m.fresh (Some []) None log later m.pushed;
    others = push_but m.fresh m.fresh (Some []) log later refl m.pushed;
  },
)

pub to_appended : (bytes : List ℕ) (made : Option (List ℕ)) (fresh : List ℕ) (log later : List Change) → made ≡ Some fresh → AppendedFile bytes made log later
    → Appended fresh bytes (log_contents log) (log_contents later)
to_appended bytes made fresh log later is_made a was had =
    let same : a.fresh ≡ fresh = one_made made a.fresh fresh a.is_made is_made in
    let were : a.was ≡ was = one_made (log_contents log fresh) a.was was (ap (λ (q : List ℕ). log_contents log q) (sym same) ∙ a.has) had in
    ap (λ (q : List ℕ). log_contents later q) (sym same) ∙ push_there a.fresh (Some (a.was ++ bytes)) None log later a.pushed ∙ ap (λ (w : List ℕ). Some (w ++ bytes)) were

pub append_but : (bytes : List ℕ) (made : Option (List ℕ)) (fresh : List ℕ) (log later : List Change) → made ≡ Some fresh → AppendedFile bytes made log later
    → UntouchedBut fresh (log_contents log) (log_contents later) (Now log) (Now later)
append_but bytes made fresh log later is_made a = push_but a.fresh fresh (Some (a.was ++ bytes)) log later (one_made made a.fresh fresh a.is_made is_made) a.pushed

pub remove_but : (made : Option (List ℕ)) (fresh : List ℕ) (log later : List Change) → made ≡ Some fresh → RemovedFile made log later
    → UntouchedBut fresh (log_contents log) (log_contents later) (Now log) (Now later)
remove_but made fresh log later is_made a = push_but a.fresh fresh None log later (one_made made a.fresh fresh a.is_made is_made) a.pushed

pub to_removed : (made : Option (List ℕ)) (fresh : List ℕ) (log later : List Change) → made ≡ Some fresh → RemovedFile made log later → log_contents later fresh ≡ None
to_removed made fresh log later is_made a =
    ap (λ (q : List ℕ). log_contents later q) (sym (one_made made a.fresh fresh a.is_made is_made)) ∙ push_there a.fresh None None log later a.pushed

pub to_moved : (to : List ℕ) (made : Option (List ℕ)) (fresh : List ℕ) (log later : List Change) → made ≡ Some fresh → (fresh ≢ to) → RenamedFile to made log later
    → Moved fresh to (log_contents log) (log_contents later) (Held log) (Held later)
to_moved to made fresh log later is_made apart a =
    let same : a.fresh ≡ fresh = one_made made a.fresh fresh a.is_made is_made in
    let has : log_contents log fresh ≡ Some a.bytes = ap (λ (q : List ℕ). log_contents log q) (sym same) ∙ a.has in
    let there : log_contents later to ≡ log_contents log fresh = push_there to (Some a.bytes) (Some a.fresh) log later a.pushed ∙ sym has in
    record {
      there = there;
      gone = ap (λ (q : List ℕ). log_contents later q) (sym same) ∙ push_gone to a.fresh (Some a.bytes) log later a.pushed (λ e. apart (sym same ∙ e));
      others = λ p off elsewhere. push_others to (Some a.bytes) (Some a.fresh) log later a.pushed p elsewhere (λ e. let named : a.fresh ≡ p = cc in off (sym named ∙ same));
      same_file = λ bytes held. sym there ∙ held;
    }

pub crash_moved : (to : List ℕ) (made : Option (List ℕ)) (fresh : List ℕ) (log later : List Change) → made ≡ Some fresh → (fresh ≢ to) → RenamedFile to made log later
    → CrashMoved fresh to (Now log) (Now later) (Held log)
crash_moved to made fresh log later is_made apart a =
    let same : a.fresh ≡ fresh = one_made made a.fresh fresh a.is_made is_made in
    let has : log_contents log fresh ≡ Some a.bytes = ap (λ (q : List ℕ). log_contents log q) (sym same) ∙ a.has in
    record {
      others = λ p off elsewhere c left. left ∙ push_others to (Some a.bytes) (Some a.fresh) log later a.pushed p elsewhere (λ e. let named : a.fresh ≡ p = cc in off (sym named ∙ same));
      either = λ c left. inr (a.bytes, has, left ∙ push_there to (Some a.bytes) (Some a.fresh) log later a.pushed);
    }

pub crash_same : (to fresh : List ℕ) (log later : List Change) → later ≡ log → CrashMoved fresh to (Now log) (Now later) (Held log)
crash_same to fresh log later is = record {
  others = λ p off elsewhere c left. left ∙ ap (λ (l : List Change). log_contents l p) is;
  either = λ c left. inl (left ∙ ap (λ (l : List Change). log_contents l to) is);
}

pub longer : (beside name more : List ℕ) (x : ℕ) (xs : List ℕ) → more ≡ x ∷ xs → name ≡ beside ++ more → name ≢ beside
longer beside name more x xs is all same = absurd (omega (arith, ap length all, ap length same, ap length is, length-append beside more))
