-- Values added to a list, some or all of them.
use Rattle.std.proofs.Common.{◌≡◌, List, [], ◌∷◌, ◌++◌, Result, Ok, Err, OnOk, OnErr, refl, sym, ap, ◌∙◌, append_assoc}
use Rattle.std.proofs.lemmas.List.{append-nil}
use Rattle.i64_split.specs.Pushing.{AddsPrefix}

-- some of the first part
pub adds_first : {A : Type 0} (old new front rest : List A) → AddsPrefix old new front → AddsPrefix old new (front ++ rest)
adds_first old new front rest (part, more, e, f) = (part, more ++ rest, e, ap (λ l. l ++ rest) f ∙ append_assoc part more rest)

-- the first part, and then the second or nothing
pub adds_both : {A X Y : Type 0} (old mid new first second : List A) (r : Result X Y) → mid ≡ old ++ first → OnOk r (new ≡ mid ++ second) → OnErr r (new ≡ mid) → AddsPrefix old new (first ++ second)
adds_both old mid new first second (Ok x) e added kept =
    (first ++ second, [], added ∙ ap (λ l. l ++ second) e ∙ append_assoc old first second, sym (append-nil (first ++ second)))
adds_both old mid new first second (Err y) e added kept = (first, second, kept ∙ e, refl)

-- what was added so far, with what is left, is the whole
abbrev pub IsOn : {A : Type 0} (old new rest whole : List A) → Type 0
IsOn {A} old new rest whole = (front : List A) × (new ≡ old ++ front) × (front ++ rest ≡ whole)

pub on_start : {A : Type 0} (old whole : List A) → IsOn old old whole whole
on_start old whole = ([], sym (append-nil old), refl)

pub on_next : {A : Type 0} (old new next : List A) (i : A) (now rest whole : List A) → IsOn old new now whole → now ≡ i ∷ rest → next ≡ new ++ i ∷ [] → IsOn old next rest whole
on_next old new next i now rest whole (front, e, f) n p =
    (front ++ i ∷ [], p ∙ ap (λ l. l ++ i ∷ []) e ∙ append_assoc old front (i ∷ []), append_assoc front (i ∷ []) rest ∙ ap (λ l. front ++ l) (sym n) ∙ f)

-- several at once, some or all of them
pub on_some : {A : Type 0} (old mid new now part rest whole : List A) → IsOn old mid now whole → now ≡ part ++ rest → AddsPrefix mid new part → AddsPrefix old new whole
on_some old mid new now part rest whole (front, e, f) n (some, more, p, q) = (
  front ++ some,
  more ++ rest,
  p ∙ ap (λ l. l ++ some) e ∙ append_assoc old front some,
  sym f ∙ ap (λ l. front ++ l) n ∙ ap (λ l. front ++ (l ++ rest)) q ∙ ap (λ l. front ++ l) (append_assoc some more rest) ∙ sym (append_assoc front some (more ++ rest)),
)
