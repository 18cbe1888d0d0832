-- What holds of an entry and of those behind it holds of all, where those before it are done.
use Rattle.std.proofs.Common.{ℕ, suc, ◌+◌, ◌<◌, List, length, get_or, drop, drop-cons, add-one, All, subst, sym}
use Rattle.std.proofs.lemmas.List.Elements.{All-cons}

pub all_next : {X : Type 0} (P : X → Type 0) (xs : List X) (i : ℕ) (d : X) → i < length xs → P (get_or xs i d)
    → (All P (drop i xs) → All P xs) → All P (drop (i + 1) xs) → All P xs
all_next P xs i d h p f rest =
    f (subst (All P) (sym (drop-cons xs i d h)) (All-cons P (get_or xs i d) (drop (suc i) xs) p (subst (λ k. All P (drop k xs)) (add-one i) rest)))
