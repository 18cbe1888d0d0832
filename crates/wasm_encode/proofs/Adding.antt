-- Bytes added one part after another.
use Rattle.std.proofs.Common.{◌≡◌, ℕ, List, [], ◌∷◌, ◌++◌, ap, ◌∙◌, append_assoc}

-- a byte and what is spelled behind it
pub added_two : (old mid new : List ℕ) (x : ℕ) (a : List ℕ) → mid ≡ old ++ x ∷ [] → new ≡ mid ++ a → new ≡ old ++ x ∷ a
added_two old mid new x a first then = then ∙ ap (λ l. l ++ a) first ∙ append_assoc old (x ∷ []) a

-- and what is spelled behind that
pub added_three : (old mid two new : List ℕ) (x : ℕ) (a b : List ℕ) → mid ≡ old ++ x ∷ [] → two ≡ mid ++ a → new ≡ two ++ b → new ≡ old ++ x ∷ (a ++ b)
added_three old mid two new x a b first then last =
    last ∙ ap (λ l. l ++ b) (added_two old mid two x a first then) ∙ append_assoc old (x ∷ a) b
