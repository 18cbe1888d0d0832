-- An iterator that is read from its end.
use Rattle.std.proofs.Common.{◌≡◌, List, [], ◌∷◌, reverse, length, ap, subst, ◌∙◌}
use Rattle.std.specs.Iterator.Adapters.{rev_source, rev_steps}
use Rattle.std.specs.declared.iter.Rev.{Rev}
use Rattle.std.specs.Map.Iter.{TakesLast}
use Rattle.std.proofs.lemmas.Iterator.{YieldsList}
use Rattle.std.proofs.lemmas.Iterator.Consumers.{YieldsList-from_shown}
use Rattle.std.proofs.lemmas.List.{length-reverse, reverse-append}

pub reversed_rest : {A X : Type 0} {shows : A → X} {s : Rev (List X)} (xs : List X) → rev_source s ≡ xs → YieldsList (rev_steps (TakesLast shows)) shows s (reverse xs)
reversed_rest {A} {X} {shows} {s} xs e =
    subst (λ l. YieldsList (rev_steps (TakesLast shows)) shows s (reverse l)) e
    (YieldsList-from_shown (rev_steps (TakesLast shows)) shows (λ (u : Rev (List X)). reverse (rev_source u)) (λ u t p. length-reverse _ ∙ ap length p.0)
    (λ u x t p. ap reverse p ∙ reverse-append (rev_source t) (shows x ∷ [])) s)
