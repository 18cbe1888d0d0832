use Rattle.std.proofs.Common.{◌≡◌, ℕ, ◌||◌, List, [], ◌∷◌, map, bytes_eq, Bor, refl, ap, ◌∙◌}
use Rattle.std.specs.List.{list_any}
use Rattle.json_form.specs.Form.{is_key_among}
use Rattle.json_form.proofs.object.is_key_among.Goals as goal

any_of : (names : List (Bor (List ℕ))) (k : List ℕ) → list_any (λ y. bytes_eq y.now k) names ≡ is_key_among (map (λ n. n.now) names) k
any_of [] k = refl
any_of (name ∷ names) k = ap (λ b. bytes_eq name.now k || b) (any_of names k)

pub returns : goal.returns
returns c = c.contains.ensures.value ∙ any_of c.args.names.now c.args.key.now
