-- Values put on top, one after another.
use Rattle.std.proofs.Common.{◌≡◌, ◌+◌, List, [], ◌∷◌, ◌++◌, length, arith, refl, sym, ap, ◌∙◌, append-nil, append_assoc}
use Rattle.std.specs.Prelude.{reverse}
use Rattle.std.proofs.lemmas.List.{reverse-reverse, reverse-append}
use Rattle.wasm_sem.specs.Types.{Value}
use Rattle.module_ast.specs.Validation.{push}

pub push_length : (vs xs : List Value) → length (push vs xs) ≡ length vs + length xs
push_length [] xs = omega arith
push_length (v ∷ vs) xs = let h = push_length vs (v ∷ xs) in omega (arith, h)

-- they stand in turn, the last on top
pub push_reversed : (vs xs : List Value) → push vs xs ≡ reverse vs ++ xs
push_reversed [] xs = refl
push_reversed (v ∷ vs) xs =
    push_reversed vs (v ∷ xs) ∙ sym (append_assoc (reverse vs) (v ∷ []) xs) ∙ ap (λ ys. ys ++ xs) (sym (reverse-append (v ∷ []) vs))

-- the same values on nothing are the same
pub pushed_same : (vs us : List Value) → push vs [] ≡ push us [] → vs ≡ us
pushed_same vs us h =
    sym (reverse-reverse vs) ∙ ap reverse (sym (append-nil (reverse vs)) ∙ sym (push_reversed vs []) ∙ h ∙ push_reversed us [] ∙ append-nil (reverse us)) ∙ reverse-reverse us
