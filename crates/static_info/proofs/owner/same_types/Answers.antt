use Rattle.std.proofs.Common.{◌≡◌, IsTrue, true≢false, List, [], ◌∷◌, ◌&&◌, Bool, true, false, refl, sym, ap, ap₂, ◌∙◌, subst}
use lib.Pointwise.{pointwise}
use Rattle.wasm_sem.specs.Types.{ValType}
use Rattle.wasm_num.specs.declared.ValType.TheVariants.{I32, I64}
use Rattle.wasm_num.specs.contracts.ValTypePartialEq.TheImpl as eq
use Rattle.json_form.proofs.Exact.{both}
use Rattle.static_info.proofs.owner.same_types.Goals as goal

one_type : (t u : ValType) → eq.eq-value.it t u ≡ true → t ≡ u
one_type I32 I32 e = refl
one_type I32 I64 e = absurd (true≢false (sym e))
one_type I64 I32 e = absurd (true≢false (sym e))
one_type I64 I64 e = refl

itself : (t : ValType) → eq.eq-value.it t t ≡ true
itself I32 = refl
itself I64 = refl

are_one : (ts us : List ValType) → pointwise eq.eq-value.it ts us ≡ true → ts ≡ us
are_one [] [] e = refl
are_one [] (u ∷ us) e = absurd (true≢false (sym e))
are_one (t ∷ ts) [] e = absurd (true≢false (sym e))
are_one (t ∷ ts) (u ∷ us) e = let b = both (eq.eq-value.it t u) (pointwise eq.eq-value.it ts us) e in ap₂ (λ x xs. x ∷ xs) (one_type t u b.0) (are_one ts us b.1)

are_same : (ts : List ValType) → pointwise eq.eq-value.it ts ts ≡ true
are_same [] = refl
are_same (t ∷ ts) = ap₂ (λ x y. x && y) (itself t) (are_same ts)

holds : (b : Bool) → IsTrue b → b ≡ true
holds true t = refl
holds false t = absurd (true≢false (sym t))

pub returns : goal.returns
returns c = (
  λ t. are_one c.args.left.now c.args.right.now (sym c.eq.ensures ∙ holds c.eq.result t),
  λ e. subst IsTrue (sym (c.eq.ensures ∙ ap (pointwise eq.eq-value.it c.args.left.now) (sym e) ∙ are_same c.args.left.now)) refl,
)
