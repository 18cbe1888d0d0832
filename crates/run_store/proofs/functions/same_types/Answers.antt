use Rattle.std.proofs.Common.{◌≡◌, List, [], ◌∷◌, Bool, ◌&&◌, refl, ap₂, ◌∙◌}
use Rattle.std.specs.Cmp.Lexicographic.{pointwise}
use Rattle.wasm_sem.specs.Types.{ValType}
use Rattle.wasm_num.specs.declared.ValType.TheVariants.{I32, I64}
use Rattle.wasm_num.specs.contracts.ValTypePartialEq.TheImpl.{eq-value as compared}
use Rattle.wasm_sem.specs.Execution.{same_type, have_same_types}
use Rattle.run_store.proofs.functions.same_types.Goals as goal

compared_so : (a b : ValType) → compared.it a b ≡ same_type a b
compared_so I32 I32 = refl
compared_so I32 I64 = refl
compared_so I64 I32 = refl
compared_so I64 I64 = refl

all_so : (ts us : List ValType) → pointwise compared.it ts us ≡ have_same_types ts us
all_so [] [] = refl
all_so [] (u ∷ us) = refl
all_so (t ∷ ts) [] = refl
all_so (t ∷ ts) (u ∷ us) = ap₂ (λ (a b : Bool). a && b) (compared_so t u) (all_so ts us)

pub returns : goal.returns
returns c = c.eq.ensures ∙ all_so c.args.these.now c.args.those.now
