-- Types compared by their numbers.
use Rattle.std.proofs.Common.{◌≡◌, List, [], ◌∷◌, ◌&&◌, nat_eq, map, refl, ap₂}
use Rattle.std.specs.Str.{bytes_eq}
use lib.Pointwise.{pointwise}
use Rattle.wasm_num.specs.declared.ValType.{ValType}
use Rattle.wasm_num.specs.declared.ValType.TheVariants.{I32, I64}
use Rattle.wasm_num.specs.contracts.ValTypePartialEq.TheImpl as eq
use Rattle.hook_mono.specs.Orders.{type_number}

same_type : (t u : ValType) → eq.eq-value.it t u ≡ nat_eq (type_number t) (type_number u)
same_type I32 I32 = refl
same_type I32 I64 = refl
same_type I64 I32 = refl
same_type I64 I64 = refl

pub same_types : (ts us : List ValType) → pointwise eq.eq-value.it ts us ≡ bytes_eq (map type_number ts) (map type_number us)
same_types [] [] = refl
same_types [] (u ∷ us) = refl
same_types (t ∷ ts) [] = refl
same_types (t ∷ ts) (u ∷ us) = ap₂ (λ x y. x && y) (same_type t u) (same_types ts us)
