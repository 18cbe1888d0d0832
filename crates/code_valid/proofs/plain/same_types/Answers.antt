use Rattle.std.proofs.Common.{◌≡◌, ◌∙◌, refl}
use Rattle.wasm_num.specs.declared.ValType.{ValType}
use Rattle.wasm_num.specs.declared.ValType.TheVariants.{I32, I64}
use Rattle.wasm_num.specs.contracts.ValTypePartialEq.TheImpl as eq
use Rattle.ctrl_stack.specs.Stack.{is_same_type}
use Rattle.code_valid.proofs.Compare.{as_pointwise}
use Rattle.code_valid.proofs.plain.same_types.Goals as goal

same : (t u : ValType) → eq.eq-value.it t u ≡ is_same_type t u
same I32 I32 = refl
same I32 I64 = refl
same I64 I32 = refl
same I64 I64 = refl

pub returns : goal.returns
returns c = c.eq.ensures ∙ as_pointwise eq.eq-value.it same c.args.left.now c.args.right.now
