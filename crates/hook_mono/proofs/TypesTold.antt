-- The hook of a key is told the values of the fields that it tells.
use Rattle.std.proofs.Common.{◌≡◌, ◌++◌, [], ◌∷◌, refl}
use Rattle.wasm_num.specs.declared.NumOp.{NumOp}
use Rattle.wasm_num.specs.declared.NumOp.TheVariants.{I32Eqz}
use Rattle.wasm_num.specs.Shapes.{num_operands, num_result}
use Rattle.hook_select.specs.declared.GroupName.{GroupName}
use Rattle.hook_select.specs.declared.GroupName.TheVariants as groups
use Rattle.hook_mono.specs.declared.HookKey.TheVariants as keys
use Rattle.hook_mono.specs.Plains.{plain_values}
use Rattle.hook_mono.specs.Told.{told_types, num_told, plain_told, TypesAreTold}

plain_types : (g : GroupName) → plain_values g ≡ told_types (plain_told g)
plain_types groups.Start = refl
plain_types g = refl

num_types : (op : NumOp) → num_operands op ++ num_result op ∷ [] ≡ told_types (num_told op (num_operands op))
num_types I32Eqz = refl
num_types op = refl

pub types_told : TypesAreTold
types_told (keys.Plain g) = plain_types g
types_told (keys.Num op) = num_types op
types_told key = refl
