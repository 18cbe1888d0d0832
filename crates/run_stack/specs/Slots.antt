-- A call through a slot of the table. The number of the slot is above the arguments.
use Rattle.std.specs.Prelude.{ℕ, List, ◌∷◌, drop, Option, Some, None}
use Rattle.wasm_sem.specs.Types.{Value}
use Rattle.wasm_num.specs.declared.Value.TheVariants.{I32}
use Rattle.module_ast.specs.Structure.{Tree}
use Rattle.run_stack.specs.Flat.{Flat, moved_spots}

-- how many operands are above the arguments: one, the number of the slot, if the call is through a slot
abbrev pub index_count : Option ℕ → ℕ
index_count None = 0
index_count (Some i) = 1

abbrev pub with_index : Option ℕ → List Value → List Value
with_index None o = o
with_index (Some i) o = I32 i ∷ o

-- the innermost label is behind the call, and the number of the slot was taken
abbrev pub behind_call : Option ℕ → Tree → Flat → Flat
behind_call slot k f = record f { values = drop (index_count slot) f.values; spots = moved_spots k f.spots }

-- the call is undone: the number of the slot is there again, and the innermost label is before the call
abbrev pub before_call : Option ℕ → Tree → Flat → Flat
before_call slot place f = record f { values = with_index slot f.values; spots = moved_spots place f.spots }
