-- The exported functions of a module by their names.
use Rattle.std.specs.Prelude.{◌≡◌, ℕ, List}
use Rattle.std.specs.Ordering.{nat_cmp}
use Rattle.std.specs.Cmp.Lexicographic.{slice_cmp}
use Rattle.std.specs.BTreeMap.{BTreeMap, get_by}
use Rattle.std.specs.Borrow.{Bor}
use Rattle.wasm_sem.specs.Types.{Export}
use Rattle.wasm_sem.specs.Execution.{exported_func}

-- the map has each exported function at its name
abbrev pub HasExports : BTreeMap (Bor (List ℕ)) ℕ → List Export → Type 0
HasExports named es = (name : List ℕ) → get_by (λ k. slice_cmp nat_cmp name k.now) named ≡ exported_func name es
