-- Marks in rising order.
use Rattle.std.specs.Prelude.{ℕ, ◌+◌, ◌≤◌, ◌==◌, List, [], ◌∷◌, Option, None, Some, cond}
use Rattle.wasm_sem.specs.Types.{ValType}
use Rattle.wasm_num.specs.declared.ValType.TheVariants.{I32}
use Rattle.module_ast.specs.Places.{Mark}

-- each stands after the one before it, and the first at p or after it
abbrev pub MarksRiseFrom : (p : ℕ) → List Mark → Type 0
MarksRiseFrom p [] = Unit {0}
MarksRiseFrom p (m ∷ ms) = (p ≤ m.place) × MarksRiseFrom (m.place + 1) ms

-- the type of this mark at a position
abbrev pub type_in : Option Mark → (x : ℕ) → ValType
type_in None x = I32
type_in (Some m) x = cond (m.place == x) m.ty I32
