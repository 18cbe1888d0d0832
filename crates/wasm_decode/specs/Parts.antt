-- Items in the form in which a reader passes them on.
use Rattle.std.specs.Prelude.{◌≡◌, ℕ, ◌<◌, ◌≤◌, List, true}
use Rattle.wasm_decode.specs.declared.part.Piece.{Piece}
use Rattle.wasm_decode.specs.declared.part.Piece.TheVariants.{Whole, Floats, Deep}
use Rattle.wasm_decode.specs.declared.part.Part.{Part}
use Rattle.wasm_decode.specs.Forms.{Form, ItemsStandFor}

-- one item
abbrev pub IsPiece : {T G : Type 0} → Form T G → (bound : ℕ) → Piece T → G → Type 0
IsPiece f bound (Whole x) g = (g ≡ f.view x) × (f.nests x ≤ bound)
IsPiece f bound Floats g = f.floats g ≡ true
IsPiece {T} f bound (Deep x found) g = (y : T) × (g ≡ f.view y) × (x ≡ f.blank y) × (found ≡ f.nests y) × (bound < found)

-- the items of a vector
abbrev pub IsPart : {T G : Type 0} → Form T G → (bound : ℕ) → Part T → List G → Type 0
IsPart f bound p gs = ItemsStandFor f bound p.floats p.items.items p.deep gs
