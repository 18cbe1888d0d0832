-- What a walk over the places of a body reads.
use Rattle.std.specs.Prelude.{◌≡◌, List, [], ◌∷◌, Option, Some, None}
use Rattle.module_ast.specs.Places.Positions as positions
use Rattle.module_ast.specs.Places.{Scope, enters, acts, opens, alternates, closes}
use Rattle.module_ast.specs.Structure.{plain_of, Plain}
use Rattle.branch_resolve.specs.Scopes.{block_of, blocks_around}
use Rattle.branch_resolve.specs.declared.Block.{Block}
use Rattle.branch_resolve.specs.declared.place.Place.{Place}
use Rattle.branch_resolve.specs.declared.place.Opcode.{Opcode}
use Rattle.branch_resolve.specs.declared.place.Opcode.TheVariants.{Enters, Acts, Opens, Alternates, Closes}

-- a walk: the places that are left, and the blocks around the place that was read last
pub record WalkState : Type 0 where
  pub left : List positions.Place
  pub scopes : List Block

-- ---- places as values of the program

abbrev pub IsOpcodeOf : positions.Opcode → Opcode → Type 0
IsOpcodeOf x Enters = x ≡ enters
IsOpcodeOf x (Acts i) = (p : Plain) × (plain_of i.now ≡ Some p) × (x ≡ acts p)
IsOpcodeOf x (Opens b) = (s : Scope) × (b ≡ block_of s) × (x ≡ opens s)
IsOpcodeOf x (Alternates a b live) = (s : Scope) × (t : Scope) × (a ≡ block_of s) × (b ≡ block_of t) × (x ≡ alternates s t live)
IsOpcodeOf x (Closes b) = (s : Scope) × (b ≡ block_of s) × (x ≡ closes s)

-- a place of the definitions, as the code has it without its scopes
abbrev pub IsPlaceOf : positions.Place → Place → Type 0
IsPlaceOf x y = (x.position ≡ y.position) × (x.live ≡ y.live) × IsOpcodeOf x.opcode y.opcode

-- what a walk reads next: the first of the places that are left, or nothing if none is left
abbrev pub IsNextPlace : (old new : WalkState) → Option Place → Type 0
IsNextPlace old new None = (old.left ≡ []) × (new.left ≡ [])
IsNextPlace old new (Some y) = (x : positions.Place) × (old.left ≡ x ∷ new.left) × IsPlaceOf x y × (new.scopes ≡ blocks_around x.scopes)
