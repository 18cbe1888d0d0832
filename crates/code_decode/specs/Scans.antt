-- How tokens change what was read so far.
use Rattle.std.specs.Prelude.{◌≡◌, ℕ, ◌+◌, ◌<◌, ◌≤◌, [], ◌∷◌, ◌++◌, length, take, drop, max, Bool, ◌||◌}
use Rattle.module_ast.specs.Structure.{code_of}
use Rattle.module_ast.specs.declared.code.BlockType.{BlockType}
use Rattle.code_decode.specs.Opened.{closed_instr}
use Rattle.code_decode.specs.declared.token.Kind.{Kind}
use Rattle.code_decode.specs.declared.token.Kind.TheVariants.{Then, Else}
use Rattle.code_decode.specs.declared.expr.Frame.{Frame}
use Rattle.code_decode.specs.declared.expr.Scan.{Scan}

-- a sequence opens, behind the instructions so far
pub record OpensSequence (old new : Scan) (kind : Kind) (floating : Bool) : Type 0 where
  pub stack : new.stack.items ≡ old.stack.items ++ (record { start = length old.items.items; kind = kind }) ∷ []
  pub items : new.items ≡ old.items
  pub floats : new.floats ≡ (old.floats || floating)
  pub nesting : new.nesting ≡ old.nesting

-- `else`: the innermost frame, which is that of the first branch of an `if`, becomes that of the second
pub record TurnsToElse (old new : Scan) (frame : Frame) : Type 0 where
  pub ty : BlockType
  pub first : frame.kind ≡ Then ty
  pub stack : new.stack.items ≡ old.stack.items ++ (record { start = frame.start; kind = Else ty (code_of (drop frame.start old.items.items)) }) ∷ []
  pub items : new.items.items ≡ take frame.start old.items.items
  pub floats : new.floats ≡ old.floats
  pub nesting : new.nesting ≡ max old.nesting (length old.stack.items + 1)

-- the sequence is not the first branch of an `if`
abbrev pub IsNoThen : Kind → Type 0
IsNoThen kind = (ty : BlockType) → kind ≡ Then ty → ⊥

-- `end`: the instructions of the frame, which was the innermost, become one instruction, or are dropped if that nests
-- deeper than the bound
pub record ClosesSequence (old new : Scan) (frame : Frame) (bound : ℕ) : Type 0 where
  pub stack : new.stack.items ≡ old.stack.items
  pub floats : new.floats ≡ old.floats
  pub nesting : new.nesting ≡ max old.nesting (length old.stack.items + 1)
  pub within : new.nesting ≤ bound → new.items.items ≡ take frame.start old.items.items ++ closed_instr frame.kind (code_of (drop frame.start old.items.items)) ∷ []
  pub beyond : bound < new.nesting → new.items.items ≡ take frame.start old.items.items
