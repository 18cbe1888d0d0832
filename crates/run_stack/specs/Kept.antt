-- A configuration as the machine keeps it: its frames are in one list of values and one of labels.
use Rattle.std.specs.Prelude.{◌≡◌, ℕ, ◌+◌, List, [], ◌∷◌, ◌++◌, length, reverse, Option, None, Some}
use Rattle.wasm_sem.specs.Types.{Value}
use Rattle.module_ast.specs.Structure.{Tree, loop}
use Rattle.wasm_sem.specs.Execution.{Cont, behind, again, Label, Frame}
use Rattle.run_stack.specs.Flat.{Spot, Base, Flat}

-- the operands of labels, the topmost first
abbrev pub ops_of : List Label → List Value
ops_of [] = []
ops_of (l ∷ ls) = l.ops ++ ops_of ls

-- the loop that a branch makes the next instruction of the label around it
abbrev pub again_in : Cont → List Label → Option Tree
again_in behind ls = None
again_in (again ty body) [] = None
again_in (again ty body) (l ∷ ls) = Some (loop ty body l.rest)

-- a label inside others, with `low` values below them all
abbrev pub spot_in : (low : ℕ) → Label → List Label → Spot
spot_in low l ls = record { rest = l.rest; again = again_in l.cont ls; height = length (ops_of ls) + low; arity = l.arity }

abbrev pub spots_of : (low : ℕ) → List Label → List Spot
spots_of low [] = []
spots_of low (l ∷ ls) = spot_in low l ls ∷ spots_of low ls

-- the values of frames, the topmost first: operands above the locals of each
abbrev pub all_values : List Frame → List Value
all_values [] = []
all_values (fr ∷ below) = fr.top.ops ++ (ops_of fr.outer ++ (reverse fr.locals ++ all_values below))

-- the values below the operands of the innermost label
abbrev pub under : Frame → List Frame → List Value
under fr below = ops_of fr.outer ++ (reverse fr.locals ++ all_values below)

-- how many values are below the operands of a frame
abbrev pub low_of : Frame → List Frame → ℕ
low_of fr below = length fr.locals + length (all_values below)

abbrev pub all_spots : List Frame → List Spot
all_spots [] = []
all_spots (fr ∷ below) = spots_of (low_of fr below) (fr.top ∷ fr.outer) ++ all_spots below

abbrev pub frame_base : List Frame → Base
frame_base below = record { values = length (all_values below); labels = length (all_spots below) }

abbrev pub all_bases : List Frame → List Base
all_bases [] = []
all_bases (fr ∷ below) = frame_base below ∷ all_bases below

-- the machine keeps these frames
pub record Lies (f : Flat) (fs : List Frame) : Type 0 where
  pub values : f.values ≡ all_values fs
  pub spots : f.spots ≡ all_spots fs
  pub bases : f.bases ≡ all_bases fs
