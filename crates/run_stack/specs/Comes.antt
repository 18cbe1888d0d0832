-- What an instruction that moves control comes to, as the machine keeps it.
use Rattle.std.specs.Prelude.{◌≡◌, ℕ, ◌≤◌, List, [], ◌∷◌, length}
use Rattle.wasm_sem.specs.Types.{Value, Instr}
use Rattle.module_ast.specs.declared.code.Instr.TheVariants as instrs
use Rattle.module_ast.specs.Structure.{Tree, before}
use Rattle.module_ast.specs.Validation.{push}
use Rattle.wasm_sem.specs.declared.Answer.TheVariants.{Returned}
use Rattle.wasm_sem.specs.Execution.{Instance, Frame, Env, configuration, Next, reduces, traps, ends, stuck, env_after, reduce_code}
use Rattle.run_stack.specs.Flat.{Flat}
use Rattle.run_stack.specs.Kept.{all_spots, Lies}

-- the last frame was left with these values
pub record IsLeftWith (vs : List Value) (s : Flat) : Type 0 where
  pub values : s.values ≡ push vs []
  pub spots : s.spots ≡ []
  pub bases : s.bases ≡ []

-- the step has all that it needs
abbrev pub IsUnstuck : Next → Type 0
IsUnstuck (reduces c) = Unit {0}
IsUnstuck (traps t) = Unit {0}
IsUnstuck ends = Unit {0}
IsUnstuck stuck = ⊥

-- the run goes on in a frame, or has the answer of what ran
abbrev pub LiesNext : Instance → Env → Next → Flat → Type 0
LiesNext inst e (reduces (configuration f [])) s = (vs : List Value) × (f ≡ env_after inst e.phase e (Returned vs)) × IsLeftWith vs s
LiesNext inst e (reduces (configuration f (fr ∷ below))) s = (f ≡ e) × Lies s (fr ∷ below)
LiesNext inst e _ s = ⊥

-- ---- control

-- what an instruction comes to; the innermost label is already behind it
abbrev pub next_of : Instance → Env → Frame → List Frame → Instr → Next
next_of inst e fr below i = reduce_code inst e fr below (before i fr.top.rest) fr.top.ops

-- there is room for the labels
abbrev pub HasLabelRoom : (room : ℕ) → Next → Type 0
HasLabelRoom room (reduces (configuration f fs)) = length (all_spots fs) ≤ room
HasLabelRoom room _ = Unit {0}

-- the machine keeps these frames, of which the innermost is already behind an instruction
pub record IsMoving (s : Flat) (place : Tree) (i : Instr) (inst : Instance) (e : Env) (fr : Frame) (below : List Frame) : Type 0 where
  pub lies : Lies s (fr ∷ below)
  pub place_is : place ≡ before i fr.top.rest
  pub ready : IsUnstuck (next_of inst e fr below i)
  pub room : HasLabelRoom s.spot_room (next_of inst e fr below i)

-- instructions that open a block, or branch
abbrev pub IsControl : Instr → Type 0
IsControl (instrs.Block ty a) = Unit {0}
IsControl (instrs.Loop ty a) = Unit {0}
IsControl (instrs.If ty a) = Unit {0}
IsControl (instrs.IfElse ty a b) = Unit {0}
IsControl (instrs.Br l) = Unit {0}
IsControl (instrs.BrIf l) = Unit {0}
IsControl (instrs.BrTable ls l) = Unit {0}
IsControl instrs.Return = Unit {0}
IsControl _ = ⊥
