-- Instructions that neither branch, nor call, nor open a block, on what the machine keeps.
use Rattle.std.specs.Prelude.{◌≡◌, ℕ, ◌≤◌, List, ◌∷◌, ◌++◌, length, Option, None, Some}
use Rattle.wasm_sem.specs.Types.{Value, Instr}
use Rattle.module_ast.specs.declared.code.Instr.TheVariants as instrs
use Rattle.module_ast.specs.Structure.{Tree, done, plain, before}
use Rattle.run_store.specs.Held.{Held}
use Rattle.wasm_sem.specs.declared.Trap.{Trap}
use Rattle.wasm_sem.specs.Execution.{Store, Frame, Reduct, reduct, trapped_by, not_simple, reduce_simple}
use Rattle.run_stack.specs.Flat.{Flat}
use Rattle.run_stack.specs.Kept.{under, Lies}

-- the innermost frame and the store, with the limit of the memory
pub record Moment : Type 0 where
  pub limit : ℕ
  pub store : Store
  pub frame : Frame
  pub below : List Frame

abbrev pub reduct_of : Moment → Tree → Reduct
reduct_of x (plain p k) = reduce_simple x.limit p x.store x.frame.locals x.frame.top.ops
reduct_of x _ = not_simple

-- what an instruction comes to
abbrev pub reduct_at : Moment → Instr → Reduct
reduct_at x i = reduct_of x (before i done)

-- the instruction has all that it needs
abbrev pub IsFound : Reduct → Type 0
IsFound (reduct st l o) = Unit {0}
IsFound (trapped_by t) = Unit {0}
IsFound not_simple = ⊥

-- there is room for the operands that the instruction leaves
abbrev pub HasValueRoom : Moment → (room : ℕ) → Reduct → Type 0
HasValueRoom x room (reduct st l o) = length (o ++ under x.frame x.below) ≤ room
HasValueRoom x room (trapped_by t) = Unit {0}
HasValueRoom x room not_simple = Unit {0}

abbrev pub held_of : (limit : ℕ) → Store → Held
held_of limit st = record { bytes = st.memory; max = limit }

-- the machine keeps this moment, before an instruction
pub record IsMomentBefore (s : Flat) (memory : Held) (globals : List Value) (i : Instr) (x : Moment) : Type 0 where
  pub lies : Lies s (x.frame ∷ x.below)
  pub memory_is : memory ≡ held_of x.limit x.store
  pub globals_are : globals ≡ x.store.globals
  pub found : IsFound (reduct_at x i)
  pub room : HasValueRoom x s.value_room (reduct_at x i)

-- the machine keeps the moment behind the instruction, or the instruction traps
abbrev pub IsMomentBehind : Moment → Reduct → Option Trap → Flat → Held → List Value → Type 0
IsMomentBehind x (reduct st l o) None s memory globals =
    Lies s (record x.frame { locals = l; top = record x.frame.top { ops = o } } ∷ x.below) × (memory ≡ held_of x.limit st) × (globals ≡ st.globals)
IsMomentBehind x (trapped_by t) (Some u) s memory globals = (t ≡ u) × (memory ≡ held_of x.limit x.store) × (globals ≡ x.store.globals)
IsMomentBehind x _ _ s memory globals = ⊥

-- `drop`, and instructions on variables
abbrev pub IsVariable : Instr → Type 0
IsVariable instrs.Drop = Unit {0}
IsVariable (instrs.LocalGet x) = Unit {0}
IsVariable (instrs.LocalSet x) = Unit {0}
IsVariable (instrs.LocalTee x) = Unit {0}
IsVariable (instrs.GlobalGet x) = Unit {0}
IsVariable (instrs.GlobalSet x) = Unit {0}
IsVariable _ = ⊥

-- instructions on memory
abbrev pub IsAccess : Instr → Type 0
IsAccess (instrs.Load op m) = Unit {0}
IsAccess (instrs.Store op m) = Unit {0}
IsAccess instrs.MemorySize = Unit {0}
IsAccess instrs.MemoryGrow = Unit {0}
IsAccess _ = ⊥

-- instructions that concern only operands
abbrev pub IsNumber : Instr → Type 0
IsNumber instrs.Unreachable = Unit {0}
IsNumber instrs.Nop = Unit {0}
IsNumber instrs.Select = Unit {0}
IsNumber (instrs.I32Const z) = Unit {0}
IsNumber (instrs.I64Const z) = Unit {0}
IsNumber (instrs.Num op) = Unit {0}
IsNumber _ = ⊥

-- instructions of any of these three kinds
abbrev pub IsSimple : Instr → Type 0
IsSimple instrs.Unreachable = Unit {0}
IsSimple instrs.Nop = Unit {0}
IsSimple instrs.Drop = Unit {0}
IsSimple instrs.Select = Unit {0}
IsSimple (instrs.LocalGet x) = Unit {0}
IsSimple (instrs.LocalSet x) = Unit {0}
IsSimple (instrs.LocalTee x) = Unit {0}
IsSimple (instrs.GlobalGet x) = Unit {0}
IsSimple (instrs.GlobalSet x) = Unit {0}
IsSimple (instrs.Load op m) = Unit {0}
IsSimple (instrs.Store op m) = Unit {0}
IsSimple instrs.MemorySize = Unit {0}
IsSimple instrs.MemoryGrow = Unit {0}
IsSimple (instrs.I32Const z) = Unit {0}
IsSimple (instrs.I64Const z) = Unit {0}
IsSimple (instrs.Num op) = Unit {0}
IsSimple _ = ⊥
