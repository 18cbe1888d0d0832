-- The open blocks of a body and its operands. (Standard, Appendix, Validation Algorithm)
use Rattle.std.specs.Prelude.{ℕ, ◌≤◌, ◌-◌, List, [], ◌∷◌, length, drop, Bool, true, false, if◌then◌else◌, ◌==◌, nat_le, Option, Some, None, option_map, option_and_then}
use Rattle.wasm_num.specs.declared.ValType.{ValType}
use Rattle.wasm_num.specs.declared.ValType.TheVariants.{I32, I64}
use Rattle.wasm_num.specs.declared.BlockKind.{BlockKind}
use Rattle.wasm_num.specs.declared.BlockKind.TheVariants.{Function, Block, Loop, If, Else}
use Rattle.ctrl_stack.specs.declared.frame.Frame.{Frame}

-- the frames, innermost first, and the operands of all frames, topmost first; `None` is an operand of unknown type
pub record Stack : Type 0 where
  pub frames : List Frame
  pub operands : List (Option ValType)

-- the base of the innermost frame
abbrev pub base_of : List Frame → ℕ
base_of [] = 0
base_of (f ∷ fs) = f.base

abbrev pub dead_of : List Frame → Bool
dead_of [] = false
dead_of (f ∷ fs) = f.dead

-- no frame has a base above the frames inside it, nor above n operands
abbrev pub AreBasesOrdered : List Frame → (n : ℕ) → Type 0
AreBasesOrdered [] n = Unit {0}
AreBasesOrdered (f ∷ fs) n = (f.base ≤ n) × AreBasesOrdered fs f.base

-- what a branch to a block takes
abbrev pub types_by : BlockKind → (starts results : List ValType) → List ValType
types_by Function starts results = results
types_by Block starts results = results
types_by Loop starts results = starts
types_by If starts results = results
types_by Else starts results = results

abbrev pub label_types : Frame → List ValType
label_types f = types_by f.kind f.starts f.results

-- the stack of a function before its first instruction
abbrev pub function_stack : (results : List ValType) → Stack
function_stack results =
    record { frames = record { kind = Function; starts = []; results = results; base = 0; dead = false } ∷ []; operands = [] }

abbrev pub is_same_type : ValType → ValType → Bool
is_same_type I32 I32 = true
is_same_type I32 I64 = false
is_same_type I64 I32 = false
is_same_type I64 I64 = true

-- an operand is `found` where one is `expected`: its type as far as it is then known, if the two agree
abbrev pub meet : (found expected : Option ValType) → Option (Option ValType)
meet None e = Some e
meet (Some t) None = Some (Some t)
meet (Some t) (Some u) = if is_same_type t u then Some (Some t) else None

abbrev pub push_operand : Option ValType → Stack → Stack
push_operand t s = record s { operands = t ∷ s.operands }

-- the operand at the base of a frame: the expected one if the frame is dead, otherwise none
abbrev pub pop_at_base : (dead : Bool) → (expected : Option ValType) → List (Option ValType) → Option (Option ValType × List (Option ValType))
pop_at_base true e xs = Some (e, xs)
pop_at_base false e xs = None

-- the topmost operand of the list, if the expected one can be there, and the other operands, down to a base
abbrev pub pop_above : (base : ℕ) → (dead : Bool) → (expected : Option ValType) → List (Option ValType) → Option (Option ValType × List (Option ValType))
pop_above base dead e [] = pop_at_base dead e []
pop_above base dead e (x ∷ xs) =
    if nat_le (length (x ∷ xs)) base then pop_at_base dead e (x ∷ xs) else option_map (λ y. (y, xs)) (meet x e)

abbrev pub pop : (expected : Option ValType) → Stack → Option (Option ValType × Stack)
pop e s =
    option_map (λ (r : Option ValType × List (Option ValType)). (r.0, record s { operands = r.1 })) (pop_above (base_of s.frames) (dead_of s.frames) e s.operands)

abbrev pub pop_one : ValType → Stack → Option Stack
pop_one t s = option_map (λ (r : Option ValType × Stack). r.1) (pop (Some t) s)

-- takes operands of these types, the last first
abbrev pub pop_all : List ValType → Stack → Option Stack
pop_all [] s = Some s
pop_all (t ∷ ts) s = option_and_then (pop_one t) (pop_all ts s)

-- puts operands of these types on top, the first one first
abbrev pub push_all : List ValType → Stack → Stack
push_all [] s = s
push_all (t ∷ ts) s = push_all ts (push_operand (Some t) s)

-- with a new innermost frame above the operands, and its start types on top
abbrev pub with_frame : BlockKind → (starts results : List ValType) → Stack → Stack
with_frame kind starts results s =
    push_all starts (record { frames = record { kind = kind; starts = starts; results = results; base = length s.operands; dead = false } ∷ s.frames; operands = s.operands })

abbrev pub where_open : {A : Type 0} → List Frame → Option A → Option A
where_open [] o = None
where_open (f ∷ fs) o = o

-- with a block opened inside the innermost frame, from whose operands its start types come
abbrev pub with_block : BlockKind → (starts results : List ValType) → Stack → Option Stack
with_block kind starts results s = where_open s.frames (option_map (with_frame kind starts results) (pop_all starts s))

abbrev pub without_frame : Frame → List Frame → Stack → Option (Frame × Stack)
without_frame f fs s = if length s.operands == f.base then Some (f, record { frames = fs; operands = s.operands }) else None

abbrev pub without_first : List Frame → Stack → Option (Frame × Stack)
without_first [] s = None
without_first (f ∷ fs) s = option_and_then (without_frame f fs) (pop_all f.results s)

-- the innermost frame, and the stack without it, if the frame has exactly its results as operands
abbrev pub without_block : Stack → Option (Frame × Stack)
without_block s = without_first s.frames s

-- the lowest n operands
abbrev pub lowest_operands : (n : ℕ) → Stack → Stack
lowest_operands n s = record s { operands = drop (length s.operands - n) s.operands }

abbrev pub dead_frames : List Frame → List Frame
dead_frames [] = []
dead_frames (f ∷ fs) = record f { dead = true } ∷ fs

-- with the innermost frame dead, and without its operands
abbrev pub dead_from_here : Stack → Stack
dead_from_here s = record (lowest_operands (base_of s.frames) s) { frames = dead_frames s.frames }
