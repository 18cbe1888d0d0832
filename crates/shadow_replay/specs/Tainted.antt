-- The shadow state with a mark on each byte and value. The items of a trace move the marks along with what they
-- rebuild.
use Rattle.std.specs.Prelude.{ℕ, zero, suc, List, [], ◌∷◌, ◌++◌, length, reverse, take, Option, Some, None, Bool, false, cond, slice_get}
use Rattle.wasm_sem.specs.Types.{Value, FuncType, Loc, Module}
use Rattle.wasm_sem.specs.declared.HostWrite.{HostWrite}
use Rattle.wasm_sem.specs.Execution.{Callee, host, hook, own, callee_type, callees_of, same_func_type}
use Rattle.shadow_replay.specs.Shadow.{ShadowLabel, ShadowFrame, HeldValues, Shadow}
use Rattle.shadow_replay.specs.Taint.{Watch, Taint, is_watched, each_marked, exchange, unmark_writes, begin_frame, end_frame, no_frames, warn}

-- ---- the state

-- the marks of prepared locals, and the call that prepared them; an entry is no call
pub record PreparedMarks : Type 0 where
  pub call : Option Loc
  pub marks : List Bool

-- the marks of a shadow: of its bytes and values, of the locals that are prepared, and of the values that are held and
-- that are given, topmost first
pub record ShadowMarks : Type 0 where
  pub taint : Taint
  pub prepared : Option PreparedMarks
  pub held : List Bool
  pub given : List Bool

pub record TaintedShadow : Type 0 where
  pub state : Shadow
  pub marks : ShadowMarks

-- ---- blocks and branches

-- moves marks on bytes and values, and warns of nothing
abbrev pub move : (Taint → Taint) → ShadowMarks → ShadowMarks
move change k = record k { taint = record (change k.taint) { warnings = k.taint.warnings } }

-- how many values a branch to a label takes; the label is counted outwards from one whose branches take `arity` values
abbrev pub held_arity : (label : ℕ) → (arity : ℕ) → List ShadowLabel → ℕ
held_arity zero a outer = a
held_arity (suc n) a [] = 0
held_arity (suc n) a (l ∷ ls) = held_arity n l.arity ls

-- how many values a branch to a label takes, which is counted from the innermost one; none without a frame
abbrev pub arity_in : (label : ℕ) → List ShadowFrame → ℕ
arity_in n [] = 0
arity_in n (fr ∷ below) = held_arity n fr.top.arity fr.outer

-- how many labels the innermost frame has around its innermost label
abbrev pub outer_count : List ShadowFrame → ℕ
outer_count [] = 0
outer_count (fr ∷ below) = length fr.outer

-- a branch to a label holds the marks of the values that it takes
abbrev pub holds_marks : (label : ℕ) → List ShadowFrame → ShadowMarks → ShadowMarks
holds_marks n fs k = record k { held = take (arity_in n fs) k.taint.operands }

-- a branch closes the innermost label with its operands, and leaves the frame if the label is the function's
abbrev pub drops_held_marks : (count : ℕ) → List ShadowLabel → (label : ℕ) → ShadowMarks → ShadowMarks
drops_held_marks n [] label k = record k { taint = end_frame (exchange n [] k.taint); held = []; given = k.held }
drops_held_marks n (l ∷ ls) zero k = record k { taint = exchange n k.held k.taint; held = [] }
drops_held_marks n (l ∷ ls) (suc label) k = move (exchange n []) k

-- without a branch, the operands of the innermost label stay; if the label is the function's, they are given
abbrev pub drops_fallen_marks : (count arity : ℕ) → List ShadowLabel → ShadowMarks → ShadowMarks
drops_fallen_marks n a [] k = record k { taint = end_frame (exchange n [] k.taint); given = take a k.taint.operands }
drops_fallen_marks n a (l ∷ ls) k = k

abbrev pub drops_marks : ShadowFrame → Option HeldValues → ShadowMarks → ShadowMarks
drops_marks fr None k = drops_fallen_marks (length fr.top.ops) fr.top.arity fr.outer k
drops_marks fr (Some h) k = drops_held_marks (length fr.top.ops) fr.outer h.label k

abbrev pub ends_marks : List ShadowFrame → Option HeldValues → ShadowMarks → ShadowMarks
ends_marks [] held k = k
ends_marks (fr ∷ below) held k = drops_marks fr held k

-- ---- calls

-- the zeros of declared locals are not marked
abbrev pub local_marks : Callee → (args : List Bool) → List Bool
local_marks (own ty locals code) ks = ks ++ each_marked false locals
local_marks (host ty) ks = ks
local_marks (hook ty) ks = ks

abbrev pub prepared_marks : Option Loc → Option Callee → (args : List Bool) → Option PreparedMarks
prepared_marks p None ks = None
prepared_marks p (Some c) ks = Some (record { call = p; marks = local_marks c ks })

-- the marks for a function, if it has the type that the call names
abbrev pub typed_marks : Loc → FuncType → Option Callee → (args : List Bool) → Option PreparedMarks
typed_marks p ty None ks = None
typed_marks p ty (Some c) ks = cond (same_func_type (callee_type c) ty) (prepared_marks (Some p) (Some c) ks) None

abbrev pub slot_marks : Module → Loc → FuncType → Option ℕ → (args : List Bool) → Option PreparedMarks
slot_marks m p ty None ks = None
slot_marks m p ty (Some f) ks = typed_marks p ty (slice_get (callees_of m) f) ks

-- takes `count` arguments off the stack; the mark of the first argument is first
abbrev pub takes_marks : (count : ℕ) → (prepared : List Bool → Option PreparedMarks) → ShadowMarks → ShadowMarks
takes_marks n prepared k = record k { taint = exchange n [] k.taint; prepared = prepared (reverse (take n k.taint.operands)) }

abbrev pub calls_marks : Loc → Option Callee → ShadowMarks → ShadowMarks
calls_marks p None k = k
calls_marks p (Some c) k = takes_marks (length (callee_type c).params) (prepared_marks (Some p) (Some c)) k

abbrev pub calls_typed_marks : Module → Loc → Option ℕ → Option FuncType → ShadowMarks → ShadowMarks
calls_typed_marks m p f None k = k
calls_typed_marks m p f (Some ty) k = takes_marks (length ty.params) (slot_marks m p ty f) k

abbrev pub bits_prepared : Option PreparedMarks → List Bool
bits_prepared None = []
bits_prepared (Some p) = p.marks

-- a frame begins with the locals that were prepared for it
abbrev pub begins_marks : ShadowMarks → ShadowMarks
begins_marks k = record k { taint = begin_frame (bits_prepared k.prepared) k.taint; prepared = None }

-- an entry starts anew, with arguments that are not marked
abbrev pub enters_marks : (args : List Value) → Option Callee → ShadowMarks → ShadowMarks
enters_marks args c k = record { taint = no_frames k.taint; prepared = prepared_marks None c (each_marked false args); held = []; given = [] }

-- a host function is called with what is prepared, and what it gives is marked if it is a source
abbrev pub answers_marks : Watch → (func : ℕ) → (results : List Value) → List HostWrite → Option PreparedMarks → ShadowMarks → ShadowMarks
answers_marks w f vs ws None k = k
answers_marks w f vs ws (Some p) k =
    record k { taint = warn w p.call f p.marks (unmark_writes ws k.taint); prepared = None; given = each_marked (is_watched w.sources f) vs }

abbrev pub takes_given_marks : ShadowMarks → ShadowMarks
takes_given_marks k = record k { taint = exchange 0 k.given k.taint; given = [] }

-- ---- a state with its marks

abbrev pub with_marks : ShadowMarks → Option Shadow → Option TaintedShadow
with_marks k None = None
with_marks k (Some sh) = Some (record { state = sh; marks = k })
