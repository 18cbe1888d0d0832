-- What contracts see of a shadow: a state with its marks, the module, the bound on its pages, and which imports are
-- watched.
use Rattle.std.specs.Prelude.{◌≡◌, ℕ, List, [], ◌∷◌, length, map, reverse, slice_get, Option, Some, None, option_map, option_and_then, IsSome, Bool}
use Rattle.wasm_num.specs.declared.ValType.TheVariants as types
use Rattle.wasm_sem.specs.Types.{NumOp, Value, FuncType, Loc, Module, StoreOp, Event}
use Rattle.wasm_num.specs.Shapes.{num_operands, num_result}
use Rattle.module_ast.specs.Memory.{with_bytes, store_bytes}
use Rattle.module_ast.specs.Validation.{store_width}
use Rattle.wasm_sem.specs.declared.HostWrite.{HostWrite}
use Rattle.wasm_sem.specs.Execution.{TraceItem, host_call, callees_of}
use Rattle.shadow_replay.specs.declared.Warning.{Warning}
use Rattle.shadow_replay.specs.declared.marked.Marked.{Marked}
use Rattle.shadow_replay.specs.Blocks.{block_at}
use Rattle.shadow_replay.specs.Shadow.{ShadowFrame, Shadow, have_type, if_true, swap, holds, drops_label, begins_block, begins_function, calls_callee, calls_typed, prepared_slot}
use Rattle.shadow_replay.specs.Events.{event_effect, tainted_effect}
use Rattle.shadow_replay.specs.Stacked.{values_in, marks_in, Standing, exchanged_in, AreOperandsBelow}
use Rattle.shadow_replay.specs.Taint.{Watch, exchange, join, mark_bytes, warnings_by}
use Rattle.shadow_replay.specs.Tainted.{arity_in, PreparedMarks, TaintedShadow, move, holds_marks, drops_marks, takes_given_marks, calls_typed_marks, slot_marks, with_marks}

pub record Replay : Type 0 where
  pub «module» : Module
  pub limit : ℕ
  pub watch : Watch
  pub shadow : TaintedShadow

-- the locals that are prepared for a function, and the call that prepared them
pub record PreparedLocals : Type 0 where
  pub call : Option Loc
  pub locals : List Marked

-- the values that a branch takes with it, the lowest first
pub record HeldOperands : Type 0 where
  pub operands : List Marked
  pub label : ℕ

abbrev pub held_marks : Option HeldOperands → List Bool
held_marks None = []
held_marks (Some h) = reverse (marks_in h.operands)

abbrev pub given_marks : Option (List Marked) → List Bool
given_marks None = []
given_marks (Some ms) = reverse (marks_in ms)

abbrev pub values_prepared : Option PreparedLocals → Option (List Value)
values_prepared p = option_map (λ (p : PreparedLocals). values_in p.locals) p

abbrev pub marks_prepared : Option PreparedLocals → Option PreparedMarks
marks_prepared p = option_map (λ (p : PreparedLocals). record { call = p.call; marks = marks_in p.locals }) p

-- the state that a shadow keeps in these parts
abbrev pub shadow_seen : (memory : List ℕ) → List Bool → (globals : List Marked) → Standing → Option PreparedLocals → Option HeldOperands → (given : Option (List Marked)) → List Warning → TaintedShadow
shadow_seen memory ks gs st p h g ws = record {
  state = record {
    memory = memory;
    globals = values_in gs;
    frames = st.frames;
    prepared = values_prepared p;
    held = option_map (λ (h : HeldOperands). record { values = values_in h.operands; label = h.label }) h;
    given = option_map values_in g;
  };
  marks = record {
    taint = record { memory = ks; globals = marks_in gs; locals = st.locals; operands = st.operands; warnings = ws };
    prepared = marks_prepared p;
    held = held_marks h;
    given = given_marks g;
  };
}

-- ---- how calls change it

-- with another stack
abbrev pub with_standing : Standing → TaintedShadow → TaintedShadow
with_standing st sh = record {
  state = record sh.state { frames = st.frames };
  marks = record sh.marks { taint = record sh.marks.taint { locals = st.locals; operands = st.operands } };
}

abbrev pub standing_in : TaintedShadow → Standing
standing_in sh = record { frames = sh.state.frames; operands = sh.marks.taint.operands; locals = sh.marks.taint.locals }

-- with another memory
abbrev pub with_marked_memory : (bytes : List ℕ) → List Bool → TaintedShadow → TaintedShadow
with_marked_memory bytes ks sh = record { state = record sh.state { memory = bytes }; marks = record sh.marks { taint = record sh.marks.taint { memory = ks } } }

-- the state becomes this one, and nothing else changes
pub record Becomes (sh : Option TaintedShadow) (old new : Replay) : Type 0 where
  pub effect : sh ≡ Some new.shadow
  pub «module» : new.module ≡ old.module
  pub limit : new.limit ≡ old.limit
  pub watch : new.watch ≡ old.watch

abbrev pub TakesItem : TraceItem → (old new : Replay) → Type 0
TakesItem i old new = Becomes (tainted_effect old.module old.limit old.watch old.shadow i) old new

abbrev pub IsFitEvent : Event → Replay → Type 0
IsFitEvent e r = IsSome (event_effect r.module r.limit r.shadow.state e)

-- what the event of a number instruction makes of a state
abbrev pub number_effect : NumOp → (result : Value) → Shadow → Option Shadow
number_effect op r sh = if_true (have_type (num_result op) r) (swap (num_operands op) (r ∷ []) sh)

-- and of its marks
abbrev pub number_taken : NumOp → (result : Value) → TaintedShadow → Option TaintedShadow
number_taken op r sh = with_marks (move (join (length (num_operands op))) sh.marks) (number_effect op r sh.state)

-- the lowest bytes of a value are written
abbrev pub stored_memory : StoreOp → (address : ℕ) → Value → List ℕ → Option (List ℕ)
stored_memory op a v memory = option_and_then (λ (bytes : List ℕ). with_bytes a bytes memory) (store_bytes op v)

pub record StoresBytes (address : ℕ) (op : StoreOp) (value : Value) (mark : Bool) (old new : Replay) : Type 0 where
  pub memory : stored_memory op address value old.shadow.state.memory ≡ Some new.shadow.state.memory
  pub rest : new ≡ record old { shadow = with_marked_memory new.shadow.state.memory (mark_bytes address (store_width op) mark old.shadow.marks.taint).memory old.shadow }

-- ---- branches and ends

-- the state without the topmost `count` operands
abbrev pub below : (count : ℕ) → Shadow → Shadow
below n sh = record sh { frames = exchanged_in n [] sh.frames }

abbrev pub held_below : (above label : ℕ) → Shadow → Option Shadow
held_below above n sh = holds n (below above sh).frames (below above sh)

-- a branch holds these values
abbrev pub held_in : (label : ℕ) → List Marked → TaintedShadow → TaintedShadow
held_in n ms sh = record {
  state = record sh.state { held = Some (record { values = values_in ms; label = n }) };
  marks = record sh.marks { held = reverse (marks_in ms) };
}

-- a branch to a label holds the values that it takes, which are below the topmost `above` operands
pub record HoldsValues (label above : ℕ) (old new : Replay) : Type 0 where
  pub operands : List Marked
  pub below : AreOperandsBelow above (arity_in label old.shadow.state.frames) operands (standing_in old.shadow)
  pub is : new ≡ record old { shadow = held_in label operands old.shadow }

-- a branch holds them, below a condition or an index on top, which goes
abbrev pub held_under : (label : ℕ) → Shadow → Option Shadow
held_under n sh = option_and_then (λ (sh : Shadow). holds n sh.frames sh) (swap (types.I32 ∷ []) [] sh)

abbrev pub branch_taken : (label : ℕ) → TaintedShadow → Option TaintedShadow
branch_taken n sh = with_marks (holds_marks n sh.state.frames (move (exchange 1 []) sh.marks)) (held_under n sh.state)

-- what the end of the innermost label makes of a state
abbrev pub ended_in : List ShadowFrame → TaintedShadow → Option TaintedShadow
ended_in [] sh = None
ended_in (fr ∷ below) sh = with_marks (drops_marks fr sh.state.held sh.marks) (drops_label sh.state fr below sh.state.held)

abbrev pub ended : TaintedShadow → Option TaintedShadow
ended sh = ended_in sh.state.frames sh

-- the values that a call gave are put on top
abbrev pub given_taken : TaintedShadow → Option TaintedShadow
given_taken sh = with_marks (takes_given_marks sh.marks) (option_and_then (λ (vs : List Value). swap [] vs (record sh.state { given = None })) sh.state.given)

-- ---- calls

-- a function begins whose locals are prepared
abbrev pub function_begun : (func : ℕ) → Replay → Option Shadow
function_begun f r = begins_function r.shadow.state f (slice_get (callees_of r.module) f) r.shadow.state.prepared

-- a block begins
abbrev pub block_begun : Loc → Replay → Option Shadow
block_begun l r = begins_block r.module r.shadow.state l.instr (block_at r.module l)

-- a call takes its arguments off the stack
abbrev pub called : (func : ℕ) → Replay → Option Shadow
called f r = calls_callee r.shadow.state (slice_get (callees_of r.module) f)

-- a call through a slot takes the number of the slot and its arguments off the stack
abbrev pub called_through : (ty : ℕ) → (func : Option ℕ) → Replay → Option Shadow
called_through ty f r = option_and_then (calls_typed r.module f (slice_get r.module.types ty)) (swap (types.I32 ∷ []) [] r.shadow.state)

abbrev pub slot_called : Loc → (ty : ℕ) → (func : Option ℕ) → Replay → Option TaintedShadow
slot_called l ty f r = with_marks (calls_typed_marks r.module l f (slice_get r.module.types ty) (move (exchange 1 []) r.shadow.marks)) (called_through ty f r)

-- what a call through a slot prepares for the function in the slot
pub record Prepares (loc : Loc) (asked : FuncType) (func : Option ℕ) (args : List Marked) (r : Replay) (p : Option PreparedLocals) : Type 0 where
  pub values : values_prepared p ≡ prepared_slot r.module asked func (values_in args)
  pub marks : marks_prepared p ≡ slot_marks r.module loc asked func (marks_in args)

-- ---- host calls

-- these values, each with this mark
abbrev pub marked_values : (mark : Bool) → List Value → List Marked
marked_values k vs = map (λ (v : Value). record { value = v; mark = k }) vs

-- a host call with the arguments that are prepared
abbrev pub arguments : Option (List Value) → List Value
arguments None = []
arguments (Some vs) = vs

abbrev pub answered : (func : ℕ) → (results : List Value) → List HostWrite → Shadow → TraceItem
answered f vs ws sh = host_call f (arguments sh.prepared) vs ws

-- the warnings of a call
abbrev pub call_warnings : Watch → (func : ℕ) → Option PreparedMarks → List Warning
call_warnings w f None = []
call_warnings w f (Some p) = warnings_by w f p.call p.marks
