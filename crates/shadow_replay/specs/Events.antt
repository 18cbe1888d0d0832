-- The items of a trace: at which places of a module events are shown, what items make of the state that they rebuild, and
-- how they move its marks.
use Rattle.std.specs.Prelude.{◌≡◌, ◌⊎◌, ℕ, ◌+◌, ◌^◌, ◌-◌, ◌==◌, ℤ, negsuc, List, [], ◌∷◌, length, Option, Some, None, option_and_then, IsSome, Bool, true, false, cond, slice_get, slice_index_or}
use Rattle.std.specs.List.{fold, AllByRecursion}
use Rattle.wasm_sem.specs.Types.{ValType, NumOp, Value, FuncType, Module, MemArg, Event}
use Rattle.wasm_num.specs.declared.ValType.TheVariants as types
use Rattle.wasm_num.specs.declared.Value.TheVariants.{I32, I64}
use Rattle.wasm_num.specs.declared.BlockKind.TheVariants as kinds
use Rattle.wasm_num.specs.Shapes.{num_operands, num_result}
use Rattle.module_ast.specs.declared.ops.VarOp.TheVariants.{Get, Set, Tee}
use Rattle.module_ast.specs.Structure.{Tree, unreachable, nop, br, br_if, br_table, return_, call, call_indirect, drop_, select, local_get, local_set, local_tee, global_get, global_set, load, store, memory_size, memory_grow, i32_const, i64_const, num}
use Rattle.module_ast.specs.Validation.{load_type, store_type, load_width, store_width}
use Rattle.module_ast.specs.Memory.{load_value, store_bytes, grown_memory}
use Rattle.hook_select.specs.declared.Event.TheVariants as events
use Rattle.hook_mono.specs.Words.{type_of}
use Rattle.wasm_sem.specs.Execution.{own, callees_of, at_zero, TraceItem, entry, host_call, event, hook_call}
use Rattle.shadow_replay.specs.Blocks.{block_at}
use Rattle.shadow_replay.specs.Fit.{ActsAt, EndsAt, BeginsAt, CallsAt}
use Rattle.shadow_replay.specs.Shadow.{Shadow, have_type, if_there, if_true, if_alike, swap, locals_in, writes_local, writes_global, writes_bytes, with_memory, begins_block, begins_function, holds, holds_results, ends_block, enters, calls_callee, calls_typed, answers, takes_given}
use Rattle.shadow_replay.specs.Taint.{Watch, Taint, each_marked, nth_mark, exchange, join, local_mark, mark_local, mark_global, read_mark, mark_bytes, add_pages}
use Rattle.shadow_replay.specs.Tainted.{ShadowMarks, TaintedShadow, move, outer_count, holds_marks, ends_marks, begins_marks, calls_marks, calls_typed_marks, enters_marks, answers_marks, takes_given_marks, with_marks}

-- ---- events

-- The place of an event is one that shows such an event. The start and a function begin at -1.
abbrev pub IsShownAt : Module → Event → Type 0
IsShownAt m (events.Start p) = (m.start ≡ Some p.func) × (p.instr ≡ negsuc 0)
IsShownAt m (events.Nop p) = ActsAt m p nop
IsShownAt m (events.Unreachable p) = ActsAt m p unreachable
IsShownAt m (events.If p x) = BeginsAt m p kinds.If
IsShownAt m (events.Br p n target) = ActsAt m p (br n)
IsShownAt m (events.BrIf p n target x) = ActsAt m p (br_if n)
IsShownAt m (events.BrTable p x n target) = (ns : List ℕ) × (d : ℕ) × ActsAt m p (br_table ns d) × (n ≡ slice_index_or ns x d)
IsShownAt m (events.Begin p kinds.Function) = (ty : FuncType) × (locals : List ValType) × (code : Tree) × (slice_get (callees_of m) p.func ≡ Some (own ty locals code)) × (p.instr ≡ negsuc 0)
IsShownAt m (events.Begin p kind) = BeginsAt m p kind
IsShownAt m (events.End p kind begin) = EndsAt m p kind begin
IsShownAt m (events.Const p (I32 n)) = (z : ℤ) × ActsAt m p (i32_const z)
IsShownAt m (events.Const p (I64 n)) = (z : ℤ) × ActsAt m p (i64_const z)
IsShownAt m (events.Unary p op a r) = ActsAt m p (num op)
IsShownAt m (events.Binary p op a b r) = ActsAt m p (num op)
IsShownAt m (events.Drop p v) = ActsAt m p drop_
IsShownAt m (events.Select p a b x) = ActsAt m p select
IsShownAt m (events.Local p Get x v) = ActsAt m p (local_get x)
IsShownAt m (events.Local p Set x v) = ActsAt m p (local_set x)
IsShownAt m (events.Local p Tee x v) = ActsAt m p (local_tee x)
IsShownAt m (events.Global p Get x v) = ActsAt m p (global_get x)
IsShownAt m (events.Global p Set x v) = ActsAt m p (global_set x)
IsShownAt m (events.Load p op offset a v) = (arg : MemArg) × ActsAt m p (load op arg) × (arg.offset ≡ offset)
IsShownAt m (events.Store p op offset a v) = (arg : MemArg) × ActsAt m p (store op arg) × (arg.offset ≡ offset)
IsShownAt m (events.MemorySize p n) = ActsAt m p memory_size
IsShownAt m (events.MemoryGrow p by previous) = ActsAt m p memory_grow
IsShownAt m (events.CallPre p f args) = ActsAt m p (call f)
IsShownAt m (events.IndirectPre p x slot f args) = ActsAt m p (call_indirect x)
IsShownAt m (events.CallPost p vs) = CallsAt m p
IsShownAt m (events.Return p vs) = ActsAt m p return_ ⊎ EndsAt m p kinds.Function (negsuc 0)
IsShownAt m _ = ⊥

-- ---- instructions on operands, variables and memory

-- what the event of such an instruction makes of a state with at most `limit` pages, and how it moves the marks
pub record Change : Type 0 where
  pub state : (limit : ℕ) → Option Shadow
  pub marks : Taint → Taint

-- takes operands of these types, and pushes values, each with this mark
abbrev pub swaps : Shadow → (takes : List ValType) → (pushed : List Value) → (mark : Taint → Bool) → Change
swaps sh ts vs mark = record { state = λ limit. swap ts vs sh; marks = λ t. exchange (length ts) (each_marked (mark t) vs) t }

-- changes nothing
abbrev pub stays : Shadow → Change
stays sh = record { state = λ limit. Some sh; marks = λ t. t }

-- no value is marked
abbrev pub unmarked : Taint → Bool
unmarked t = false

-- the change, but no state if the test refuses it
abbrev pub tested : (test : Option Shadow → Option Shadow) → Change → Change
tested test c = record c { state = λ limit. test (c.state limit) }

-- then writes a value, with the mark of the topmost operand
abbrev pub writing : (write : Shadow → Option Shadow) → (mark : Bool → Taint → Taint) → Change → Change
writing write mark c = record { state = λ limit. option_and_then write (c.state limit); marks = λ t. c.marks (mark (nth_mark t.operands 0) t) }

-- the result of a number instruction is of its type, and marked if an operand is
abbrev pub computes : Shadow → NumOp → (result : Value) → Change
computes sh op r = record {
  state = λ limit. if_true (have_type (num_result op) r) (swap (num_operands op) (r ∷ []) sh);
  marks = join (length (num_operands op));
}

-- a variable has a value of its type, which is pushed
abbrev pub reads : Shadow → (variable : Option Value) → Value → (mark : Taint → Bool) → Change
reads sh x v mark = tested (if_alike x v) (swaps sh [] (v ∷ []) mark)

-- grows the memory, unless the run could not
abbrev pub grows : (refused : Bool) → (limit by : ℕ) → Shadow → Option Shadow
grows true limit by sh = Some sh
grows false limit by sh = with_memory sh (grown_memory limit by sh.memory)

abbrev pub grown_marks : (previous by : ℕ) → Taint → Taint
grown_marks previous by t = cond (previous == 2 ^ 32 - 1) t (add_pages by t)

-- by event; of branches, blocks and calls `event_effect` and `event_marks` say it below
abbrev pub change : Shadow → Event → Change
change sh (events.Start p) = stays sh
change sh (events.Nop p) = stays sh
change sh (events.Unreachable p) = stays sh
change sh (events.If p x) = swaps sh (types.I32 ∷ []) [] unmarked
change sh (events.Const p v) = swaps sh [] (v ∷ []) unmarked
change sh (events.Unary p op a r) = computes sh op r
change sh (events.Binary p op a b r) = computes sh op r
change sh (events.Drop p v) = swaps sh (type_of v ∷ []) [] unmarked
change sh (events.Select p a b x) =
    swaps sh (type_of a ∷ type_of a ∷ types.I32 ∷ []) (at_zero x b a ∷ []) (λ t. at_zero x (nth_mark t.operands 1) (nth_mark t.operands 2))
change sh (events.Local p Get x v) = reads sh (slice_get (locals_in sh.frames) x) v (local_mark x)
change sh (events.Local p Set x v) = writing (writes_local x v) (mark_local x) (swaps sh (type_of v ∷ []) [] unmarked)
change sh (events.Local p Tee x v) = writing (writes_local x v) (mark_local x) (stays sh)
change sh (events.Global p Get x v) = reads sh (slice_get sh.globals x) v (λ t. nth_mark t.globals x)
change sh (events.Global p Set x v) = writing (writes_global x v) (mark_global x) (swaps sh (type_of v ∷ []) [] unmarked)
change sh (events.Load p op offset a v) =
    tested (λ next. if_true (have_type (load_type op) v) (if_there (load_value op (a + offset) sh.memory) next))
    (swaps sh (types.I32 ∷ []) (v ∷ []) (read_mark (a + offset) (load_width op)))
change sh (events.Store p op offset a v) =
    writing (writes_bytes (a + offset) (store_bytes op v)) (mark_bytes (a + offset) (store_width op)) (swaps sh (types.I32 ∷ store_type op ∷ []) [] unmarked)
change sh (events.MemorySize p n) = swaps sh [] (I32 n ∷ []) unmarked
change sh (events.MemoryGrow p by previous) = record {
  state = λ limit. option_and_then (grows (previous == 2 ^ 32 - 1) limit by) (swap (types.I32 ∷ []) (I32 previous ∷ []) sh);
  marks = λ t. exchange 1 (false ∷ []) (grown_marks previous by t);
}
change sh _ = record { state = λ limit. None; marks = λ t. t }

-- ---- all events

-- the state that an event makes of a state with at most `limit` pages
abbrev pub event_effect : Module → (limit : ℕ) → Shadow → Event → Option Shadow
event_effect m limit sh (events.Br p n target) = holds n sh.frames sh
event_effect m limit sh (events.BrIf p n target x) = option_and_then (λ (sh : Shadow). at_zero x (Some sh) (holds n sh.frames sh)) (swap (types.I32 ∷ []) [] sh)
event_effect m limit sh (events.BrTable p x n target) = option_and_then (λ (sh : Shadow). holds n sh.frames sh) (swap (types.I32 ∷ []) [] sh)
event_effect m limit sh (events.Begin p kinds.Function) = begins_function sh p.func (slice_get (callees_of m) p.func) sh.prepared
event_effect m limit sh (events.Begin p kind) = begins_block m sh p.instr (block_at m p)
event_effect m limit sh (events.End p kind begin) = ends_block p kind begin sh.frames sh.held sh
event_effect m limit sh (events.CallPre p f args) = calls_callee sh (slice_get (callees_of m) f)
event_effect m limit sh (events.IndirectPre p ty slot f args) = option_and_then (calls_typed m f (slice_get m.types ty)) (swap (types.I32 ∷ []) [] sh)
event_effect m limit sh (events.CallPost p vs) = takes_given vs sh.given sh
event_effect m limit sh (events.Return p vs) = holds_results vs sh.frames sh
event_effect m limit sh e = (change sh e).state limit

-- how an event moves the marks
abbrev pub event_marks : Module → Shadow → Event → ShadowMarks → ShadowMarks
event_marks m sh (events.Br p n target) k = holds_marks n sh.frames k
event_marks m sh (events.BrIf p n target x) k = at_zero x (move (exchange 1 []) k) (holds_marks n sh.frames (move (exchange 1 []) k))
event_marks m sh (events.BrTable p x n target) k = holds_marks n sh.frames (move (exchange 1 []) k)
event_marks m sh (events.Begin p kinds.Function) k = begins_marks k
event_marks m sh (events.End p kind begin) k = ends_marks sh.frames sh.held k
event_marks m sh (events.CallPre p f args) k = calls_marks p (slice_get (callees_of m) f) k
event_marks m sh (events.IndirectPre p ty slot f args) k = calls_typed_marks m p f (slice_get m.types ty) (move (exchange 1 []) k)
event_marks m sh (events.CallPost p vs) k = takes_given_marks k
event_marks m sh (events.Return p vs) k = holds_marks (outer_count sh.frames) sh.frames k
event_marks m sh e k = move (change sh e).marks k

-- ---- items

-- the state that an item makes of a state with at most `limit` pages; `None` if the item does not find what it names
abbrev pub effect : Module → (limit : ℕ) → Shadow → TraceItem → Option Shadow
effect m limit sh (entry c) = enters sh c.args (slice_get (callees_of m) c.func)
effect m limit sh (host_call f args vs ws) = answers sh (slice_get (callees_of m) f) sh.prepared vs ws
effect m limit sh (event e) = event_effect m limit sh e
effect m limit sh (hook_call h) = None

-- the state that items make, one after another
abbrev pub effects : Module → (limit : ℕ) → Option Shadow → List TraceItem → Option Shadow
effects m limit sh is = fold (λ (o : Option Shadow) (i : TraceItem). option_and_then (λ (sh : Shadow). effect m limit sh i) o) sh is

-- how an item that is fit for a state moves the marks
abbrev pub item_marks : Module → Watch → Shadow → TraceItem → ShadowMarks → ShadowMarks
item_marks m w sh (entry c) k = enters_marks c.args (slice_get (callees_of m) c.func) k
item_marks m w sh (host_call f vs rs ws) k = answers_marks w f rs ws k.prepared k
item_marks m w sh (event e) k = event_marks m sh e k
item_marks m w sh (hook_call h) k = k

-- the state and the marks that an item makes, with at most `limit` pages; `None` if the item does not find what it
-- names
abbrev pub tainted_effect : Module → (limit : ℕ) → Watch → TaintedShadow → TraceItem → Option TaintedShadow
tainted_effect m limit w sh i = with_marks (item_marks m w sh.state i sh.marks) (effect m limit sh.state i)

-- the state and the marks that items make, one after another
abbrev pub tainted_effects : Module → (limit : ℕ) → Watch → Option TaintedShadow → List TraceItem → Option TaintedShadow
tainted_effects m limit w sh is =
    fold (λ (o : Option TaintedShadow) (i : TraceItem). option_and_then (λ (sh : TaintedShadow). tainted_effect m limit w sh i) o) sh is

-- ---- items that are fit

-- an event is at a place that shows it; a hook call is never shown
abbrev pub IsShown : Module → TraceItem → Type 0
IsShown m (event e) = IsShownAt m e
IsShown m (entry c) = Unit {0}
IsShown m (host_call f vs rs ws) = Unit {0}
IsShown m (hook_call h) = ⊥

abbrev pub AreShown : Module → List TraceItem → Type 0
AreShown m is = AllByRecursion (IsShown m) is

-- An item is fit for a state with at most `limit` pages: its place is one that shows such an item, and its effect finds
-- what it names in the module and in the state.
pub record IsItemFit (m : Module) (limit : ℕ) (sh : Shadow) (i : TraceItem) : Type 0 where
  pub place : IsShown m i
  pub effect : IsSome (effect m limit sh i)
