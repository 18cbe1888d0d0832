-- What the next step of a module without hooks shows: its events and host calls, in order, from the configuration alone.
use Rattle.std.specs.Prelude.{ℕ, zero, suc, ◌+◌, ◌-◌, ◌^◌, ℤ, pos, negsuc, List, [], ◌∷◌, ◌++◌, length, Option, Some, None, Bool, true, false, cond, nat_lt, slice_get, slice_index_or}
use Rattle.wasm_sem.specs.Types.{ValType, NumOp, Value, Loc, FuncType, Event}
use Rattle.wasm_num.specs.declared.ValType.TheVariants as types
use Rattle.wasm_num.specs.declared.Value.TheVariants.{I32}
use Rattle.wasm_num.specs.Shapes.{num_operands}
use Rattle.wasm_num.specs.Numbers.{Num, gives, fails, ill_typed, unary, binary}
use Rattle.module_ast.specs.declared.ops.VarOp.TheVariants.{Get, Set, Tee}
use Rattle.module_ast.specs.Structure.{Tree, done, plain, block, loop, if_then, if_else, Plain, unreachable, nop, br, br_if, br_table, return_, call, call_indirect, drop_, select, local_get, local_set, local_tee, global_get, global_set, load, store, memory_size, memory_grow, i32_const, i64_const, num, is_start}
use Rattle.module_ast.specs.Places.{Scope, function_scope, block_scope, loop_scope, if_scope, then_scope, else_scope}
use Rattle.hook_select.specs.declared.Event.TheVariants as events
use Rattle.wasm_sem.specs.declared.HostWrite.{HostWrite}
use Rattle.wasm_sem.specs.declared.HostAnswer.{HostAnswer}
use Rattle.wasm_sem.specs.declared.HookCall.{HookCall}
use Rattle.module_ast.specs.Memory.{pages, with_bytes, load_value, store_bytes, grown_memory}
use Rattle.wasm_sem.specs.Store.{Store, value_of, values_of, answer_at, writes_done}
use Rattle.wasm_sem.specs.Link.{Callee, host, hook, own, callee_type, Entry, Instance}
use Rattle.wasm_sem.specs.Machine.{Label, Frame, Env, Configuration, configuration, Phase, starting, calling, over, pop_values, at_zero, with_ops, frame_behind, same_func_type, start_entry, call_entry}

-- what a run shows: an entry of the start or of a call of the script; a call of a host function with its arguments, its
-- results and the writes that were done; an event; or a call of a hook
pub data TraceItem : Type 0 where
  entry : Entry → TraceItem
  host_call : (func : ℕ) → (args results : List Value) → (writes : List HostWrite) → TraceItem
  event : Event → TraceItem
  hook_call : HookCall → TraceItem

abbrev pub loc : (func : ℕ) → ℤ → Loc
loc f p = record { func = f; instr = p }

-- the place of the instruction executed last
abbrev pub here : Frame → Loc
here fr = loc fr.func (pos fr.pending)

-- ---- blocks

abbrev pub shown_begin : (func : ℕ) → Scope → TraceItem
shown_begin f s = event (events.Begin (loc f s.begin) s.kind)

abbrev pub shown_end : (func : ℕ) → Scope → TraceItem
shown_end f s = event (events.End (loc f (pos s.end)) s.kind s.begin)

-- the event behind a call, in the frame that made it, with the results
abbrev pub shown_post : List Frame → (results : List Value) → List TraceItem
shown_post [] vs = []
shown_post (fr ∷ below) vs = event (events.CallPost (here fr) vs) ∷ []

abbrev pub shown_results : List Frame → Option (List Value × List Value) → List TraceItem
shown_results below None = []
shown_results below (Some p) = shown_post below p.0

-- the ends of the blocks that a branch leaves, innermost first; and, if it leaves the function, the event behind the
-- call
abbrev pub shown_ends : (func : ℕ) → List Frame → (ops : List Value) → ℕ → Label → List Label → List TraceItem
shown_ends f below o zero t [] = shown_end f t.scope ∷ shown_results below (pop_values t.arity o [])
shown_ends f below o zero t (l ∷ ls) = shown_end f t.scope ∷ []
shown_ends f below o (suc n) t [] = []
shown_ends f below o (suc n) t (l ∷ ls) = shown_end f t.scope ∷ shown_ends f below o n l ls

-- where a branch to a label leads
abbrev pub label_target : ℕ → Label → List Label → ℤ
label_target zero t outer = pos t.scope.target
label_target (suc n) t [] = pos 0
label_target (suc n) t (l ∷ ls) = label_target n l ls

abbrev pub outermost : Label → List Label → Label
outermost t [] = t
outermost t (l ∷ ls) = outermost l ls

abbrev pub shown_return : Loc → Option (List Value × List Value) → List TraceItem
shown_return p None = []
shown_return p (Some r) = event (events.Return p r.0) ∷ []

-- ---- calls

abbrev pub shown_start : (starts : Bool) → (func : ℕ) → List TraceItem
shown_start false f = []
shown_start true f = event (events.Start (loc f (negsuc 0))) ∷ []

-- a function of the module begins, if the depth allows it
abbrev pub shown_entered : Instance → List Frame → ℕ → Tree → List TraceItem
shown_entered inst below f code =
    cond (nat_lt (length below) inst.depth) (shown_start (is_start inst.start f) f ++ (shown_begin f (function_scope code) ∷ [])) []

abbrev pub host_item : Env → ℕ → FuncType → HostAnswer → (args : List Value) → TraceItem
host_item e f ty a args = host_call f args (values_of ty.results a.results) (writes_done e.store.memory a.writes)

abbrev pub shown_host : Env → List Frame → ℕ → FuncType → HostAnswer → (args : List Value) → List TraceItem
shown_host e below f ty a args = host_item e f ty a args ∷ shown_post below (values_of ty.results a.results)

abbrev pub shown_invoke : Instance → Env → List Frame → ℕ → Callee → (args : List Value) → List TraceItem
shown_invoke inst e below f (own ty locals code) args = shown_entered inst below f code
shown_invoke inst e below f (host ty) args = shown_host e below f ty (answer_at inst.hosts e.store.hosts) args
shown_invoke inst e below f (hook ty) args = []

abbrev pub shown_popped : Instance → Env → Frame → List Frame → ℕ → Callee → Option (List Value × List Value) → List TraceItem
shown_popped inst e fr below f c None = []
shown_popped inst e fr below f c (Some p) = event (events.CallPre (here fr) f p.0) ∷ shown_invoke inst e (with_ops fr p.1 ∷ below) f c p.0

abbrev pub shown_call : Instance → Env → Frame → List Frame → (ops : List Value) → ℕ → Option Callee → List TraceItem
shown_call inst e fr below o f None = []
shown_call inst e fr below o f (Some c) = shown_popped inst e fr below f c (pop_values (length (callee_type c).params) o [])

abbrev pub shown_typed : Instance → Env → List Frame → FuncType → ℕ → Option Callee → (args : List Value) → List TraceItem
shown_typed inst e below ty f None args = []
shown_typed inst e below ty f (Some c) args = cond (same_func_type (callee_type c) ty) (shown_invoke inst e below f c args) []

-- the function in a slot that is there
abbrev pub in_slot : Option (Option ℕ) → Option ℕ
in_slot None = None
in_slot (Some f) = f

abbrev pub shown_through : Instance → Env → List Frame → FuncType → Option ℕ → (args : List Value) → List TraceItem
shown_through inst e below ty None args = []
shown_through inst e below ty (Some f) args = shown_typed inst e below ty f (slice_get inst.funcs f) args

abbrev pub shown_slot : Instance → Env → Frame → List Frame → (ty : ℕ) → FuncType → (slot : ℕ) → Option ℕ → Option (List Value × List Value) → List TraceItem
shown_slot inst e fr below x ty i f None = []
shown_slot inst e fr below x ty i f (Some p) = event (events.IndirectPre (here fr) x i f p.0) ∷ shown_through inst e (with_ops fr p.1 ∷ below) ty f p.0

abbrev pub shown_indirect : Instance → Env → Frame → List Frame → (ty slot : ℕ) → (ops : List Value) → Option FuncType → List TraceItem
shown_indirect inst e fr below x i o None = []
shown_indirect inst e fr below x i o (Some ty) =
    shown_slot inst e fr below x ty i (in_slot (slice_get e.store.slots i)) (pop_values (length ty.params) o [])

-- ---- instructions that concern only the store, locals and operands

abbrev pub shown_variable : (Value → Event) → Option Value → List TraceItem
shown_variable of None = []
shown_variable of (Some v) = event (of v) ∷ []

-- a variable that is there is set
abbrev pub shown_set : Option Value → Event → List TraceItem
shown_set None e = []
shown_set (Some v) e = event e ∷ []

abbrev pub shown_result : (Value → Event) → Num → List TraceItem
shown_result of (gives r) = event (of r) ∷ []
shown_result of (fails t) = []
shown_result of ill_typed = []

abbrev pub shown_num : Loc → (operands : List ValType) → NumOp → (ops : List Value) → List TraceItem
shown_num p (t ∷ []) op (a ∷ o) = shown_result (events.Unary p op a) (unary op a)
shown_num p (t ∷ u ∷ []) op (b ∷ a ∷ o) = shown_result (events.Binary p op a b) (binary op a b)
shown_num p _ op o = []

abbrev pub shown_write : Option (List ℕ) → Event → List TraceItem
shown_write None e = []
shown_write (Some memory) e = event e ∷ []

abbrev pub shown_store : Store → (address : ℕ) → Option (List ℕ) → Event → List TraceItem
shown_store st address None e = []
shown_store st address (Some bytes) e = shown_write (with_bytes address bytes st.memory) e

-- the old number of pages, or -1
abbrev pub previous : List ℕ → Option (List ℕ) → ℕ
previous memory None = 2 ^ 32 - 1
previous memory (Some more) = pages memory

abbrev pub shown_calc : (limit : ℕ) → Loc → Plain → Store → (locals ops : List Value) → List TraceItem
shown_calc limit p unreachable st l o = event (events.Unreachable p) ∷ []
shown_calc limit p nop st l o = event (events.Nop p) ∷ []
shown_calc limit p drop_ st l (v ∷ o) = event (events.Drop p v) ∷ []
shown_calc limit p select st l (I32 c ∷ b ∷ a ∷ o) = event (events.Select p a b c) ∷ []
shown_calc limit p (local_get x) st l o = shown_variable (events.Local p Get x) (slice_get l x)
shown_calc limit p (local_set x) st l (v ∷ o) = shown_set (slice_get l x) (events.Local p Set x v)
shown_calc limit p (local_tee x) st l (v ∷ o) = shown_set (slice_get l x) (events.Local p Tee x v)
shown_calc limit p (global_get x) st l o = shown_variable (events.Global p Get x) (slice_get st.globals x)
shown_calc limit p (global_set x) st l (v ∷ o) = shown_set (slice_get st.globals x) (events.Global p Set x v)
shown_calc limit p (load op m) st l (I32 a ∷ o) = shown_variable (events.Load p op m.offset a) (load_value op (a + m.offset) st.memory)
shown_calc limit p (store op m) st l (v ∷ I32 a ∷ o) = shown_store st (a + m.offset) (store_bytes op v) (events.Store p op m.offset a v)
shown_calc limit p memory_size st l o = event (events.MemorySize p (pages st.memory)) ∷ []
shown_calc limit p memory_grow st l (I32 by ∷ o) = event (events.MemoryGrow p by (previous st.memory (grown_memory limit by st.memory))) ∷ []
shown_calc limit p (i32_const z) st l o = event (events.Const p (value_of types.I32 z)) ∷ []
shown_calc limit p (i64_const z) st l o = event (events.Const p (value_of types.I64 z)) ∷ []
shown_calc limit p (num op) st l o = shown_num p (num_operands op) op o
shown_calc limit p _ st l o = []

-- ---- one instruction

-- an instruction without a nested sequence; the innermost label is already behind it
abbrev pub shown_instr : Instance → Env → Frame → List Frame → Plain → (ops : List Value) → List TraceItem
shown_instr inst e fr below (br n) o =
    event (events.Br (here fr) n (label_target n fr.top fr.outer)) ∷ shown_ends fr.func below o n fr.top fr.outer
shown_instr inst e fr below (br_if n) (I32 x ∷ o) =
    event (events.BrIf (here fr) n (label_target n fr.top fr.outer) x) ∷ at_zero x [] (shown_ends fr.func below o n fr.top fr.outer)
shown_instr inst e fr below (br_if n) o = []
shown_instr inst e fr below (br_table ns n) (I32 x ∷ o) =
    event (events.BrTable (here fr) x (slice_index_or ns x n) (label_target (slice_index_or ns x n) fr.top fr.outer))
    ∷ shown_ends fr.func below o (slice_index_or ns x n) fr.top fr.outer
shown_instr inst e fr below (br_table ns n) o = []
shown_instr inst e fr below return_ o =
    shown_return (here fr) (pop_values (outermost fr.top fr.outer).arity o []) ++ shown_ends fr.func below o (length fr.outer) fr.top fr.outer
shown_instr inst e fr below (call f) o = shown_call inst e fr below o f (slice_get inst.funcs f)
shown_instr inst e fr below (call_indirect x) (I32 i ∷ o) = shown_indirect inst e fr below x i o (slice_get inst.types x)
shown_instr inst e fr below (call_indirect x) o = []
shown_instr inst e fr below i o = shown_calc inst.limit (here fr) i e.store fr.locals o

-- a sequence has ended
abbrev pub shown_exit : (func : ℕ) → List Frame → Label → List Label → List TraceItem
shown_exit f below t [] =
    shown_return (loc f (pos t.scope.end)) (pop_values t.arity t.ops []) ++ (shown_end f t.scope ∷ shown_results below (pop_values t.arity t.ops []))
shown_exit f below t (l ∷ ls) = shown_end f t.scope ∷ []

-- the place of the next instruction
abbrev pub next_place : Frame → Loc
next_place fr = loc fr.func (pos fr.top.at)

abbrev pub shown_code : Instance → Env → Frame → List Frame → Tree → (ops : List Value) → List TraceItem
shown_code inst e fr below done o = shown_exit fr.func below fr.top fr.outer
shown_code inst e fr below (plain i k) o = shown_instr inst e (frame_behind fr k) below i o
shown_code inst e fr below (block ty body k) o = shown_begin fr.func (block_scope fr.top.at body) ∷ []
shown_code inst e fr below (loop ty body k) o = shown_begin fr.func (loop_scope fr.top.at body) ∷ []
shown_code inst e fr below (if_then ty body k) (I32 x ∷ o) =
    event (events.If (next_place fr) x) ∷ at_zero x [] (shown_begin fr.func (if_scope fr.top.at body) ∷ [])
shown_code inst e fr below (if_then ty body k) o = []
shown_code inst e fr below (if_else ty body other k) (I32 x ∷ o) =
    event (events.If (next_place fr) x)
    ∷ shown_begin fr.func (at_zero x (else_scope fr.top.at body other) (then_scope fr.top.at body other)) ∷ []
shown_code inst e fr below (if_else ty body other k) o = []

-- ---- entries

abbrev pub shown_callee : Instance → Env → Entry → Option Callee → List TraceItem
shown_callee inst e c None = []
shown_callee inst e c (Some callee) = entry c ∷ shown_invoke inst e [] c.func callee c.args

abbrev pub shown_begun : Instance → Env → Option Entry → List TraceItem
shown_begun inst e None = []
shown_begun inst e (Some c) = shown_callee inst e c (slice_get inst.funcs c.func)

abbrev pub shown_begins : Instance → Env → Phase → List TraceItem
shown_begins inst e starting = shown_begun inst e (start_entry inst.start)
shown_begins inst e (calling n) = shown_begun inst e (call_entry (slice_get inst.calls n))
shown_begins inst e over = []

-- the items of the next step
abbrev pub shown_items : Instance → Configuration → List TraceItem
shown_items inst (configuration e []) = shown_begins inst e e.phase
shown_items inst (configuration e (fr ∷ below)) = shown_code inst e fr below fr.top.rest fr.top.ops

abbrev pub events_in : List TraceItem → List Event
events_in [] = []
events_in (event e ∷ is) = e ∷ events_in is
events_in (entry c ∷ is) = events_in is
events_in (host_call f vs rs ws ∷ is) = events_in is
events_in (hook_call h ∷ is) = events_in is

-- how many calls of the host are among the items
abbrev pub host_calls : List TraceItem → ℕ
host_calls [] = 0
host_calls (host_call f vs rs ws ∷ is) = suc (host_calls is)
host_calls (entry c ∷ is) = host_calls is
host_calls (event e ∷ is) = host_calls is
host_calls (hook_call h ∷ is) = host_calls is
