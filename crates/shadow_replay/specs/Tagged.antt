-- The machine with a mark on each byte and value: a step moves marks as it moves the bytes and values.
use Rattle.std.specs.Prelude.{ℕ, zero, suc, ◌+◌, List, [], ◌∷◌, ◌++◌, length, reverse, take, Option, Some, None, Bool, false, slice_get, slice_index_or}
use Rattle.wasm_sem.specs.Types.{Value, FuncType, Loc, Module}
use Rattle.wasm_num.specs.declared.Value.TheVariants.{I32}
use Rattle.wasm_num.specs.Shapes.{num_operands}
use Rattle.module_ast.specs.Memory.{grown_memory}
use Rattle.module_ast.specs.Validation.{load_width, store_width}
use Rattle.module_ast.specs.Structure.{Tree, done, plain, block, loop, if_then, if_else, Plain, br, br_if, br_table, return_, call, call_indirect, drop_, select, local_get, local_set, local_tee, global_get, global_set, load, store, memory_size, memory_grow, i32_const, i64_const, num}
use Rattle.wasm_sem.specs.declared.HostAnswer.{HostAnswer}
use Rattle.wasm_sem.specs.declared.Script.{Script}
use Rattle.wasm_sem.specs.Execution.{Store, values_of, zeros, answer_at, writes_done, Callee, host, hook, own, callee_type, Entry, Instance, instance, opening_store, Label, Frame, Env, Configuration, configuration, Next, reduces, traps, ends, stuck, Phase, starting, calling, over, at_zero, frame_behind, start_entry, call_entry, step, after_step, opening_configuration, here}
use Rattle.shadow_replay.specs.Taint.{Watch, Taint, is_watched, each_marked, nth_mark, exchange, join, local_mark, mark_local, mark_global, read_mark, mark_bytes, add_pages, unmark_writes, begin_frame, end_frame, no_frames, warn}

-- ---- instructions that concern only the store, locals and operands

-- a memory that grew has bytes more, which are not marked
abbrev pub taint_grown : (by : ℕ) → Option (List ℕ) → Taint → Taint
taint_grown by None t = t
taint_grown by (Some memory) t = add_pages by t

abbrev pub taint_calc : (limit : ℕ) → Plain → Store → (ops : List Value) → Taint → Taint
taint_calc limit drop_ st o t = exchange 1 [] t
taint_calc limit select st (I32 c ∷ o) t = exchange 3 (at_zero c (nth_mark t.operands 1) (nth_mark t.operands 2) ∷ []) t
taint_calc limit (local_get x) st o t = exchange 0 (local_mark x t ∷ []) t
taint_calc limit (local_set x) st o t = exchange 1 [] (mark_local x (nth_mark t.operands 0) t)
taint_calc limit (local_tee x) st o t = mark_local x (nth_mark t.operands 0) t
taint_calc limit (global_get x) st o t = exchange 0 (nth_mark t.globals x ∷ []) t
taint_calc limit (global_set x) st o t = exchange 1 [] (mark_global x (nth_mark t.operands 0) t)
taint_calc limit (load op m) st (I32 a ∷ o) t = exchange 1 (read_mark (a + m.offset) (load_width op) t ∷ []) t
taint_calc limit (store op m) st (v ∷ I32 a ∷ o) t = exchange 2 [] (mark_bytes (a + m.offset) (store_width op) (nth_mark t.operands 0) t)
taint_calc limit memory_size st o t = exchange 0 (false ∷ []) t
taint_calc limit memory_grow st (I32 by ∷ o) t = exchange 1 (false ∷ []) (taint_grown by (grown_memory limit by st.memory) t)
taint_calc limit (i32_const z) st o t = exchange 0 (false ∷ []) t
taint_calc limit (i64_const z) st o t = exchange 0 (false ∷ []) t
taint_calc limit (num op) st o t = join (length (num_operands op)) t
taint_calc limit i st o t = t

-- ---- leaving labels and frames

-- how many values a branch to a label takes
abbrev pub branch_arity : (label : ℕ) → Label → List Label → ℕ
branch_arity zero t outer = t.arity
branch_arity (suc n) t [] = 0
branch_arity (suc n) t (l ∷ ls) = branch_arity n l ls

-- a branch leaves labels with their operands, and the values that it took come on top; with the function's label the
-- locals go
abbrev pub taint_left : (taken : List Bool) → (ops : List Value) → (label : ℕ) → List Label → Taint → Taint
taint_left ks o zero [] t = exchange (length o) ks (end_frame t)
taint_left ks o zero (l ∷ ls) t = exchange (length o) ks t
taint_left ks o (suc n) [] t = t
taint_left ks o (suc n) (l ∷ ls) t = taint_left ks l.ops n ls (exchange (length o) [] t)

abbrev pub taint_branch : Frame → (ops : List Value) → (label : ℕ) → Taint → Taint
taint_branch fr o n t = taint_left (take (branch_arity n fr.top fr.outer) t.operands) o n fr.outer t

-- the operands at the end of a sequence stay; at the end of a function they are the results
abbrev pub taint_exit : Label → List Label → Taint → Taint
taint_exit l [] t = taint_left (take l.arity t.operands) l.ops 0 [] t
taint_exit l (k ∷ ks) t = t

-- ---- calls

-- the results of a host function are marked if it is a source, and its writes are not marked
abbrev pub taint_host : Watch → Option Loc → (func : ℕ) → FuncType → HostAnswer → (memory : List ℕ) → (args : List Bool) → Taint → Taint
taint_host w p f ty a memory ks t =
    exchange 0 (each_marked (is_watched w.sources f) (values_of ty.results a.results)) (warn w p f ks (unmark_writes (writes_done memory a.writes) t))

-- a function is called with arguments of these marks, the first argument first, by the instruction at a place or by
-- none
abbrev pub taint_invoke : Watch → Instance → Env → Option Loc → (func : ℕ) → Callee → (args : List Bool) → Taint → Taint
taint_invoke w inst e p f (own ty locals code) ks t = begin_frame (ks ++ each_marked false locals) t
taint_invoke w inst e p f (host ty) ks t = taint_host w p f ty (answer_at inst.hosts e.store.hosts) e.store.memory ks t
taint_invoke w inst e p f (hook ty) ks t = exchange 0 (each_marked false (zeros ty.results)) t

-- takes `count` arguments off the stack, and calls
abbrev pub taint_popped : Watch → Instance → Env → Loc → (func : ℕ) → Callee → (count : ℕ) → Taint → Taint
taint_popped w inst e p f c n t = taint_invoke w inst e (Some p) f c (reverse (take n t.operands)) (exchange n [] t)

abbrev pub taint_call : Watch → Instance → Env → Loc → (func : ℕ) → Option Callee → Taint → Taint
taint_call w inst e p f None t = t
taint_call w inst e p f (Some c) t = taint_popped w inst e p f c (length (callee_type c).params) t

abbrev pub taint_typed : Watch → Instance → Env → Loc → FuncType → (func : ℕ) → Option Callee → Taint → Taint
taint_typed w inst e p ty f None t = t
taint_typed w inst e p ty f (Some c) t = taint_popped w inst e p f c (length ty.params) t

abbrev pub taint_slot : Watch → Instance → Env → Loc → FuncType → Option (Option ℕ) → Taint → Taint
taint_slot w inst e p ty None t = t
taint_slot w inst e p ty (Some None) t = t
taint_slot w inst e p ty (Some (Some f)) t = taint_typed w inst e p ty f (slice_get inst.funcs f) t

abbrev pub taint_through : Watch → Instance → Env → Loc → (slot : ℕ) → Option FuncType → Taint → Taint
taint_through w inst e p i None t = t
taint_through w inst e p i (Some ty) t = taint_slot w inst e p ty (slice_get e.store.slots i) t

-- ---- one instruction

-- an instruction without a nested sequence; the innermost label is already behind it
abbrev pub taint_plain : Watch → Instance → Env → Frame → Plain → (ops : List Value) → Taint → Taint
taint_plain w inst e fr (br n) o t = taint_branch fr o n t
taint_plain w inst e fr (br_if n) (I32 x ∷ o) t = at_zero x (exchange 1 [] t) (taint_branch fr o n (exchange 1 [] t))
taint_plain w inst e fr (br_table ns n) (I32 x ∷ o) t = taint_branch fr o (slice_index_or ns x n) (exchange 1 [] t)
taint_plain w inst e fr return_ o t = taint_branch fr o (length fr.outer) t
taint_plain w inst e fr (call f) o t = taint_call w inst e (here fr) f (slice_get inst.funcs f) t
taint_plain w inst e fr (call_indirect x) (I32 i ∷ o) t = taint_through w inst e (here fr) i (slice_get inst.types x) (exchange 1 [] t)
taint_plain w inst e fr i o t = taint_calc inst.limit i e.store o t

-- one instruction; a block begins with the operands that it takes
abbrev pub taint_code : Watch → Instance → Env → Frame → Tree → (ops : List Value) → Taint → Taint
taint_code w inst e fr done o t = taint_exit fr.top fr.outer t
taint_code w inst e fr (plain i k) o t = taint_plain w inst e (frame_behind fr k) i o t
taint_code w inst e fr (block ty body k) o t = t
taint_code w inst e fr (loop ty body k) o t = t
taint_code w inst e fr (if_then ty body k) o t = exchange 1 [] t
taint_code w inst e fr (if_else ty body other k) o t = exchange 1 [] t

-- ---- entries

abbrev pub taint_callee : Watch → Instance → Env → Entry → Option Callee → Taint → Taint
taint_callee w inst e c None t = t
taint_callee w inst e c (Some callee) t = taint_invoke w inst e None c.func callee (each_marked false c.args) t

abbrev pub taint_entry : Watch → Instance → Env → Option Entry → Taint → Taint
taint_entry w inst e None t = t
taint_entry w inst e (Some c) t = taint_callee w inst e c (slice_get inst.funcs c.func) t

abbrev pub taint_phase : Watch → Instance → Env → Phase → Taint → Taint
taint_phase w inst e starting t = taint_entry w inst e (start_entry inst.start) t
taint_phase w inst e (calling n) t = taint_entry w inst e (call_entry (slice_get inst.calls n)) t
taint_phase w inst e over t = t

-- ---- steps and runs

-- how the next step moves the marks, if it does not trap
abbrev pub taint_moved : Watch → Instance → Configuration → Taint → Taint
taint_moved w inst (configuration e []) t = taint_phase w inst e e.phase t
taint_moved w inst (configuration e (fr ∷ below)) t = taint_code w inst e fr fr.top.rest fr.top.ops t

abbrev pub taint_within : Configuration → Taint → Taint
taint_within (configuration e []) t = no_frames t
taint_within (configuration e (fr ∷ below)) t = t

-- a trap leaves the marks of the store to the next call
abbrev pub taint_after : Next → (before moved : Taint) → Taint
taint_after (reduces c) t u = taint_within c u
taint_after (traps cause) t u = no_frames t
taint_after ends t u = t
taint_after stuck t u = t

-- a configuration with the marks of its bytes and values
pub record Tagged : Type 0 where
  pub state : Configuration
  pub taint : Taint

abbrev pub tagged_step : Watch → Instance → Tagged → Tagged
tagged_step w inst g = record {
  state = after_step inst g.state (step inst g.state);
  taint = taint_after (step inst g.state) g.taint (taint_moved w inst g.state g.taint);
}

-- the configuration after that many steps, or at the end of the run if that comes before
abbrev pub tagged_run : Watch → Instance → ℕ → Tagged → Tagged
tagged_run w inst zero g = g
tagged_run w inst (suc n) g = tagged_run w inst n (tagged_step w inst g)

-- nothing in the store is marked when the run opens
abbrev pub opening_taint : Store → Taint
opening_taint st = record { memory = each_marked false st.memory; globals = each_marked false st.globals; locals = []; operands = []; warnings = [] }

abbrev pub opening_tagged : Module → Script → Tagged
opening_tagged m s = record { state = opening_configuration m s; taint = opening_taint (opening_store m s) }

abbrev pub tagged_of : Module → Script → Watch → ℕ → Tagged
tagged_of m s w n = tagged_run w (instance m s) n (opening_tagged m s)
