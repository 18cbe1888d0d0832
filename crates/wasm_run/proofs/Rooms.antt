-- The frames behind a step that calls no function have room, for they are within the heights of their bodies.
use Rattle.std.proofs.Common.{◌≡◌, ◌≢◌, ℕ, suc, ◌+◌, ◌≤◌, List, [], ◌∷◌, ◌++◌, length, refl, sym, ap, subst, ◌∙◌, arith, length-append}
use Rattle.std.specs.Prelude.{reverse, Some, slice_get}
use Rattle.std.proofs.lemmas.List.{length-reverse}
use Rattle.wasm_sem.specs.Types.{ValType, Value, FuncType, Module}
use Rattle.module_ast.specs.Places.{height, code_nesting}
use Rattle.wasm_sem.specs.Execution.{zeros, Callee, host, hook, own, Instance, instance, callees_of, IsScriptInRange, Links, Label, Frame, Env, Configuration, configuration, Next, reduces, stuck, pop_values, with_ops, new_frame, step, after_step, run, run_of, opening_configuration}
use Rattle.wasm_sem.proofs.Straight.{some_is}
use Rattle.wasm_run.proofs.Entering.{size, count}
use Rattle.module_ast.specs.Structure.{Tree, plain, call, call_indirect}
use Rattle.module_ast.specs.Validation.{IsValid, IsComplete}
use Rattle.run_store.specs.Held.{Held}
use Rattle.wasm_sem.specs.declared.Script.{Script}
use Rattle.run_stack.specs.Calls.{NextIsNoCall}
use Rattle.wasm_sem.specs.Heights.{function_context, operands_on, AreFramesWithin, IsConfigurationWithin}
use Rattle.wasm_sem.proofs.Runs.{run_add}
use Rattle.wasm_sem.proofs.Sound.{never_lacks}
use Rattle.wasm_sem.proofs.Heights.{stays_within}
use Rattle.wasm_sem.proofs.SoundEntries.{can_link}
use Rattle.wasm_run.proofs.Following.{Follows, stays, returns, leaves, NextFollows, step_follows}
use Rattle.run_stack.specs.Flat.{Flat, PutsFrame}
use Rattle.run_stack.specs.Kept.{ops_of, spots_of, all_values, low_of, all_spots, Lies}
use Rattle.run_stack.specs.Comes.{IsUnstuck}
use Rattle.run_stack.specs.Standing.{HasRoomFor, HasStepRoom, IsStanding, KeepsStore}
use Rattle.run_stack.proofs.Lying.{spots_count}
use Rattle.wasm_run.specs.Rooms.{HasOwnRoom, HaveRoom}

-- ---- counts

ops_count : (ls : List Label) → length (ops_of ls) ≡ operands_on ls
ops_count [] = refl
ops_count (l ∷ ls) = length-append l.ops (ops_of ls) ∙ ap (λ n. length l.ops + n) (ops_count ls)

-- how many values and labels frames have
values_count : (fr : Frame) (below : List Frame) → length (all_values (fr ∷ below)) ≡ operands_on (fr.top ∷ fr.outer) + length fr.locals + length (all_values below)
values_count fr below =
    let outer = ops_count fr.outer in
    omega (
      arith,
      outer,
      length-append fr.top.ops (ops_of fr.outer ++ (reverse fr.locals ++ all_values below)),
      length-append (ops_of fr.outer) (reverse fr.locals ++ all_values below),
      length-append (reverse fr.locals) (all_values below),
      length-reverse fr.locals,
    )

labels_count : (fr : Frame) (below : List Frame) → length (all_spots (fr ∷ below)) ≡ length fr.outer + 1 + length (all_spots below)
labels_count fr below =
    let n = spots_count (low_of fr below) (fr.top ∷ fr.outer) in
    omega (arith, n, length-append (spots_of (low_of fr below) (fr.top ∷ fr.outer)) (all_spots below))

-- ---- room

module _ (m : Module) (values labels : ℕ) where
  -- frames within their bodies fit
  pub frames_fit : (fs : List Frame) → AreFramesWithin m fs → HaveRoom m values labels fs → (length (all_values fs) ≤ values) × (length (all_spots fs) ≤ labels)
  frames_fit [] w h = (omega arith, omega arith)
  frames_fit (fr ∷ below) w h =
      let v = h.0.values_fit w.0.type w.0.declared w.0.code w.0.at in
      let l = h.0.labels_fit w.0.type w.0.declared w.0.code w.0.at in
      let operands = w.0.operands in
      let locals = w.0.locals in
      let within = w.0.labels in
      let many = values_count fr below in
      let deep = labels_count fr below in
      (omega (arith, v, operands, locals, many), omega (arith, l, within, deep))

  -- the room of a frame is that of its function
  pub same_room : (fr g : Frame) (below : List Frame) → g.func ≡ fr.func → HasOwnRoom m values labels fr below → HasOwnRoom m values labels g below
  same_room fr g below e h = record {
    values_fit = λ ty declared code at. h.values_fit ty declared code (subst (λ f. slice_get (callees_of m) f ≡ Some (own ty declared code)) e at);
    labels_fit = λ ty declared code at. h.labels_fit ty declared code (subst (λ f. slice_get (callees_of m) f ≡ Some (own ty declared code)) e at);
  }

  -- the frames behind a step have it too
  pub follows_room : (fr : Frame) (below fs : List Frame) → Follows fr below fs → HaveRoom m values labels (fr ∷ below) → HaveRoom m values labels fs
  follows_room fr below fs (stays g e) h = (same_room fr g below e h.0, h.1)
  follows_room fr below fs (returns caller rest o e) h =
      let k : HaveRoom m values labels (caller ∷ rest) = subst (HaveRoom m values labels) e h.1 in
      (same_room caller (with_ops caller o) rest refl k.0, k.1)
  follows_room fr below fs leaves h = tt

  -- so they fit
  next_fits : (inst : Instance) (fr : Frame) (below : List Frame) (c : Configuration) (n : Next) → NextFollows fr below n → IsConfigurationWithin m (after_step inst c n) → HaveRoom m values labels (fr ∷ below) → HasRoomFor values labels n
  next_fits inst fr below c (reduces (configuration f fs)) follows w h = frames_fit fs w (follows_room fr below fs follows h)
  next_fits inst fr below c n follows w h = tt

-- of a step that calls no function
step_room : (values labels : ℕ) (k : Tree) (n : Next) → (NextIsNoCall k → HasRoomFor values labels n) → HasStepRoom values labels k n
step_room values labels (plain (call f) k) n h = tt
step_room values labels (plain (call_indirect x) k) n h = tt
step_room values labels k n h = h tt

-- it finds what it asks for
ready_unless : (n : Next) → n ≢ stuck → IsUnstuck n
ready_unless stuck h = h refl
ready_unless n h = tt

-- ---- moments of a run

-- with no less room than before
pub more_room : (m : Module) (values labels more_values more_labels : ℕ) (fs : List Frame) → values ≤ more_values → labels ≤ more_labels → HaveRoom m values labels fs → HaveRoom m more_values more_labels fs
more_room m values labels more_values more_labels [] v l h = tt
more_room m values labels more_values more_labels (fr ∷ below) v l h = (
  record {
    values_fit = λ ty declared code at. let k = h.0.values_fit ty declared code at in omega (arith, k, v);
    labels_fit = λ ty declared code at. let k = h.0.labels_fit ty declared code at in omega (arith, k, l);
  },
  more_room m values labels more_values more_labels below v l h.1,
)

module _ (m : Module) (s : Script) (valid : IsValid m) (complete : IsComplete m) (range : IsScriptInRange s) (links : Links m s) where
  -- one step more
  pub next_state : (n : ℕ) (c : Configuration) → run_of m s n ≡ c → run_of m s (n + 1) ≡ after_step (instance m s) c (step (instance m s) c)
  next_state n c at = run_add (instance m s) n 1 (opening_configuration m s) ∙ ap (run (instance m s) 1) at

  -- the frames fit behind the next step
  room_at : (values labels n : ℕ) (e : Env) (fr : Frame) (below : List Frame) → run_of m s n ≡ configuration e (fr ∷ below) → HaveRoom m values labels (fr ∷ below)
      → HasStepRoom values labels fr.top.rest (step (instance m s) (configuration e (fr ∷ below)))
  room_at values labels n e fr below at h =
      let c = configuration e (fr ∷ below) in
      step_room values labels fr.top.rest (step (instance m s) c) (λ calls_none.
      next_fits m values labels (instance m s) fr below c (step (instance m s) c) (step_follows (instance m s) e fr below calls_none)
      (subst (IsConfigurationWithin m) (next_state n c at) (stays_within m s valid complete range.writes (can_link m s links) (n + 1))) h)

  -- what the machine keeps of a moment with a frame is ready for the next step
  pub standing_at : (f : Flat) (memory : Held) (globals : List Value) (n : ℕ) (e : Env) (fr : Frame) (below : List Frame) → run_of m s n ≡ configuration e (fr ∷ below)
      → Lies f (fr ∷ below) → KeepsStore (instance m s) e.store memory globals → HaveRoom m f.value_room f.spot_room (fr ∷ below) → IsStanding f memory globals (instance m s) e fr below
  standing_at f memory globals n e fr below at lies keeps room = record {
    lies = lies;
    memory_is = keeps.memory_is;
    globals_are = keeps.globals_are;
    ready = ready_unless (step (instance m s) (configuration e (fr ∷ below))) (subst (λ c. step (instance m s) c ≢ stuck) at (never_lacks m s valid complete range.writes (can_link m s links) n));
    room = room_at f.value_room f.spot_room n e fr below at room;
  }

-- ---- a call of a function of the module

pub zeros_count : (ts : List ValType) → length (zeros ts) ≡ length ts
zeros_count [] = refl
zeros_count (t ∷ ts) = ap suc (zeros_count ts)

module _ (m : Module) (s u : Flat) (fr : Frame) (below : List Frame) (f : ℕ) (ty : FuncType) (locals : List ValType) (code : Tree) (args rest : List Value) (most nesting : ℕ) (lies : Lies s (fr ∷ below))
    (popped : pop_values (length ty.params) fr.top.ops [] ≡ Some (args, rest)) (enters : PutsFrame (length ty.params) (zeros locals) code (length ty.results) most nesting s u)
    (at : slice_get (callees_of m) f ≡ Some (own ty locals code)) (high : most ≡ height (function_context m ty locals) code) (deep : nesting ≡ code_nesting code) where
  own_fits : (c : Callee) → Some (own ty locals code) ≡ Some c → (ty1 : FuncType) (declared : List ValType) (code1 : Tree) → c ≡ own ty1 declared code1
      → (length (all_values (with_ops fr rest ∷ below)) + length (ty1.params ++ declared) + height (function_context m ty1 declared) code1 ≤ u.value_room) × (length (all_spots (with_ops fr rest ∷ below)) + 1 + code_nesting code1 ≤ u.spot_room)
  own_fits c e ty1 declared code1 q =
      subst (λ (c : Callee). CalleeFits c) (some_is e ∙ q) (
        omega (
          arith,
          enters.for_values,
          size s u fr below f ty locals code args rest most nesting lies popped enters,
          count s u fr below f ty locals code args rest most nesting lies popped enters,
          zeros_count locals,
          length-append ty.params locals,
          high,
        ),
        omega (arith, enters.for_spots, ap length lies.spots, deep),
      )
    where
      CalleeFits : Callee → Type 0
      CalleeFits (own ty1 declared code1) =
          (length (all_values (with_ops fr rest ∷ below)) + length (ty1.params ++ declared) + height (function_context m ty1 declared) code1 ≤ u.value_room)
          × (length (all_spots (with_ops fr rest ∷ below)) + 1 + code_nesting code1 ≤ u.spot_room)
      CalleeFits (host ty1) = Unit {0}
      CalleeFits (hook ty1) = Unit {0}

  -- its frame has room, and so have those below
  pub enters_room : HaveRoom m s.value_room s.spot_room (fr ∷ below) → HaveRoom m u.value_room u.spot_room (new_frame f ty locals code args ∷ with_ops fr rest ∷ below)
  enters_room h =
      let more = more_room m s.value_room s.spot_room u.value_room u.spot_room (fr ∷ below) enters.value_room enters.spot_room h in (
        record {
          values_fit = λ ty1 declared code1 at1. (own_fits (own ty1 declared code1) (sym at ∙ at1) ty1 declared code1 refl).0;
          labels_fit = λ ty1 declared code1 at1. (own_fits (own ty1 declared code1) (sym at ∙ at1) ty1 declared code1 refl).1;
        },
        (same_room m u.value_room u.spot_room fr (with_ops fr rest) below refl more.0, more.1),
      )
