-- A step of the machine is a step of the run.
use Rattle.std.proofs.Common.{◌≡◌, ℕ, ◌+◌, ◌<◌, ◌≤◌, List, [], ◌∷◌, inl, inr, Option, Some, None, Result, Ok, Err, refl, sym, ap, subst, ◌∙◌, arith}
use Rattle.std.specs.declared.alloc.AllocError.{AllocError}
use Rattle.std.specs.Prelude.{IsErr, length}
use Rattle.wasm_sem.specs.Types.{Value, Module}
use Rattle.module_ast.specs.Memory.{pages}
use Rattle.run_store.specs.Held.{Held}
use Rattle.wasm_run.specs.Beside.{pages_in}
use Rattle.wasm_sem.specs.declared.Answer.{Answer}
use Rattle.wasm_sem.specs.declared.Answer.TheVariants.{Returned, Trapped, Unfinished}
use Rattle.wasm_sem.specs.declared.Script.{Script}
use Rattle.wasm_sem.specs.declared.Trap.{Trap}
use Rattle.wasm_sem.specs.Execution.{Instance, instance, Frame, Phase, starting, calling, over, Env, Configuration, configuration, Next, reduces, traps, env_after, step, after_step, run_of}
use Rattle.wasm_run.proofs.Following.{NextFollows, step_follows}
use Rattle.run_stack.specs.Flat.{Base, Flat, first_base, first_rest, lowest_arity}
use Rattle.run_stack.specs.Standing.{IsStanding, KeepsStore, Went, Trapped as HasTrapped}
use Rattle.run_stack.specs.Advances.{IsAtCall, IsAtGrow, IsSame, Advances, GoesAtNoCall}
use Rattle.wasm_run.specs.Rooms.{HaveRoom}
use Rattle.run_stack.specs.Below.{IsBelow, IsAnswerOf}
use Rattle.run_stack.specs.Calls.{NextIsNoCall}
use Rattle.run_stack.specs.Leaving.{HasNumber, LeavesFrom, LeavesLast}
use Rattle.wasm_run.specs.Moves.{RunsOn, EndsWith, MovesBy, CallsOrGrows, MayWant, MakesStep}
use Rattle.module_ast.specs.Structure.{Tree}
use Rattle.wasm_run.specs.Running.{Run, configuration_of, KeepsConfiguration, IsRunning, IsInside, Innermost}
use Rattle.wasm_run.proofs.Beside.{NextGoesOn, step_goes_on}
use Rattle.run_stack.proofs.Lying.{labels_are}
use Rattle.wasm_run.proofs.Ending.{same_values}
use Rattle.wasm_run.proofs.Ahead.{NextLeaves, step_leaves as left_by, has_number, leaves_many, results_there, left_with, results_few, no_call as no_call_left}
use Rattle.run_stack.proofs.Pushed.{push_length, pushed_same}
use Rattle.wasm_sem.specs.Typed.{IsPhaseTyped}
use Rattle.wasm_sem.proofs.Live.{IsLive, IsStateLive}
use Rattle.wasm_sem.proofs.LiveSteps.{always_live}
use Rattle.wasm_sem.proofs.SoundEntries.{can_link}
use Rattle.module_ast.specs.Validation.{push}
use Rattle.run_stack.specs.declared.steps.Did.{Did}
use Rattle.run_stack.specs.declared.steps.Did.TheVariants as dids
use Rattle.wasm_run.proofs.Rooms.{follows_room, next_state, standing_at}

-- an answer leaves the store
pub env_store : (inst : Instance) (p : Phase) (e : Env) (a : Answer) → (env_after inst p e a).store ≡ e.store
env_store inst starting e a = refl
env_store inst (calling n) e a = refl
env_store inst over e a = refl

-- while a function runs the run is not over
busy_phase : (inst : Instance) (e : Env) (fr : Frame) (below : List Frame) (p : Phase) → IsPhaseTyped inst p (fr ∷ below) → p ≡ over → ⊥
busy_phase inst e fr below starting h q = absurd cc
busy_phase inst e fr below (calling n) h q = absurd cc
busy_phase inst e fr below over h q = absurd cc

module _ (m : Module) (s : Script) (made : ℕ) (f : Flat) (memory : Held) (globals : List Value) (running : IsRunning m s made f memory globals) where
  abbrev inst : Instance
  inst = instance m s

  -- the machine stands before the next step
  pub standing : IsInside (run_of m s made) → (i : Instance) × (e : Env) × (fr : Frame) × (below : List Frame) × (i.types ≡ m.types) × IsStanding f memory globals i e fr below
  standing inside = go (run_of m s made) refl running.keeps inside
    where
      go : (c : Configuration) → run_of m s made ≡ c → KeepsConfiguration m s c f memory globals → IsInside c → (i : Instance) × (e : Env) × (fr : Frame) × (below : List Frame) × (i.types ≡ m.types) × IsStanding f memory globals i e fr below
      go (configuration e []) at keeps inside = absurd inside
      go (configuration e (fr ∷ below)) at (lies, store, room) inside =
          let l = running.linked in (inst, e, fr, below, refl, standing_at m s l.valid l.complete l.range l.links f memory globals made e fr below at lies store room)

  -- what is asked where the step may leave the last frame with many values
  pub record IsReadable : Type 0 where
    pub some : 0 < length f.bases
    pub own : (first_base f.bases).labels < length f.spots
    pub number : HasNumber (first_rest f.spots) f.values

  pub readable : IsInside (run_of m s made) → IsReadable
  readable inside =
      let (i, e, fr, below, types, st) = standing inside in
      let bases = ap length st.lies.bases in
      let labels = labels_are f fr below st.lies in
      record { some = omega (arith, bases); own = omega (arith, labels); number = has_number f i e fr below st.lies st.ready }

  -- it does
  pub leaves_last : IsInside (run_of m s made) → (above : ℕ) → LeavesFrom f above → LeavesLast above (run_of m s made)
  leaves_last inside above h = go (run_of m s made) refl running.keeps inside
    where
      go : (c : Configuration) → run_of m s made ≡ c → KeepsConfiguration m s c f memory globals → IsInside c → LeavesLast above c
      go (configuration e []) at keeps inside = absurd inside
      go (configuration e (fr ∷ below)) at (lies, store, room) inside =
          let l = running.linked in
          let st = standing_at m s l.valid l.complete l.range l.links f memory globals made e fr below at lies store room in
          leaves_many f inst e fr below lies st.ready above h

  -- then they are there, and what ran has ended with them
  pub record HasMany (above : ℕ) : Type 0 where
    pub inside : IsInside (run_of m s made)
    pub label : 0 < length f.spots
    pub enough : above + lowest_arity f.spots ≤ length f.values
    pub no_call : NextIsNoCall (first_rest f.spots)
    pub wants : MayWant (run_of m s made)
    pub running_on : (vs : List Value) → IsBelow above (lowest_arity f.spots) vs f.values → (empty : Flat) → empty.bases ≡ [] → IsRunning m s (made + 1) empty memory globals
    pub ends_with : (vs : List Value) → IsBelow above (lowest_arity f.spots) vs f.values → EndsWith inst (Returned vs) (run_of m s made) (run_of m s (made + 1))

  pub has_many : (above : ℕ) → LeavesLast above (run_of m s made) → HasMany above
  has_many above h = go (run_of m s made) refl running.keeps h
    where
      go : (c : Configuration) → run_of m s made ≡ c → KeepsConfiguration m s c f memory globals → LeavesLast above c → HasMany above
      go (configuration e []) at keeps h = absurd h
      go (configuration e (fr ∷ below)) at (lies, store, room) h =
          let l = running.linked in
          let st = standing_at m s l.valid l.complete l.range l.links f memory globals made e fr below at lies store room in
          let spots = ap length lies.spots in
          let next : (vs : List Value) → IsBelow above (lowest_arity f.spots) vs f.values → configuration (env_after inst e.phase e (Returned vs)) [] ≡ run_of m s (made + 1) =
          λ vs is_below. sym (next_state m s l.valid l.complete l.range l.links made (configuration e (fr ∷ below)) at ∙ ap (after_step inst (configuration e (fr ∷ below))) (left_with f inst e fr below lies st.ready above h vs is_below)) in
          record {
            inside = subst IsInside (sym at) tt;
            label = omega (arith, spots);
            enough = results_there f inst e fr below lies st.ready above h;
            no_call = subst (λ ss. NextIsNoCall (first_rest ss)) (sym lies.spots) (no_call_left fr.top.rest fr.top.ops (length fr.outer) above h.leaves);
            wants = subst MayWant (sym at) (inr (above, h));
            running_on = λ vs is_below empty none. record {
              linked = l;
              keeps = subst (λ c. KeepsConfiguration m s c empty memory globals) (next vs is_below) (none, subst (λ st. KeepsStore inst st memory globals) (sym (env_store inst e.phase e (Returned vs))) store);
            };
            ends_with = λ vs is_below. subst (λ c. EndsWith inst (Returned vs) c (run_of m s (made + 1))) (sym at)
                (subst (λ c. EndsWith inst (Returned vs) (configuration e (fr ∷ below)) c) (next vs is_below) (record { outside = λ h. h; told = record { phase = refl; started = refl; answers = refl } }));
          }

  -- what a step leads to: a function runs on, or the last frame has left its values
  abbrev pub LeadsTo : Configuration → Configuration → Flat → Type 0
  LeadsTo c (configuration e []) t = (vs : List Value) × EndsWith inst (Returned vs) c (configuration e []) × (t.bases ≡ []) × (t.values ≡ push vs []) × (((above : ℕ) → LeavesFrom f above → ⊥) → length vs ≤ 4)
  LeadsTo c (configuration e (fr ∷ below)) t = RunsOn c (configuration e (fr ∷ below)) × (0 < length t.bases)

  -- what a step leaves
  abbrev pub Leaves : Result Did AllocError → Configuration → Flat → Held → List Value → Type 0
  Leaves (Ok dids.Went) c t u g = IsRunning m s (made + 1) t u g × LeadsTo c (run_of m s (made + 1)) t
  Leaves (Ok (dids.Trapped trap)) c t u g = ((empty : Flat) → empty.bases ≡ [] → IsRunning m s (made + 1) empty u g) × (step inst c ≡ traps trap)
  Leaves (Ok dids.Calls) c t u g = IsRunning m s made t u g × Innermost IsAtCall c
  Leaves (Err v) c t u g = IsRunning m s made t u g × Innermost IsAtGrow c

  module _ (t : Flat) (u : Held) (g : List Value) (values : t.value_room ≡ f.value_room) (labels : t.spot_room ≡ f.spot_room) where
    -- it went on
    went : (e : Env) (fr : Frame) (below : List Frame) (n : Next) → NextFollows fr below n → HaveRoom m f.value_room f.spot_room (fr ∷ below) → Went inst e n t u g → KeepsConfiguration m s (after_step inst (configuration e (fr ∷ below)) n) t u g
    went e fr below (reduces (configuration x [])) follows room (vs, q, ended, keeps) =
        (ended.bases, subst (λ st. KeepsStore inst st u g) (sym (ap (λ (x : Env). x.store) q ∙ env_store inst e.phase e (Returned vs))) keeps)
    went e fr below (reduces (configuration x (h ∷ hs))) follows room (lies, keeps) =
        (lies, keeps, follows_room m t.value_room t.spot_room fr below (h ∷ hs) follows (subst (λ n. HaveRoom m n t.spot_room (fr ∷ below)) (sym values) (subst (λ n. HaveRoom m f.value_room n (fr ∷ below)) (sym labels) room)))
    went e fr below n follows room w = absurd w

    -- and leads there
    leads : (e : Env) (fr : Frame) (below : List Frame) (n : Next) → IsStanding f memory globals inst e fr below → (e.phase ≡ over → ⊥) → NextGoesOn e n → NextLeaves inst e fr below fr.top.rest fr.top.ops n → Went inst e n t u g → LeadsTo (configuration e (fr ∷ below)) (after_step inst (configuration e (fr ∷ below)) n) t
    leads e fr below (reduces (configuration x [])) st busy on left (vs, q, ended, keeps) = (
      vs,
      subst (λ x. EndsWith inst (Returned vs) (configuration e (fr ∷ below)) (configuration x [])) (sym q) (record { outside = λ h. h; told = record { phase = refl; started = refl; answers = refl } }),
      ended.bases,
      ended.values,
      λ none. subst (λ (vs : List Value). length vs ≤ 4) (same_values inst e.phase e left.results vs busy (sym left.is ∙ q)) (results_few f inst e fr below st.lies st.ready x left none),
    )
    leads e fr below (reduces (configuration x (h ∷ hs))) st busy on none (lies, keeps) =
        let bases = ap length lies.bases in
        (record { inside = tt; same = record { phase = on.phase; started = on.started; answers = on.answers } }, omega (arith, bases))
    leads e fr below n st busy on none w = absurd w

    -- or trapped
    trapped : (e : Env) (fr : Frame) (below : List Frame) (n : Next) (trap : Trap) → HasTrapped inst e n trap u g → ((empty : Flat) → empty.bases ≡ [] → KeepsConfiguration m s (after_step inst (configuration e (fr ∷ below)) n) empty u g) × (n ≡ traps trap)
    trapped e fr below (traps v) trap (same, keeps) = (λ empty none. (none, subst (λ st. KeepsStore inst st u g) (sym (env_store inst e.phase e (Trapped v))) keeps), ap traps same)
    trapped e fr below n trap h = absurd h

    -- nothing has changed
    same_running : IsSame f memory globals t u g → IsRunning m s made t u g
    same_running h =
        subst (λ t. IsRunning m s made t u g) (sym h.stack) (subst (λ u. IsRunning m s made f u g) (sym h.memory_is) (subst (λ g. IsRunning m s made f memory g) (sym h.globals_are) running))

    step_leaves : (e : Env) (fr : Frame) (below : List Frame) (r : Result Did AllocError) → run_of m s made ≡ configuration e (fr ∷ below) → IsStanding f memory globals inst e fr below → HaveRoom m f.value_room f.spot_room (fr ∷ below)
        → GoesAtNoCall r fr.top.rest → Advances inst e fr below r f memory globals t u g → Leaves r (configuration e (fr ∷ below)) t u g
    step_leaves e fr below (Ok dids.Went) at st room none w =
        let l = running.linked in
        let live : IsLive m s e (fr ∷ below) = subst (IsStateLive m s) at (always_live m s l.valid l.complete l.range.writes (can_link m s l.links) made) in
        let there = sym (next_state m s l.valid l.complete l.range l.links made (configuration e (fr ∷ below)) at) in (
          record {
            linked = l;
            keeps = subst (λ c. KeepsConfiguration m s c t u g) there (went e fr below (step inst (configuration e (fr ∷ below))) (step_follows inst e fr below none) room w);
          },
          subst (λ c. LeadsTo (configuration e (fr ∷ below)) c t) there
              (leads e fr below (step inst (configuration e (fr ∷ below))) st (busy_phase inst e fr below e.phase live.phase) (step_goes_on inst e fr below none) (left_by inst e fr below none) w),
        )
    step_leaves e fr below (Ok (dids.Trapped trap)) at st room none w =
        let l = running.linked in
        let h = trapped e fr below (step inst (configuration e (fr ∷ below))) trap w in (
          λ empty unframed. record {
            linked = l;
            keeps = subst (λ c. KeepsConfiguration m s c empty u g) (sym (next_state m s l.valid l.complete l.range l.links made (configuration e (fr ∷ below)) at)) (h.0 empty unframed);
          },
          h.1,
        )
    step_leaves e fr below (Ok dids.Calls) at st room none (call, same) = (same_running same, call)
    step_leaves e fr below (Err v) at st room none (grow, same) = (same_running same, grow)

    -- what the machine keeps behind the next step
    pub leaves : (r : Result Did AllocError) → IsInside (run_of m s made) → GoesAtNoCall r (first_rest f.spots)
        → ((i : Instance) (e : Env) (fr : Frame) (below : List Frame) → i.types ≡ m.types → IsStanding f memory globals i e fr below → Advances i e fr below r f memory globals t u g)
        → Leaves r (run_of m s made) t u g
    leaves r inside none advances = go (run_of m s made) refl running.keeps inside
      where
        go : (c : Configuration) → run_of m s made ≡ c → KeepsConfiguration m s c f memory globals → IsInside c → Leaves r c t u g
        go (configuration e []) at keeps inside = absurd inside
        go (configuration e (fr ∷ below)) at (lies, store, room) inside =
            let l = running.linked in
            let st = standing_at m s l.valid l.complete l.range l.links f memory globals made e fr below at lies store room in
            step_leaves e fr below r at st room (subst (λ ss. GoesAtNoCall r (first_rest ss)) lies.spots none) (advances inst e fr below refl st)

-- what the machine answers behind a step that went on
pub went_moves : (m : Module) (s : Script) (made : ℕ) (c d : Configuration) (f g : Flat) (memory : Held) (globals : List Value) (running : IsRunning m s made f memory globals) (a : Option Answer)
    → IsAnswerOf a g → LeadsTo m s made f memory globals running c d g → MovesBy (instance m s) a c d
went_moves m s made c (configuration e []) f g memory globals running None h (vs, ends_so, bases, values, few) = let n = ap length bases in absurd (omega (arith, h, n))
went_moves m s made c (configuration e (fr ∷ below)) f g memory globals running None h (on, some) = on
went_moves m s made c (configuration e []) f g memory globals running (Some (Returned us)) (none, is) (vs, ends_so, bases, values, few) =
    subst (λ us. EndsWith (instance m s) (Returned us) c (configuration e [])) (pushed_same vs us (sym values ∙ is)) ends_so
went_moves m s made c (configuration e (fr ∷ below)) f g memory globals running (Some (Returned us)) (none, is) (on, some) = let n = ap length none in absurd (omega (arith, some, n))
went_moves m s made c d f g memory globals running (Some (Trapped t)) h l = absurd h
went_moves m s made c d f g memory globals running (Some Unfinished) h l = absurd h

-- there are few values where the last frame has been left
pub left_few : (m : Module) (s : Script) (made : ℕ) (c d : Configuration) (f g : Flat) (memory : Held) (globals : List Value) (running : IsRunning m s made f memory globals)
    → LeadsTo m s made f memory globals running c d g → ((above : ℕ) → LeavesFrom f above → ⊥) → g.bases ≡ [] → length g.values ≤ 4
left_few m s made c (configuration e []) f g memory globals running (vs, ends_so, bases, values, few) many none = let n = ap length values in let k = few many in omega (arith, n, k, push_length vs [])
left_few m s made c (configuration e (fr ∷ below)) f g memory globals running (on, some) many none = let n = ap length none in absurd (omega (arith, some, n))

-- there is no frame
pub no_bases : (bs : List Base) → length bs ≡ 0 → bs ≡ []
no_bases [] h = refl
no_bases (b ∷ bs) h = absurd (omega (arith, h))

-- where it traps
pub trap_ends : (inst : Instance) (c : Configuration) (t : Trap) → step inst c ≡ traps t → EndsWith inst (Trapped t) c (after_step inst c (step inst c))
trap_ends inst (configuration e fs) t h =
    subst (λ n. EndsWith inst (Trapped t) (configuration e fs) (after_step inst (configuration e fs) n)) (sym h) (record { outside = λ h. h; told = record { phase = refl; started = refl; answers = refl } })

-- the pages that are kept
pub kept_pages : (m : Module) (s : Script) (c : Configuration) (f : Flat) (memory : Held) (globals : List Value) → KeepsConfiguration m s c f memory globals → pages memory.bytes ≡ pages_in c
kept_pages m s (configuration e []) f memory globals (none, keeps) = ap (λ (h : Held). pages h.bytes) keeps.memory_is
kept_pages m s (configuration e (fr ∷ below)) f memory globals (lies, keeps, room) = ap (λ (h : Held). pages h.bytes) keeps.memory_is

-- and no frame is left
pub trap_running : (m : Module) (s : Script) (made : ℕ) (f : Flat) (memory : Held) (globals : List Value) → IsRunning m s made f memory globals → (t : Trap) → step (instance m s) (run_of m s made) ≡ traps t
    → (empty : Flat) → empty.bases ≡ [] → IsRunning m s (made + 1) empty memory globals
trap_running m s made f memory globals running t h empty unframed = go (run_of m s made) refl running.keeps h
  where
    go : (c : Configuration) → run_of m s made ≡ c → KeepsConfiguration m s c f memory globals → step (instance m s) c ≡ traps t → IsRunning m s (made + 1) empty memory globals
    go (configuration e fs) at keeps h =
        let l = running.linked in
        record {
          linked = l;
          keeps = subst (λ c. KeepsConfiguration m s c empty memory globals)
              (sym (next_state m s l.valid l.complete l.range l.links made (configuration e fs) at ∙ ap (after_step (instance m s) (configuration e fs)) h))
              (unframed, subst (λ st. KeepsStore (instance m s) st memory globals) (sym (env_store (instance m s) e.phase e (Trapped t))) (store_of e fs keeps));
        }
      where
        store_of : (e : Env) (fs : List Frame) → KeepsConfiguration m s (configuration e fs) f memory globals → KeepsStore (instance m s) e.store memory globals
        store_of e [] k = k.1
        store_of e (fr ∷ below) k = k.1

-- memory is wanting at `memory.grow`
pub wants_at_grow : (c : Configuration) → Innermost IsAtGrow c → MayWant c
wants_at_grow (configuration e []) h = absurd h
wants_at_grow (configuration e (fr ∷ below)) h = inl (subst CallsOrGrows (sym h.at) tt)

-- a label is there where a frame is
pub label_there : (m : Module) (s : Script) (f : Flat) (memory : Held) (globals : List Value) (c : Configuration) → KeepsConfiguration m s c f memory globals → IsInside c → 0 < length f.spots
label_there m s f memory globals (configuration e []) keeps inside = absurd inside
label_there m s f memory globals (configuration e (fr ∷ below)) (lies, store, room) inside = let n = ap length lies.spots in omega (arith, n)

-- what is left of its sequence is what the frame stands before
pub place_there : (m : Module) (s : Script) (f : Flat) (memory : Held) (globals : List Value) (c : Configuration) → KeepsConfiguration m s c f memory globals → IsInside c → (place : Tree) → place ≡ first_rest f.spots → Innermost (λ (fr : Frame). fr.top.rest ≡ place) c
place_there m s f memory globals (configuration e []) keeps inside place is = absurd inside
place_there m s f memory globals (configuration e (fr ∷ below)) (lies, store, room) inside place is = sym (is ∙ ap first_rest lies.spots)

-- memory was wanting
pub wants : (r : Result (Option Answer) AllocError) (old new : Run) → IsErr r → new ≡ old → MayWant (configuration_of old) → MakesStep r old new
wants (Ok d) old new h same may = absurd cc
wants (Err v) old new h same may = (same, may)
