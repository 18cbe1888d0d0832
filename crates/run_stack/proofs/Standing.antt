-- From instructions of each kind to a step.
use Rattle.std.proofs.Common.{◌≡◌, ℕ, ◌+◌, ◌<◌, ◌≤◌, List, [], ◌∷◌, ◌++◌, length, Option, Some, None, refl, sym, ap, subst, ◌∙◌, arith, length-append}
use Rattle.std.specs.Prelude.{reverse, slice_get, slice_set}
use Rattle.wasm_sem.specs.Types.{Value, Instr, ValType, NumOp}
use Rattle.module_ast.specs.declared.code.Instr.TheVariants as instrs
use Rattle.module_ast.specs.Structure.{Tree, done, Plain, plain, nop, drop_, select, local_get, local_set, local_tee, global_get, global_set, load, store, memory_size, memory_grow, i32_const, i64_const, num, before}
use Rattle.module_ast.proofs.Plains.{the_plain}
use Rattle.run_store.specs.Held.{Held}
use Rattle.wasm_sem.specs.declared.Trap.{Trap}
use Rattle.wasm_sem.specs.Execution.{Store, Instance, Frame, Env, configuration, Next, reduces, Reduct, reduct, trapped_by, not_simple, reduce_simple, reduce_num, selected_value, after_get, after_set, after_num, after_load, after_memory_write, after_store, after_grow, after, frame_behind, reduce_plain, reduce_code, step}
use Rattle.run_stack.specs.Flat.{Flat, moved_spots}
use Rattle.std.proofs.lemmas.List.{length-reverse, length-set}
use Rattle.wasm_num.specs.declared.Value.TheVariants.{I32}
use Rattle.wasm_num.specs.Shapes.{num_operands}
use Rattle.wasm_num.specs.Numbers.{Num, gives, fails, ill_typed, unary, binary}
use Rattle.module_ast.specs.Memory.{with_bytes, load_value, store_bytes, grown_memory}
use Rattle.run_stack.specs.Kept.{ops_of, under, all_values, Lies}
use Rattle.run_stack.specs.Straight.{Moment, reduct_of, reduct_at, IsFound, HasValueRoom, IsMomentBefore, IsMomentBehind, IsSimple}
use Rattle.run_stack.specs.Comes.{IsUnstuck, HasLabelRoom, LiesNext, IsMoving, IsControl, next_of}
use Rattle.run_stack.proofs.Lying.{lies_moved}
use Rattle.run_stack.specs.Standing.{HasRoomFor, HasStepRoom, IsStanding, KeepsStore, Went, Trapped}

module _ (s : Flat) (memory : Held) (globals : List Value) (inst : Instance) (e : Env) (fr : Frame) (below : List Frame) (standing : IsStanding s memory globals inst e fr below) where
  -- the innermost frame with this left
  abbrev pub moved : Tree → Frame
  moved k = record fr { top = record fr.top { rest = k } }

  abbrev pub the_step : Next
  the_step = step inst (configuration e (fr ∷ below))

  -- ---- instructions that neither branch, nor call, nor open a block

  -- as many locals as before
  abbrev HasLocals : Reduct → Type 0
  HasLocals (reduct st l o) = length l ≡ length fr.locals
  HasLocals (trapped_by t) = Unit {0}
  HasLocals not_simple = Unit {0}

  same_length : (o l : List Value) → length l ≡ length fr.locals → length (o ++ (ops_of fr.outer ++ (reverse l ++ all_values below))) ≡ length (o ++ under fr below)
  same_length o l h =
      omega (
        arith,
        length-append o (ops_of fr.outer ++ (reverse l ++ all_values below)),
        length-append (ops_of fr.outer) (reverse l ++ all_values below),
        length-append (reverse l) (all_values below),
        length-reverse l,
        length-append o (under fr below),
        length-append (ops_of fr.outer) (reverse fr.locals ++ all_values below),
        length-append (reverse fr.locals) (all_values below),
        length-reverse fr.locals,
        h,
      )

  gets : (v : Option Value) (st : Store) (o : List Value) → HasLocals (after_get v st fr.locals o)
  gets None st o = tt
  gets (Some v) st o = refl

  sets : (v : Option Value) (c : Reduct) → HasLocals c → HasLocals (after_set v c)
  sets None c h = tt
  sets (Some v) c h = h

  nums : (r : Num) (st : Store) (o : List Value) → HasLocals (after_num r st fr.locals o)
  nums (gives v) st o = refl
  nums (fails t) st o = tt
  nums ill_typed st o = tt

  loads : (v : Option Value) (st : Store) (o : List Value) → HasLocals (after_load v st fr.locals o)
  loads None st o = tt
  loads (Some v) st o = refl

  writes : (v : Option (List ℕ)) (st : Store) (o : List Value) → HasLocals (after_memory_write v st fr.locals o)
  writes None st o = tt
  writes (Some v) st o = refl

  stores : (v : Option (List ℕ)) (a : ℕ) (st : Store) (o : List Value) → HasLocals (after_store v a st fr.locals o)
  stores None a st o = tt
  stores (Some v) a st o = writes (with_bytes a v st.memory) st o

  grows : (v : Option (List ℕ)) (st : Store) (o : List Value) → HasLocals (after_grow v st fr.locals o)
  grows None st o = refl
  grows (Some v) st o = refl

  computes : (ts : List ValType) (op : NumOp) (st : Store) (o : List Value) → HasLocals (reduce_num ts op st fr.locals o)
  computes (t ∷ []) op st (a ∷ o) = nums (unary op a) st o
  computes (t ∷ u ∷ []) op st (b ∷ a ∷ o) = nums (binary op a b) st o
  computes ts op st o = tt

  keeps_locals : (p : Plain) (st : Store) (o : List Value) → HasLocals (reduce_simple inst.limit p st fr.locals o)
  keeps_locals nop st o = refl
  keeps_locals drop_ st (v ∷ o) = refl
  keeps_locals select st (I32 n ∷ b ∷ a ∷ o) = gets (selected_value a b n) st o
  keeps_locals (local_get x) st o = gets (slice_get fr.locals x) st o
  keeps_locals (local_set x) st (v ∷ o) = sets (slice_get fr.locals x) (reduct st (slice_set fr.locals x v) o) (length-set fr.locals x v)
  keeps_locals (local_tee x) st (v ∷ o) = sets (slice_get fr.locals x) (reduct st (slice_set fr.locals x v) (v ∷ o)) (length-set fr.locals x v)
  keeps_locals (global_get x) st o = gets (slice_get st.globals x) st o
  keeps_locals (global_set x) st (v ∷ o) = sets (slice_get st.globals x) (reduct (record st { globals = slice_set st.globals x v }) fr.locals o) refl
  keeps_locals (load op m) st (I32 n ∷ o) = loads (load_value op (n + m.offset) st.memory) st o
  keeps_locals (store op m) st (v ∷ I32 n ∷ o) = stores (store_bytes op v) (n + m.offset) st o
  keeps_locals memory_size st o = refl
  keeps_locals memory_grow st (I32 n ∷ o) = grows (grown_memory inst.limit n st.memory) st o
  keeps_locals (i32_const z) st o = refl
  keeps_locals (i64_const z) st o = refl
  keeps_locals (num op) st o = computes (num_operands op) op st o
  keeps_locals p st o = tt

  -- such an instruction, as it stands in the code
  pub record IsPlain (i : Instr) : Type 0 where
    pub plain_is : Plain
    pub is : (k : Tree) → before i k ≡ plain plain_is k
    pub comes : (k : Tree) → reduce_plain inst e (frame_behind fr k) below plain_is fr.top.ops ≡ after e (frame_behind fr k) below (reduce_simple inst.limit plain_is e.store fr.locals fr.top.ops)
    pub has_room : (k : Tree) (n : Next) → HasStepRoom s.value_room s.spot_room (plain plain_is k) n → HasRoomFor s.value_room s.spot_room n

  -- what a step that was made leaves
  abbrev pub StandsAt : Next → Option Trap → Flat → Held → List Value → Type 0
  StandsAt n None u m g = Went inst e n u m g
  StandsAt n (Some t) u m g = Trapped inst e n t m g

  abbrev pub Stands : Option Trap → Flat → Held → List Value → Type 0
  Stands trap u m g = StandsAt the_step trap u m g

  abbrev pub moment : Frame → Moment
  moment f = record { limit = inst.limit; store = e.store; frame = f; below = below }

  module _ (i : Instr) (k : Tree) (at : fr.top.rest ≡ before i k) (p : IsPlain i) where
    abbrev come : Reduct
    come = reduce_simple inst.limit p.plain_is e.store fr.locals fr.top.ops

    steps : the_step ≡ after e (frame_behind fr k) below come
    steps = ap (λ t. reduce_code inst e fr below t fr.top.ops) (at ∙ p.is k) ∙ p.comes k

    same_calc : (f : Frame) → f.top.ops ≡ fr.top.ops → f.locals ≡ fr.locals → reduct_at (moment f) i ≡ come
    same_calc f o l = ap (reduct_of (moment f)) (p.is done) ∙ ap (λ o. reduce_simple inst.limit p.plain_is e.store f.locals o) o ∙ ap (λ l. reduce_simple inst.limit p.plain_is e.store l fr.top.ops) l

    found : (c : Reduct) → IsUnstuck (after e (frame_behind fr k) below c) → IsFound c
    found (reduct st l o) r = tt
    found (trapped_by t) r = tt
    found not_simple r = r

    -- of values behind it, counted as they lie there
    room : (c : Reduct) → HasRoomFor s.value_room s.spot_room (after e (frame_behind fr k) below c) → HasLocals c → HasValueRoom (moment fr) s.value_room c
    room (reduct st l o) h g = subst (λ n. n ≤ s.value_room) (same_length o l g) h.0
    room (trapped_by t) h g = tt
    room not_simple h g = tt

    roomy : HasRoomFor s.value_room s.spot_room the_step
    roomy = p.has_room k the_step (subst (λ t. HasStepRoom s.value_room s.spot_room t the_step) (at ∙ p.is k) standing.room)

    -- the machine stands before it
    pub stands_before : (j : Instr) → i ≡ j → (f : Frame) → f ≡ fr → IsMomentBefore s memory globals j (moment f)
    stands_before j q f g = subst (λ j. IsMomentBefore s memory globals j (moment f)) q (subst (λ f. IsMomentBefore s memory globals i (moment f)) (sym g) (record {
      lies = standing.lies;
      memory_is = standing.memory_is;
      globals_are = standing.globals_are;
      found = subst IsFound (sym (same_calc fr refl refl)) (found come (subst IsUnstuck steps standing.ready));
      room = subst (HasValueRoom (moment fr) s.value_room) (sym (same_calc fr refl refl)) (room come (subst (HasRoomFor s.value_room s.spot_room) steps roomy) (keeps_locals p.plain_is e.store fr.top.ops));
    }))

    -- and behind it
    pub stands_behind : (trap : Option Trap) (t u : Flat) (m : Held) (g : List Value) → IsMomentBehind (moment fr) (reduct_at (moment fr) i) trap t m g → u ≡ record t { spots = moved_spots k t.spots } → Stands trap u m g
    stands_behind trap t u m g h q = subst (λ n. StandsAt n trap u m g) (sym steps) (go come trap (subst (λ c. IsMomentBehind (moment fr) c trap t m g) (same_calc fr refl refl) h))
      where
        go : (c : Reduct) (trap : Option Trap) → IsMomentBehind (moment fr) c trap t m g → StandsAt (after e (frame_behind fr k) below c) trap u m g
        go (reduct st l o) None (lies, mem, glob) = (
          subst (λ u. Lies u (record (frame_behind fr k) { locals = l; top = record (frame_behind fr k).top { ops = o } } ∷ below)) (sym q) (record { values = lies.values; spots = ap (moved_spots k) lies.spots; bases = lies.bases }),
          record { memory_is = mem; globals_are = glob },
        )
        go (reduct st l o) (Some v) h = absurd h
        go (trapped_by v) None h = absurd h
        go (trapped_by v) (Some w) (same, mem, glob) = (same, record { memory_is = mem; globals_are = glob })
        go not_simple trap h = absurd h

  pub plain_of : (i : Instr) → IsSimple i → IsPlain i
  plain_of (instrs.Block ty a) h = absurd h
  plain_of (instrs.Loop ty a) h = absurd h
  plain_of (instrs.If ty a) h = absurd h
  plain_of (instrs.IfElse ty a b) h = absurd h
  plain_of (instrs.Br n) h = absurd h
  plain_of (instrs.BrIf n) h = absurd h
  plain_of (instrs.BrTable ns n) h = absurd h
  plain_of instrs.Return h = absurd h
  plain_of (instrs.Call f) h = absurd h
  plain_of (instrs.CallIndirect x) h = absurd h
  plain_of i h = record { plain_is = the_plain i; is = λ k. refl; comes = λ k. refl; has_room = λ k n h. h }

  -- the machine stands before one
  abbrev pub straight_before : (i : Instr) (k : Tree) → IsSimple i → fr.top.rest ≡ before i k → (x : Moment) × IsMomentBefore s memory globals i x
  straight_before i k h at = (moment fr, stands_before i k at (plain_of i h) i refl fr refl)

  pub straight_some : (i : Instr) (k : Tree) → IsSimple i → fr.top.rest ≡ before i k → (t : Flat) (m : Held) (g : List Value) (trap : Option Trap) → trap ≡ None
      → ((x : Moment) → IsMomentBefore s memory globals i x → IsMomentBehind x (reduct_at x i) trap t m g) → 0 < length t.spots
  straight_some i k h at t m g trap e f = go (reduct_at (moment fr) i) (subst (λ o. IsMomentBehind (moment fr) (reduct_at (moment fr) i) o t m g) e (f (moment fr) (straight_before i k h at).1))
    where
      go : (c : Reduct) → IsMomentBehind (moment fr) c None t m g → 0 < length t.spots
      go (reduct st l o) (lies, mem, glob) = let n = ap length lies.spots in subst (λ n. 0 < n) (sym n) (omega arith)
      go (trapped_by v) h = absurd h
      go not_simple h = absurd h

  -- and behind it, or it trapped
  pub straight_went : (i : Instr) (k : Tree) → IsSimple i → fr.top.rest ≡ before i k → (t u : Flat) (m : Held) (g : List Value) (trap : Option Trap) → trap ≡ None
      → ((x : Moment) → IsMomentBefore s memory globals i x → IsMomentBehind x (reduct_at x i) trap t m g) → u ≡ record t { spots = moved_spots k t.spots } → Went inst e the_step u m g
  straight_went i k h at t u m g trap e f q =
      stands_behind i k at (plain_of i h) None t u m g (subst (λ o. IsMomentBehind (moment fr) (reduct_at (moment fr) i) o t m g) e (f (moment fr) (straight_before i k h at).1)) q

  pub straight_trapped : (i : Instr) (k : Tree) → IsSimple i → fr.top.rest ≡ before i k → (t : Flat) (m : Held) (g : List Value) (trap : Option Trap) (v : Trap) → trap ≡ Some v
      → ((x : Moment) → IsMomentBefore s memory globals i x → IsMomentBehind x (reduct_at x i) trap t m g) → Trapped inst e the_step v m g
  straight_trapped i k h at t m g trap v e f =
      stands_behind i k at (plain_of i h) (Some v) t (record t { spots = moved_spots k t.spots }) m g (subst (λ o. IsMomentBehind (moment fr) (reduct_at (moment fr) i) o t m g) e (f (moment fr) (straight_before i k h at).1)) refl

  -- ---- instructions that open a block, or branch

  -- what they come to, the innermost label standing behind
  same_step : (i : Instr) (k : Tree) (o : List Value) → IsControl i → reduce_code inst e fr below (before i k) o ≡ reduce_code inst e (moved k) below (before i k) o
  same_step (instrs.If ty a) k (I32 n ∷ o) h = refl
  same_step (instrs.IfElse ty a b) k (I32 n ∷ o) h = refl
  same_step i k o h = refl

  module _ (i : Instr) (k : Tree) (kind : IsControl i) (at : fr.top.rest ≡ before i k) where
    next_is : the_step ≡ next_of inst e (moved k) below i
    next_is = ap (λ t. reduce_code inst e fr below t fr.top.ops) at ∙ same_step i k fr.top.ops kind

    control_room : (i : Instr) → IsControl i → HasStepRoom s.value_room s.spot_room (before i k) the_step → HasRoomFor s.value_room s.spot_room the_step
    control_room (instrs.Call f) kind h = absurd kind
    control_room (instrs.CallIndirect x) kind h = absurd kind
    control_room i kind h = h

    labels : (n : Next) (room : ℕ) → HasRoomFor s.value_room room n → HasLabelRoom room n
    labels (reduces (configuration f fs)) room h = h.1
    labels n room h = tt

    pub moving : (u : Flat) (place : Tree) → place ≡ before i k → u ≡ record s { spots = moved_spots k s.spots } → IsMoving u place i inst e (moved k) below
    moving u place p q = subst (λ u. IsMoving u place i inst e (moved k) below) (sym q) (record {
      lies = lies_moved s fr below k standing.lies;
      place_is = p;
      ready = subst IsUnstuck next_is standing.ready;
      room = subst (HasLabelRoom s.spot_room) next_is (labels the_step s.spot_room (control_room i kind (subst (λ t. HasStepRoom s.value_room s.spot_room t the_step) at standing.room)));
    })

    pub control_went : (u : Flat) → LiesNext inst e (next_of inst e (moved k) below i) u → Went inst e the_step u memory globals
    control_went u h = subst (λ n. Went inst e n u memory globals) (sym next_is) (go (next_of inst e (moved k) below i) h)
      where
        kept : (f : Env) → f ≡ e → KeepsStore inst f.store memory globals
        kept f q = subst (λ f. KeepsStore inst f.store memory globals) (sym q) (record { memory_is = standing.memory_is; globals_are = standing.globals_are })

        go : (n : Next) → LiesNext inst e n u → Went inst e n u memory globals
        go (reduces (configuration f [])) (vs, q, ended) = (vs, q, ended, record { memory_is = standing.memory_is; globals_are = standing.globals_are })
        go (reduces (configuration f (fr ∷ below))) (q, lies) = (lies, kept f q)
        go n h = absurd h
