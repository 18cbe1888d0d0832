-- The frame that calls a function, direct or through a slot of the table, and what stands behind it.
use Rattle.std.proofs.Common.{◌≡◌, ◌≢◌, ℕ, ◌+◌, ◌<◌, ◌≤◌, List, [], ◌∷◌, ◌++◌, length, drop, Option, Some, None, refl, sym, ap, subst, ◌∙◌, arith, append_assoc, length-append}
use Rattle.std.proofs.Math.Seq.{drop-append_seam}
use Rattle.std.specs.Prelude.{reverse, slice_get}
use Rattle.std.proofs.lemmas.List.{length-reverse}
use Rattle.wasm_sem.specs.Types.{Value, Module}
use Rattle.module_ast.specs.Structure.{Tree}
use Rattle.run_store.specs.Held.{Held}
use Rattle.wasm_sem.specs.declared.Script.{Script}
use Rattle.wasm_sem.specs.Heights.{IsConfigurationWithin}
use Rattle.wasm_sem.specs.Execution.{Callee, callee_type, callees_of, Instance, instance, Frame, Env, Configuration, configuration, stuck, pop_values, with_ops, invoke, call_popped, frame_behind, step, run_of, told_invoke, told_popped, told_code}
use Rattle.wasm_sem.proofs.Sound.{never_lacks}
use Rattle.wasm_sem.proofs.Heights.{stays_within}
use Rattle.wasm_sem.proofs.SoundEntries.{can_link}
use Rattle.run_stack.specs.Flat.{Spot, Flat, moved_spots, first_rest, HasMoreRoom}
use Rattle.run_stack.specs.Kept.{under, Lies}
use Rattle.run_stack.specs.Slots.{index_count, with_index, behind_call, before_call}
use Rattle.wasm_run.specs.Reaching.{Reaches}
use Rattle.wasm_run.specs.Rooms.{HaveRoom}
use Rattle.wasm_run.specs.Running.{KeepsConfiguration, IsLinked, IsRunning}
use Rattle.run_stack.specs.Standing.{KeepsStore}
use Rattle.run_stack.proofs.Popped.{Parts, parts}
use Rattle.wasm_run.proofs.Rooms.{same_room, more_room, frames_fit}

-- ---- the number of the slot

pub index_dropped : (slot : Option ℕ) (o below : List Value) → drop (index_count slot) (with_index slot o ++ below) ≡ o ++ below
index_dropped None o below = refl
index_dropped (Some i) o below = refl

index_back : (slot : Option ℕ) (o below : List Value) → with_index slot (o ++ below) ≡ with_index slot o ++ below
index_back None o below = refl
index_back (Some i) o below = refl

pub index_there : (slot : Option ℕ) (o below : List Value) → length (with_index slot o ++ below) ≡ index_count slot + length (o ++ below)
index_there None o below = omega arith
index_there (Some i) o below = omega arith

-- ---- the frame that calls

module _ (m : Module) (s : Script) (made : ℕ) (f : Flat) (memory : Held) (globals : List Value) (linked : IsLinked m s) (slot : Option ℕ) (func : ℕ) (k : Tree) (called : Callee) where
  abbrev inst : Instance
  inst = instance m s

  abbrev count : ℕ
  count = length (callee_type called).params

  -- of its operands `ops` are left where arguments are taken
  pub record Invoker : Type 0 where
    pub env : Env
    pub frame : Frame
    pub below : List Frame
    pub ops : List Value
    pub args : List Value
    pub rest : List Value
    pub at : run_of m s made ≡ configuration env (frame ∷ below)
    pub ops_are : frame.top.ops ≡ with_index slot ops
    pub lies : Lies f (frame ∷ below)
    pub store : KeepsStore inst env.store memory globals
    pub room : HaveRoom m f.value_room f.spot_room (frame ∷ below)
    pub callee : slice_get (callees_of m) func ≡ Some called
    pub popped : pop_values count ops [] ≡ Some (args, rest)
    pub next_is : step inst (configuration env (frame ∷ below)) ≡ invoke inst env (with_ops (frame_behind frame k) rest ∷ below) func called args
    pub told_is : told_code inst env frame.top.rest frame.top.ops ≡ told_invoke inst env func called args

  module _ (x : Invoker) where
    pub index_fits : index_count slot ≤ length f.values
    index_fits =
        let n = index_there slot x.ops (under x.frame x.below) in
        omega (arith, n, ap length (x.lies.values ∙ ap (λ o. o ++ under x.frame x.below) x.ops_are))

    pub some_label : 0 < length f.spots
    some_label = let n = ap length x.lies.spots in omega (arith, n)

    -- behind the call, with its arguments
    abbrev pub behind : Frame
    behind = with_ops (frame_behind x.frame k) x.ops

    are : Parts count x.ops [] x.args x.rest
    are = parts count x.ops [] x.args x.rest x.popped

    module _ (t : Flat) (moves : t ≡ behind_call slot k f) where
      operands_are : t.values ≡ x.ops ++ under behind x.below
      operands_are =
          ap (λ (t : Flat). t.values) moves
          ∙ ap (drop (index_count slot)) (x.lies.values ∙ ap (λ o. o ++ under x.frame x.below) x.ops_are)
          ∙ index_dropped slot x.ops (under x.frame x.below)

      pub lies_behind : Lies t (behind ∷ x.below)
      lies_behind = record {
        values = operands_are;
        spots = ap (λ (t : Flat). t.spots) moves ∙ ap (moved_spots k) x.lies.spots;
        bases = ap (λ (t : Flat). t.bases) moves ∙ x.lies.bases;
      }

      pub values_are : t.values ≡ reverse x.args ++ (x.rest ++ under behind x.below)
      values_are = operands_are ∙ ap (λ o. o ++ under behind x.below) are.whole ∙ append_assoc (reverse x.args) x.rest (under behind x.below)

      args_count : count ≡ length (reverse x.args)
      args_count = let n = are.count in omega (arith, n, length-reverse x.args)

      pub enough : count ≤ length t.values
      enough = omega (arith, args_count, ap length values_are, length-append (reverse x.args) (x.rest ++ under behind x.below))

      pub left_are : drop count t.values ≡ x.rest ++ under behind x.below
      left_are = ap (drop count) values_are ∙ ap (λ n. drop n (reverse x.args ++ (x.rest ++ under behind x.below))) args_count ∙ drop-append_seam (reverse x.args) (x.rest ++ under behind x.below)

      pub room_behind : HaveRoom m t.value_room t.spot_room (behind ∷ x.below)
      room_behind =
          subst (λ (t : Flat). HaveRoom m t.value_room t.spot_room (behind ∷ x.below)) (sym moves)
          (same_room m f.value_room f.spot_room x.frame behind x.below refl x.room.0, x.room.1)

      -- ---- the call is not made

      -- there is room for the number of the slot again
      pub room_back : (u : Flat) → HasMoreRoom t u → length u.values + index_count slot ≤ u.value_room
      room_back u more =
          let fit = (frames_fit m f.value_room f.spot_room (x.frame ∷ x.below) (subst (IsConfigurationWithin m) x.at (stays_within m s linked.valid linked.complete linked.range.writes (can_link m s linked.links) made)) x.room).0 in
          let n = index_there slot x.ops (under x.frame x.below) in
          omega (
            arith,
            fit,
            n,
            more.value_room,
            ap length more.values,
            ap length operands_are,
            ap length x.lies.values,
            ap length (x.lies.values ∙ ap (λ o. o ++ under x.frame x.below) x.ops_are),
            ap (λ (t : Flat). t.value_room) moves,
          )

      pub some_label_back : (u : Flat) → HasMoreRoom t u → 0 < length u.spots
      some_label_back u more = let n = ap length (more.spots ∙ lies_behind.spots) in omega (arith, n)

      pub undone : (u v : Flat) (place : Tree) → place ≡ first_rest f.spots → HasMoreRoom t u → v ≡ before_call slot place u → IsRunning m s made v memory globals
      undone u v place here more back = record {
        linked = linked;
        keeps = subst (λ c. KeepsConfiguration m s c v memory globals) (sym x.at) (
          record {
            values = ap (λ (v : Flat). v.values) back ∙ ap (with_index slot) (more.values ∙ operands_are) ∙ index_back slot x.ops (under x.frame x.below) ∙ ap (λ o. o ++ under x.frame x.below) (sym x.ops_are);
            spots = ap (λ (v : Flat). v.spots) back ∙ ap (moved_spots place) (more.spots ∙ ap (λ (t : Flat). t.spots) moves) ∙ ap (λ p. moved_spots p (moved_spots k f.spots)) here ∙ as_before f.spots ∙ x.lies.spots;
            bases = ap (λ (v : Flat). v.bases) back ∙ more.bases ∙ ap (λ (t : Flat). t.bases) moves ∙ x.lies.bases;
          },
          x.store,
          more_room m f.value_room f.spot_room v.value_room v.spot_room (x.frame ∷ x.below)
              (omega (arith, more.value_room, ap (λ (v : Flat). v.value_room) back, ap (λ (t : Flat). t.value_room) moves))
              (omega (arith, more.spot_room, ap (λ (v : Flat). v.spot_room) back, ap (λ (t : Flat). t.spot_room) moves)) x.room,
        );
      }
        where
          as_before : (ss : List Spot) → moved_spots (first_rest ss) (moved_spots k ss) ≡ ss
          as_before [] = refl
          as_before (a ∷ ss) = refl

  -- ---- it is there

  pops : (e : Env) (fr : Frame) (below : List Frame) (o : Option (List Value × List Value)) → call_popped inst e (frame_behind fr k) below func called o ≢ stuck
      → (args : List Value) × (rest : List Value) × (o ≡ Some (args, rest))
  pops e fr below None h = absurd (h refl)
  pops e fr below (Some p) h = (p.0, p.1, refl)

  pub invoker : KeepsConfiguration m s (run_of m s made) f memory globals → Reaches inst (run_of m s made) slot func k called → Invoker
  invoker keeps calls = go (run_of m s made) refl keeps calls
    where
      go : (c : Configuration) → run_of m s made ≡ c → KeepsConfiguration m s c f memory globals → Reaches inst c slot func k called → Invoker
      go (configuration e []) at keeps h = absurd h
      go (configuration e (fr ∷ below)) at (lies, store, room) h =
          let p = pops e fr below (pop_values count h.ops [])
          (subst (λ n. n ≢ stuck) h.next_is (subst (λ c. step inst c ≢ stuck) at (never_lacks m s linked.valid linked.complete linked.range.writes (can_link m s linked.links) made))) in
          record {
            env = e;
            frame = fr;
            below = below;
            ops = h.ops;
            args = p.0;
            rest = p.1;
            at = at;
            ops_are = h.ops_are;
            lies = lies;
            store = store;
            room = room;
            callee = h.callee;
            popped = p.2;
            next_is = h.next_is ∙ ap (call_popped inst e (frame_behind fr k) below func called) p.2;
            told_is = h.told_is ∙ ap (told_popped inst e func called) p.2;
          }
