-- Whole runs of the two modules, from their moments.
use Rattle.std.proofs.Common.{◌≡◌, ℕ, ◌+◌, ◌-◌, List, ◌++◌, Option, true, refl, sym, ap, ap₂, ◌∙◌, subst₂, arith}
use Rattle.wasm_sem.specs.Types.{Module, Selection}
use Rattle.wasm_sem.specs.declared.Script.{Script}
use Rattle.wasm_sem.specs.Execution.{instance, Configuration, configuration, over, opening_configuration, run_of, is_last, is_over, TraceItem, trace, trace_of}
use Rattle.wasm_sem.specs.Laws.{slots_in}
use Rattle.wasm_sem.proofs.Runs.{trace_add}
use Rattle.wasm_sem.proofs.Ended.{slots_stay, stays_over, shows_no_more}
use Rattle.static_info.specs.Info.{info_of}
use Rattle.static_info.specs.Items.{read}
use Rattle.static_info.specs.Read.{info_remap}
use Rattle.static_info.proofs.Reading.{read_append}
use Rattle.instrument.specs.Same.{Match, IsPrefix, env_in, env_of, Matches, IsOver, told_so_far, shown_so_far, SameRuns}
use Rattle.instrument.specs.Laws.{EachMoment, EachStep}

-- the slots of the store beside the frames are those of the configuration
slots_seen : (c : Configuration) → (env_in c).store.slots ≡ slots_in c
slots_seen (configuration e frames) = refl

-- over by its phase, the run is over
is_over_seen : (c : Configuration) → (env_in c).phase ≡ over → is_over c ≡ true
is_over_seen (configuration e frames) h = ap is_last h

-- the table at any moment is that at any other
slots_same : (o : Module) (s : Script) (k w : ℕ) → (env_of o s k).store.slots ≡ (env_of o s w).store.slots
slots_same o s k w =
    slots_seen (run_of o s k) ∙ slots_stay (instance o s) k (opening_configuration o s) ∙ sym (slots_stay (instance o s) w (opening_configuration o s)) ∙ sym (slots_seen (run_of o s w))

module _ (m : Module) (hooks : Selection) (o : Module) (s : Script) (each : EachMoment m hooks o s) where
  -- what has been told by step k is the beginning of what the matching step has told
  prefix : (k : ℕ) → IsPrefix (told_so_far (info_of m hooks) o s k) (shown_so_far m hooks s k)
  prefix k =
      let w = each k in
      let e : k + (w.0 - k) ≡ w.0 = omega (arith, w.1) in
      let rest = trace (instance o s) (w.0 - k) (run_of o s k) in
      let slots = (env_of o s k).store.slots in
      let cut : trace_of o s k ++ rest ≡ trace_of o s w.0 = sym (trace_add (instance o s) k (w.0 - k) (opening_configuration o s)) ∙ ap (trace_of o s) e in (
        read (info_of m hooks) slots rest,
        sym (read_append (info_of m hooks) slots (trace_of o s k) rest)
            ∙ ap₂ (λ (at : List (Option ℕ)) (told : List TraceItem). read (info_of m hooks) at told) (slots_same o s k w.0) cut
            ∙ w.3.reads,
      )

  -- the matching step of one where the output is over is that step itself
  ends : (k : ℕ) → IsOver o s k → IsOver m s k × Matches (info_of m hooks) m hooks o s k k
  ends k h =
      let w = each k in
      let e : k + (w.0 - k) ≡ w.0 = omega (arith, w.1) in
      let ended = is_over_seen (run_of o s k) h in
      let still : run_of o s w.0 ≡ run_of o s k = ap (run_of o s) (sym e) ∙ stays_over o s k (w.0 - k) ended in
      let quiet : trace_of o s w.0 ≡ trace_of o s k = ap (trace_of o s) (sym e) ∙ shows_no_more o s k (w.0 - k) ended in
      let matches : Matches (info_of m hooks) m hooks o s k k =
      subst₂ (λ (c : Configuration) (told : List TraceItem). Match (info_of m hooks) hooks (info_remap (info_of m hooks)) (env_of m s k) (env_in c) (trace_of m s k) told) still quiet w.3 in
      (sym matches.phase ∙ h, matches)

-- all four together
pub same_runs : (m : Module) (hooks : Selection) (o : Module) (s : Script) → EachMoment m hooks o s → EachStep m hooks o s → SameRuns m hooks o s
same_runs m hooks o s each parts = record { each = each; ends = ends m hooks o s each; prefix = prefix m hooks o s each; parts = parts }
