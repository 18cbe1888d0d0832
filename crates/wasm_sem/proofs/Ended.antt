-- The table is that of the opening, and a run that is over stays as it is and shows nothing more.
use Rattle.std.proofs.Common.{◌≡◌, ℕ, zero, suc, ◌+◌, List, [], ◌∷◌, ◌++◌, Bool, true, false, refl, sym, ap, ap₂, ◌∙◌, subst, append-nil}
use Rattle.wasm_sem.specs.Types.{Module}
use Rattle.wasm_sem.specs.declared.Script.{Script}
use Rattle.wasm_sem.specs.declared.Answer.TheVariants.{Trapped}
use Rattle.wasm_sem.specs.Execution.{Instance, instance, Frame, Phase, starting, calling, over, Env, Configuration, configuration, Next, reduces, traps, ends, stuck, enter_phase, step, after_step, run, opening_configuration, run_of, is_last, is_over, TraceItem, shown_begins, told_begins, items_by, items, trace, trace_of}
use Rattle.wasm_sem.specs.Laws.{slots_in}
use Rattle.wasm_sem.proofs.Runs.{run_add, trace_add, run_ended}
use Rattle.wasm_sem.proofs.Steady.{Keeps, answer_keeps, step_keeps}

-- ---- the slots

-- what a step comes to has the slots from before it
slots_settled : (inst : Instance) (e : Env) (frames : List Frame) (next : Next) → Keeps e next → slots_in (after_step inst (configuration e frames) next) ≡ e.store.slots
slots_settled inst e frames (reduces (configuration b [])) h = h
slots_settled inst e frames (reduces (configuration b (fr ∷ below))) h = h.0
slots_settled inst e frames (traps t) h = answer_keeps inst e.phase e (Trapped t)
slots_settled inst e frames ends h = refl
slots_settled inst e frames stuck h = refl

-- one step leaves the table
slots_next : (inst : Instance) (c : Configuration) → slots_in (after_step inst c (step inst c)) ≡ slots_in c
slots_next inst (configuration e frames) = slots_settled inst e frames (step inst (configuration e frames)) (step_keeps inst e frames)

-- no step writes the table
pub slots_stay : (inst : Instance) (n : ℕ) (c : Configuration) → slots_in (run inst n c) ≡ slots_in c
slots_stay inst zero c = refl
slots_stay inst (suc n) c = slots_stay inst n (after_step inst c (step inst c)) ∙ slots_next inst c

-- ---- frames stand only where the run is not over

-- with frames the run is not over
abbrev pub Live : Configuration → Type 0
Live (configuration e []) = Unit {0}
Live (configuration e (fr ∷ below)) = is_last e.phase ≡ false

-- so it is after a step of a run that is not over
live_settled : (inst : Instance) (e : Env) (frames : List Frame) (next : Next) → Live (configuration e frames) → is_last e.phase ≡ false → Keeps e next → Live (after_step inst (configuration e frames) next)
live_settled inst e frames (reduces (configuration b [])) live going h = tt
live_settled inst e frames (reduces (configuration b (fr ∷ below))) live going h = ap is_last h.1 ∙ going
live_settled inst e frames (traps t) live going h = tt
live_settled inst e frames ends live going h = live
live_settled inst e frames stuck live going h = live

-- over, nothing is entered
phase_ends : (inst : Instance) (e : Env) (ph : Phase) → is_last ph ≡ true → enter_phase inst e ph ≡ ends
phase_ends inst e starting h = absurd (cc)
phase_ends inst e (calling n) h = absurd (cc)
phase_ends inst e over h = refl

-- no entry is shown
shown_none : (inst : Instance) (e : Env) (ph : Phase) → is_last ph ≡ true → shown_begins inst e ph ≡ []
shown_none inst e starting h = absurd (cc)
shown_none inst e (calling n) h = absurd (cc)
shown_none inst e over h = refl

-- nor is one told
told_none : (inst : Instance) (e : Env) (ph : Phase) → is_last ph ≡ true → told_begins inst e ph ≡ []
told_none inst e starting h = absurd (cc)
told_none inst e (calling n) h = absurd (cc)
told_none inst e over h = refl

-- so there are no items
no_items : (inst : Instance) (e : Env) (hooked : Bool) → is_last e.phase ≡ true → items_by hooked inst (configuration e []) ≡ []
no_items inst e false h = shown_none inst e e.phase h
no_items inst e true h = told_none inst e e.phase h

-- one step leaves it so
live_next : (inst : Instance) (c : Configuration) → Live c → Live (after_step inst c (step inst c))
live_next inst (configuration e (fr ∷ below)) live = live_settled inst e (fr ∷ below) (step inst (configuration e (fr ∷ below))) live live (step_keeps inst e (fr ∷ below))
live_next inst (configuration e []) live = go (is_last e.phase) refl
  where
    go : (b : Bool) → is_last e.phase ≡ b → Live (after_step inst (configuration e []) (step inst (configuration e [])))
    go false h = live_settled inst e [] (step inst (configuration e [])) live h (step_keeps inst e [])
    go true h = subst (λ next. Live (after_step inst (configuration e []) next)) (sym (phase_ends inst e e.phase h)) live

-- and so do many
live_run : (inst : Instance) (n : ℕ) (c : Configuration) → Live c → Live (run inst n c)
live_run inst zero c live = live
live_run inst (suc n) c live = live_run inst n (after_step inst c (step inst c)) (live_next inst c live)

-- ---- a run that is over

-- over, a step ends the run and has no items
pub over_ends : (inst : Instance) (c : Configuration) → Live c → is_over c ≡ true → (step inst c ≡ ends) × (items inst c ≡ [])
over_ends inst (configuration e []) live h = (phase_ends inst e e.phase h, no_items inst e inst.hooked h)
over_ends inst (configuration e (fr ∷ below)) live h = absurd (cc)

-- where a step ends the run and shows nothing, nor do further steps
shows_none : (inst : Instance) (n : ℕ) (c : Configuration) → (step inst c ≡ ends) × (items inst c ≡ []) → trace inst n c ≡ []
shows_none inst zero c h = refl
shows_none inst (suc n) c h =
    ap₂ (λ (shown : List TraceItem) (next : Next). shown ++ trace inst n (after_step inst c next)) h.1 h.0 ∙ shows_none inst n c h

-- so it is at every moment, from the opening
live_of : (m : Module) (s : Script) (n : ℕ) → Live (run_of m s n)
live_of m s n = live_run (instance m s) n (opening_configuration m s) tt

-- a run that is over stays as it is
pub stays_over : (m : Module) (s : Script) (n more : ℕ) → is_over (run_of m s n) ≡ true → run_of m s (n + more) ≡ run_of m s n
stays_over m s n more h =
    let inst = instance m s in
    run_add inst n more (opening_configuration m s) ∙ run_ended inst more (run_of m s n) (over_ends inst (run_of m s n) (live_of m s n) h).0

-- and shows nothing more
pub shows_no_more : (m : Module) (s : Script) (n more : ℕ) → is_over (run_of m s n) ≡ true → trace_of m s (n + more) ≡ trace_of m s n
shows_no_more m s n more h =
    let inst = instance m s in
    trace_add inst n more (opening_configuration m s)
    ∙ ap (λ t. trace_of m s n ++ t) (shows_none inst more (run_of m s n) (over_ends inst (run_of m s n) (live_of m s n) h))
    ∙ append-nil (trace_of m s n)
