-- An output prints what its original prints.
use Rattle.std.proofs.Common.{◌≡◌, ℕ, ◌+◌, ◌-◌, ◌*◌, ◌≤◌, List, length, true, not, Option, refl, sym, ap, subst, ◌∙◌, arith}
use Rattle.wasm_sem.specs.Types.{Module, Selection}
use Rattle.module_ast.specs.Binary.{limited_counts, IsWithin}
use Rattle.module_ast.specs.declared.module.Which.TheVariants.{Functions, Types, Parameters, Locals, Nesting}
use Rattle.module_ast.specs.Memory.{pages}
use Rattle.module_ast.specs.Validation.{narrow, wide, IsValid, deepest, longest_file}
use Rattle.module_ast.proofs.Sizes.{within_more}
use Rattle.wasm_sem.specs.declared.Answer.{Answer}
use Rattle.wasm_sem.specs.declared.Script.{Script}
use Rattle.wasm_sem.specs.Execution.{Summary, start_answer, call_answers, summary, summary_of, Configuration, configuration, Env, Phase, over, is_last, is_over, run_of, Links, most_slots}
use Rattle.wasm_sem.proofs.Ended.{stays_over}
use Rattle.wasm_sem.proofs.SoundEntries.{can_link}
use Rattle.rewrite.specs.Cost.{cost}
use Rattle.static_info.specs.Info.{info_of}
use Rattle.instrument.specs.Same.{IsOver, SameRuns, Matches, env_in, env_of}
use Rattle.app_load.specs.Files.{IsFit}
use Rattle.app_load.specs.Plans.{Finish, Effect, does, prints, printing}
use Rattle.app_load.specs.Wants.{Gives, module_read}
use Rattle.app_load.proofs.Files.{one_module}
use Rattle.app_load.proofs.Going.{leads_by}
use Rattle.app_runs.specs.RunTexts.{run_text}
use Rattle.wasabi_app.specs.Alike.{with_steps, PrintsAlike, OutputsPrintAlike, RunHas, RunsPrintAlike}
use Rattle.wasabi_app.specs.Modes.Run.{run_plan}
use Rattle.wasabi_app.specs.Playing.{finish_of, ending_text, ending_finish}
use Rattle.wasabi_app.specs.Replaying.{LeadsOnlyTo}
use Rattle.wasabi_app.proofs.Linked.{played_links}
use Rattle.wasabi_app.proofs.Traces.{leads_only}

-- ---- what is told of a run when it stops

abbrev summary_with : Phase → Option Answer → List Answer → (memory : List ℕ) → (hosts : ℕ) → Summary
summary_with phase started answers memory hosts = record {
  start = start_answer phase started;
  calls = call_answers phase answers;
  pages = pages memory;
  hosts = hosts;
  running = not (is_last phase);
}

summary_is : (c : Configuration) → summary c ≡ summary_with (env_in c).phase (env_in c).started (env_in c).answers (env_in c).store.memory (env_in c).store.hosts
summary_is (configuration e frames) = refl

same_summary : (a b : Env) → b.phase ≡ a.phase → b.started ≡ a.started → b.answers ≡ a.answers → b.store.memory ≡ a.store.memory → b.store.hosts ≡ a.store.hosts
    → summary_with b.phase b.started b.answers b.store.memory b.store.hosts ≡ summary_with a.phase a.started a.answers a.store.memory a.store.hosts
same_summary a b phase started answers memory hosts =
    ap (λ p. summary_with p b.started b.answers b.store.memory b.store.hosts) phase ∙ ap (λ s. summary_with a.phase s b.answers b.store.memory b.store.hosts) started
    ∙ ap (λ x. summary_with a.phase a.started x b.store.memory b.store.hosts) answers
    ∙ ap (λ x. summary_with a.phase a.started a.answers x b.store.hosts) memory ∙ ap (summary_with a.phase a.started a.answers a.store.memory) hosts

pub over_is : (c : Configuration) → (env_in c).phase ≡ over → is_over c ≡ true
over_is (configuration e frames) h = ap is_last h

-- a run has one end
one_end : (m : Module) (s : Script) (a b : ℕ) → IsOver m s a → IsOver m s b → run_of m s a ≡ run_of m s b
one_end m s a b p q =
    let swapped : a + b ≡ b + a = omega arith in
    sym (stays_over m s a b (over_is (run_of m s a) p)) ∙ ap (run_of m s) swapped ∙ stays_over m s b a (over_is (run_of m s b) q)

-- and stays over
pub over_later : (m : Module) (s : Script) (a b : ℕ) → a ≤ b → IsOver m s a → IsOver m s b
over_later m s a b sooner p =
    let sum : a + (b - a) ≡ b = omega (arith, sooner) in
    ap (λ n. (env_of m s n).phase) (sym sum) ∙ ap (λ c. (env_in c).phase) (stays_over m s a (b - a) (over_is (run_of m s a) p)) ∙ p

-- ---- runs that are the same

module _ (m : Module) (hooks : Selection) (o : Module) (s : Script) (same : SameRuns m hooks o s) where
  -- what is told of a moment and of one that matches it
  told_alike : (n k : ℕ) → Matches (info_of m hooks) m hooks o s n k → summary_of o s k ≡ summary_of m s n
  told_alike n k match =
      summary_is (run_of o s k)
      ∙ same_summary (env_of m s n) (env_of o s k) match.phase match.started match.answers (ap (λ st. st.memory) match.store) (ap (λ st. st.hosts) match.store)
      ∙ sym (summary_is (run_of m s n))

  -- the second is over where the first was, so many steps later
  pub ends_later : (n k : ℕ) → IsOver m s n → cost m * (n + 1) ≤ k → IsOver o s k
  ends_later n k over_m far =
      let there = same.each n in
      over_later o s there.0 k (omega (arith, there.2, far)) (there.3.phase ∙ over_m)

  -- where both are over, they are told alike
  pub over_alike : (n k : ℕ) → IsOver m s n → IsOver o s k → summary_of o s k ≡ summary_of m s n
  over_alike n k over_m over_o =
      let there = same.each n in
      ap summary (one_end o s k there.0 over_o (there.3.phase ∙ over_m)) ∙ told_alike n there.0 there.3

  prints_alike : Links o s → PrintsAlike m o s
  prints_alike links = record {
    links = λ steps. links;
    ends = λ over_m steps far. ends_later s.steps steps over_m far;
    alike = λ over_m steps over_o.
        let same : summary_of o s steps ≡ summary_of m s s.steps = over_alike s.steps steps over_m over_o in
        record { text = ap (run_text s.calls) same; finish = ap finish_of same };
    no_sooner = λ steps over_o. (same.ends steps over_o).0;
  }

-- ---- the output of an accepted file

pub outputs_print_alike : OutputsPrintAlike
outputs_print_alike file hooks keeps written has o fit s range links =
    let module_is : has.sound.result ≡ o = one_module written has.sound.result o has.sound.spelled fit.spelled in
    subst (λ x. PrintsAlike has.original x s) module_is
    (prints_alike has.original hooks has.sound.result s (has.sound.same.runs s range.writes (can_link has.original s links)) (has.sound.same.links most_slots s ∙ links))

-- ---- the mode `run`

-- what gets hooks is also read by modes that run
narrow_wide : (m : Module) → IsWithin narrow m → IsWithin wide m
narrow_wide m within Functions = within_more 100000 600000 (limited_counts m Functions) (omega arith) (within Functions)
narrow_wide m within Types = within_more 100000 600000 (limited_counts m Types) (omega arith) (within Types)
narrow_wide m within Parameters = within_more 400 900 (limited_counts m Parameters) (omega arith) (within Parameters)
narrow_wide m within Locals = within_more 50000 60000 (limited_counts m Locals) (omega arith) (within Locals)
narrow_wide m within Nesting = within_more 1000 deepest (limited_counts m Nesting) (omega arith) (within Nesting)

-- what it prints of a valid module, with a script with which it links
run_has : (bytes : List ℕ) (m : Module) (s : Script) (text : List ℕ) (finish : Finish) → length bytes ≤ longest_file → IsFit wide bytes m → IsValid m → Links m s
    → text ≡ ending_text m s → finish ≡ ending_finish m s → RunHas bytes s (prints text finish)
run_has bytes m s text finish short fit valid links text_is finish_is held subject script there script_there =
    let printed = printing (ending_text m s) (ending_finish m s) in
    let module_there : Gives held (module_read subject longest_file wide) m =
    record { bytes = bytes; read_well = record { there = there; short = short }; spelled = (fit, valid) } in
    let same : prints (ending_text m s) (ending_finish m s) ≡ prints text finish =
    ap (λ t. prints t (ending_finish m s)) (sym text_is) ∙ ap (prints text) (sym finish_is) in
    subst (λ (e : Effect). LeadsOnlyTo held (run_plan subject script) e) same
    (leads_only held (run_plan subject script) (prints (ending_text m s) (ending_finish m s))
    (m, module_there, (s, script_there, leads_by held (does (prints (ending_text m s) (ending_finish m s))) (played_links m s printed links) refl)))

pub runs_print_alike : RunsPrintAlike
runs_print_alike file hooks keeps written has short s range links over_m =
    let m = has.original in
    let o = has.sound.result in
    let fit : IsFit wide written o = record { spelled = has.sound.spelled; within = has.sound.limits } in
    let alike = outputs_print_alike file hooks keeps written has o fit s range links in (
      run_has file m s (ending_text m s) (ending_finish m s) short (record { spelled = has.accepted.spelled; within = narrow_wide m has.accepted.limits }) has.accepted.valid
          links refl refl,
      λ steps far.
          let ends = alike.alike over_m steps (alike.ends over_m steps far) in
          run_has written o (with_steps s steps) (ending_text m s) (ending_finish m s) has.sound.short fit has.sound.valid (alike.links steps) (sym ends.text)
          (sym ends.finish),
    )
