-- A trial tells of the original.
use Rattle.std.proofs.Common.{◌≡◌, ◌∙◌, ℕ, ◌≤◌, List, [], ◌∷◌, length, map, true, refl, sym, ap, ap₂, subst, arith, All, IsTrue, is_some}
use Rattle.wasm_sem.specs.Types.{Module, Event, Selection}
use Rattle.module_ast.specs.Binary.{module_bytes}
use Rattle.module_ast.specs.Validation.Limits.{longest_narrow_file}
use Rattle.hook_select.specs.Events.{group_of}
use Rattle.wasm_sem.specs.declared.Script.{Script}
use Rattle.wasm_sem.specs.Execution.{summary, summary_of, run_of}
use Rattle.wasm_sem.proofs.SoundEntries.{can_link}
use Rattle.instrument.specs.Same.{IsOver, IsPrefix, SameRuns, env_in}
use Rattle.instrument.proofs.OutputSame.{same}
use Rattle.instrument.proofs.Reports as runs
use Rattle.module_gen.specs.Made.{made}
use Rattle.module_gen.proofs.MadeModules.{made_fits, made_narrow, made_short, made_valid}
use Rattle.analyses.specs.declared.Kind.{Kind}
use Rattle.analyses.specs.declared.Kind.TheVariants.{Blocks, Branches, Calls, Memory}
use Rattle.analyses.specs.declared.Row.{Row}
use Rattle.analyses.specs.Book.{book}
use Rattle.analyses.specs.Tools.{ToolState, fresh_tool}
use Rattle.analyses.proofs.Books.{takes_make_book}
use Rattle.app_load.specs.Feeding.{fed, fed_tool}
use Rattle.app_load.specs.Kinds.{all_reports, every_kind, has_kind}
use Rattle.app_runs.specs.RunTexts.{run_text}
use Rattle.wasabi_app.specs.Composing.{TrialTells, selected_events}
use Rattle.wasabi_app.specs.Modes.Trial.{all_hooks, first_steps, second_steps, trial_events, trial_output, trial_script}
use Rattle.app_load.proofs.Fed.{book_after, fed_takes}
use Rattle.wasabi_app.proofs.Alike.{over_alike}
use Rattle.wasabi_app.proofs.Composed.{same_events}
use Rattle.wasabi_app.proofs.TrialLinks.{made_free, same_steps, trial_in_range, trial_links}

-- ---- what is told of a run when it stops

-- Where the first run is over, and the second, both are told alike, whatever their steps are.
texts_alike : (m o : Module) (hooks : Selection) (s t : Script) (n k : ℕ) → SameRuns m hooks o t → ((i : ℕ) → run_of m s i ≡ run_of m t i) → s.calls ≡ t.calls
    → IsOver m s n → IsOver o t k → run_text s.calls (summary_of m s n) ≡ run_text t.calls (summary_of o t k)
texts_alike m o hooks s t n k alike steps calls over_m over_o =
    let over_t : IsOver m t n = ap (λ c. (env_in c).phase) (sym (steps n)) ∙ over_m in
    ap (run_text s.calls) (ap summary (steps n) ∙ sym (over_alike m hooks o t alike n k over_t over_o)) ∙ ap (λ cs. run_text cs (summary_of o t k)) calls

-- ---- what the analyses hold

picked : (k : Kind) → has_kind all_reports k ≡ true
picked Blocks = refl
picked Branches = refl
picked Calls = refl
picked Memory = refl

-- fresh ones of these kinds, which took the events, hold their books
books_held : (es : List Event) (ks : List Kind) → map (λ (t : ToolState). t.book) (fed all_reports es (map fresh_tool ks)) ≡ map (λ (k : Kind). book k es) ks
books_held es [] = refl
books_held es (k ∷ ks) =
    let taken : (fed_tool all_reports es (fresh_tool k)).book ≡ book k es =
    ap (λ (t : ToolState). t.book) (fed_takes all_reports es (fresh_tool k) (picked k)) ∙ book_after (fresh_tool k) es ∙ takes_make_book k es in
    ap₂ (λ (b : List Row) (bs : List (List Row)). b ∷ bs) taken (books_held es ks)

-- ---- a trial

module _ (number : ℕ) where
  pub runs_alike : SameRuns (made number) all_hooks (trial_output number) (trial_script number second_steps)
  runs_alike =
      let short : length (module_bytes (made number)) ≤ longest_narrow_file = made_short number in
      (same (made number) all_hooks (made_valid number) (made_narrow number) (omega (arith, short)) (made_fits number) (made_free number)).runs
      (trial_script number second_steps) (trial_in_range number second_steps (omega arith) (omega arith)).writes
      (can_link (made number) (trial_script number second_steps) (trial_links number second_steps))

  pub trial_tells : TrialTells number
  trial_tells =
      let m = made number in
      let o = trial_output number in
      let s = trial_script number second_steps in
      let told = runs.reports_compose m all_hooks o s runs_alike s.steps in
      let e = same_events m all_hooks o s s.steps in
      record {
        whole = λ over. sym e ∙ told.all over;
        books = λ over. books_held (trial_events number) every_kind ∙ ap (λ es. map (λ (k : Kind). book k es) every_kind) (sym e ∙ told.all over);
        begun = subst (λ es. IsPrefix es (selected_events m all_hooks s s.steps)) e told.some;
        no_stray = subst (All (λ (e : Event). IsTrue (is_some (group_of e)))) e told.no_stray;
        texts = λ over_m over_o.
            texts_alike m o all_hooks (trial_script number first_steps) s first_steps second_steps runs_alike
            (λ i. same_steps m number first_steps second_steps i) refl over_m over_o;
      }
