-- The output of a module, as it is read again, and what is told of both.
use Rattle.std.proofs.Common.{◌≡◌, ◌∙◌, ◌⊎◌, inl, inr, ℕ, ◌≤◌, List, length, sym, ap, subst, arith, Result, Ok, Err, IfOk, OnOk}
use Rattle.wasm_sem.specs.Types.{Module, Event}
use Rattle.module_ast.specs.Binary.{module_bytes, Gram}
use Rattle.module_ast.specs.Validation.{wide, longest_file, longest_narrow_file}
use Rattle.module_ast.specs.Structure.{funcs_of}
use Rattle.wasm_sem.specs.declared.Script.{Script}
use Rattle.wasm_sem.specs.Execution.{Summary, summary_of}
use Rattle.static_info.specs.Belongs.{Belongs}
use Rattle.static_info.specs.Info.{info_of}
use Rattle.static_info.specs.declared.Info.{Info}
use Rattle.instrument.specs.Made.{IsMade}
use Rattle.instrument.specs.Output.{output, output_bytes}
use Rattle.instrument.proofs.OutputShell.{output_has_shell}
use Rattle.instrument.proofs.OutputSpelled.{output_is_spelled}
use Rattle.module_gen.specs.Made.{made}
use Rattle.module_gen.proofs.MadeModules.{made_fits, made_narrow, made_short, made_valid}
use Rattle.analyses.specs.Tools.{ToolState}
use Rattle.report.specs.Text.{events_text}
use Rattle.report.proofs.Pieces.{on_err}
use Rattle.app_load.specs.declared.printing.Printed.{Printed}
use Rattle.app_load.specs.Feeding.{fed, AreFedPart}
use Rattle.app_load.specs.Files.{IsFit}
use Rattle.app_load.specs.declared.kinds.Kinds.{Kinds}
use Rattle.app_load.specs.Kinds.{all_reports}
use Rattle.app_load.proofs.Files.{one_module}
use Rattle.app_runs.specs.declared.feeding.Tally.{Tally}
use Rattle.app_runs.specs.Feeding.{tally_of}
use Rattle.app_runs.specs.Reporting.{events_told}
use Rattle.app_runs.specs.RunTexts.{run_status, run_text}
use Rattle.wasabi_app.specs.Making.{output_length}
use Rattle.wasabi_app.specs.Trying.{AreTried, IsRun, IsTold, IsTriable}
use Rattle.wasabi_app.specs.Modes.Trial.{all_hooks, front_text, pair_front, runs_text, sizes_text, told_of_run, trial_script}
use Rattle.app_load.proofs.Fed.{all_part, none_part}
use Rattle.wasabi_app.proofs.Composed.{shell_belongs}
use Rattle.wasabi_app.proofs.Linked.{finish_statuses}
use Rattle.wasabi_app.proofs.TrialLinks.{made_free}

-- ---- the two modules

pub made_triable : (number : ℕ) → IsTriable (made number)
made_triable number = record {
  valid = made_valid number;
  limits = made_narrow number;
  fits = made_fits number;
  short = made_short number;
  free = made_free number;
}

module _ (m : Module) (t : IsTriable m) where
  spelled : output_length m all_hooks ≤ longest_file → Gram (output_bytes m all_hooks) (output m all_hooks)
  spelled few =
      let short : length (module_bytes m) ≤ longest_narrow_file = t.short in
      output_is_spelled m all_hooks t.valid t.limits t.fits (omega (arith, short)) (omega (arith, few))

  -- what the bytes of the output are read as
  pub output_read : (bytes : List ℕ) (info : Info) (o : Module) → IsMade m all_hooks bytes info → output_length m all_hooks ≤ longest_file → IsFit wide bytes o
      → o ≡ output m all_hooks
  output_read bytes info o made few fit =
      one_module (output_bytes m all_hooks) o (output m all_hooks) (subst (λ (b : List ℕ). IsFit wide b o) made.written fit).spelled (spelled few)

  pub output_belongs : (bytes : List ℕ) (info : Info) (o : Module) → IsMade m all_hooks bytes info → output_length m all_hooks ≤ longest_file → IsFit wide bytes o
      → Belongs info o
  output_belongs bytes info o made few fit =
      let same = output_read bytes info o made few fit in
      subst (λ i. Belongs i o) (sym made.information)
      (subst (Belongs (info_of m all_hooks)) (sym same) (shell_belongs m all_hooks (output m all_hooks) t.free (output_has_shell m all_hooks t.valid t.fits.counts)))

-- where memory ended in the run, or it did not begin
pub part_stands : {P Q : Type 0} (kinds : Kinds) (es : List Event) (first now : List ToolState)
    → (now ≡ first) ⊎ (P × Q × AreFedPart kinds es first now) → AreFedPart kinds es first now
part_stands kinds es first now (inl same) = subst (AreFedPart kinds es first) (sym same) (none_part kinds es first)
part_stands kinds es first now (inr (p, q, part)) = part

pub on_ok : {T E P : Type 0} (r : Result T E) → P → OnOk r P
on_ok (Ok x) p = p
on_ok (Err e) p = tt

-- ---- the run of an output

-- memory ended before it
pub not_run : {E : Type 0} (number steps : ℕ) (front : List ℕ) (o : Module) (info : Info) (was : List ToolState) (e : E)
    → IsRun number steps front o info was was (Err e)
not_run number steps front o info was e = record {
  told = tt;
  fed = tt;
  part = none_part all_reports (events_told info o (trial_script number steps) steps) was;
}

module _ (number steps : ℕ) (front : List ℕ) (o : Module) (info : Info) (s : Script) (script_is : s ≡ trial_script number steps) where
  events_are : events_told info o s s.steps ≡ events_told info o (trial_script number steps) steps
  events_are = ap (λ (x : Script). events_told info o x x.steps) script_is

  summary_is : summary_of o s s.steps ≡ summary_of o (trial_script number steps) steps
  summary_is = ap (λ (x : Script). summary_of o x x.steps) script_is

  told_so : {E : Type 0} (ended : Summary) (tally : Tally) (result : Result Printed E) → ended ≡ summary_of o s s.steps
      → tally ≡ tally_of (events_told info o s s.steps) → IfOk result (λ t. t.status ≡ run_status ended)
      → IfOk result (λ t. t.text.items ≡ runs_text front (run_text s.calls ended) (events_text tally.events tally.strays))
      → IfOk result (IsTold number steps front o info)
  told_so ended tally (Err e) _ _ _ _ = tt
  told_so ended tally (Ok t) ended_is tally_is status text =
      let whole = ended_is ∙ summary_is in
      let second = ap (λ (x : Script). run_text x.calls ended) script_is ∙ ap (run_text (trial_script number steps).calls) whole in
      let counted = tally_is ∙ ap tally_of events_are in
      record {
        status = status ∙ ap run_status whole ∙ sym (finish_statuses (summary_of o (trial_script number steps) steps));
        text =
            text ∙ ap (λ x. runs_text front x (events_text tally.events tally.strays)) second
            ∙ ap (λ (x : Tally). runs_text front (told_of_run number steps o) (events_text x.events x.strays)) counted;
      }

  -- it ended, or made its steps
  pub was_run : {E : Type 0} (ended : Summary) (tally : Tally) (was is : List ToolState) (result : Result Printed E) → ended ≡ summary_of o s s.steps
      → tally ≡ tally_of (events_told info o s s.steps) → is ≡ fed all_reports (events_told info o s s.steps) was
      → IfOk result (λ t. t.status ≡ run_status ended)
      → IfOk result (λ t. t.text.items ≡ runs_text front (run_text s.calls ended) (events_text tally.events tally.strays))
      → IsRun number steps front o info was is result
  was_run ended tally was is result ended_is tally_is taken status text =
      let es = events_told info o (trial_script number steps) steps in
      let all = taken ∙ ap (λ (l : List Event). fed all_reports l was) events_are in
      record {
        told = told_so ended tally result ended_is tally_is status text;
        fed = on_ok result all;
        part = on_err result (subst (AreFedPart all_reports es was) (sym all) (all_part all_reports es was));
      }

  -- memory ended in it
  pub part_run : {P Q E : Type 0} (was is : List ToolState) (e : E) → (is ≡ was) ⊎ (P × Q × AreFedPart all_reports (events_told info o s s.steps) was is)
      → IsRun number steps front o info was is (Err e)
  part_run was is e stands =
      let part = part_stands all_reports (events_told info o s s.steps) was is stands in
      record { told = tt; fed = tt; part = subst (λ (l : List Event). AreFedPart all_reports l was is) events_are part }

-- ---- both runs

module _ (number first second : ℕ) (m : Module) (bytes : List ℕ) (info : Info) (made : IsMade m all_hooks bytes info) where
  pub front_is : front_text (sizes_text number (length (module_bytes m)) (length (funcs_of m)) (length bytes) (length info.hooks)) (told_of_run number first m)
      ≡ pair_front number first m
  front_is =
      let count : List ℕ → Info → List ℕ = λ b i.
      front_text (sizes_text number (length (module_bytes m)) (length (funcs_of m)) (length b) (length i.hooks)) (told_of_run number first m) in
      ap (λ b. count b info) made.written ∙ ap (count (output_bytes m all_hooks)) made.information

  -- the output that was run is the module's
  pub both_run : {E : Type 0} (front : List ℕ) (o : Module) (was is : List ToolState) (result : Result Printed E)
      → front ≡ front_text (sizes_text number (length (module_bytes m)) (length (funcs_of m)) (length bytes) (length info.hooks)) (told_of_run number first m)
      → o ≡ output m all_hooks → IsRun number second front o info was is result → AreTried number first second m was is result
  both_run front o was is result front_was output_is run =
      subst (λ i. IsRun number second (pair_front number first m) (output m all_hooks) i was is result) made.information
      (subst (λ x. IsRun number second (pair_front number first m) x info was is result) output_is
      (subst (λ f. IsRun number second f o info was is result) (front_was ∙ front_is) run))

-- equal sizes are told alike
pub sizes_alike : (number a b c d e f g h : ℕ) → a ≡ e → b ≡ f → c ≡ g → d ≡ h → sizes_text number a b c d ≡ sizes_text number e f g h
sizes_alike number a b c d e f g h bytes functions output hooks =
    ap (λ n. sizes_text number n b c d) bytes ∙ ap (λ n. sizes_text number e n c d) functions ∙ ap (λ n. sizes_text number e f n d) output
    ∙ ap (sizes_text number e f g) hooks
