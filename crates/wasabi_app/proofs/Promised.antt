-- What stands where the work of a mode was done.
use Rattle.std.proofs.Common.{◌≡◌, ℕ, inl, inr, List, codes, Bool, true, false, Option, Some, None, option_map, option_and_then, nat_le, refl, sym, ap, ap₂, subst, ◌∙◌}
use Rattle.module_ast.specs.Validation.Limits.{longest_file}
use Rattle.outside_io.specs.Outside.{Contents}
use Rattle.wasm_sem.specs.Types.{Loc}
use Rattle.wasm_sem.specs.Execution.{link, Links, most_slots}
use Rattle.run_session.proofs.InRange.{script_in_range}
use Rattle.call_tree.specs.Paths.{paths}
use Rattle.call_tree.specs.State.{path_counts_in}
use Rattle.module_gen.specs.Made.{made}
use Rattle.analyses.specs.Tools.{ToolState}
use Rattle.app_load.specs.Statuses as statuses
use Rattle.app_load.specs.Ends.{IsCarriedOut, Ends}
use Rattle.app_load.specs.Plans.{Effect, does, prints, Plan, ends, printing, LeadsTo}
use Rattle.outside_io.specs.Outside.{ShelfState, PrintState}
use Rattle.app_load.proofs.Files.{one_module}
use Rattle.app_load.proofs.Telling.{tells_at}
use Rattle.call_tree.specs.Unnested.{first_unnested}
use Rattle.call_tree.proofs.Unnested.{bad_has}
use Rattle.app_runs.specs.Treeing.{tells_brackets, tree_items}
use Rattle.wasabi_app.specs.Making.{output_length}
use Rattle.wasabi_app.specs.Modes.{plan_in, plan_of}
use Rattle.wasabi_app.specs.Modes.Instrument.{bounded}
use Rattle.wasabi_app.specs.Modes.Record.{record_plan}
use Rattle.wasabi_app.specs.Modes.Report.{report_plan, report_effect}
use Rattle.wasabi_app.specs.Modes.Taint.{taint_plan}
use Rattle.wasabi_app.specs.Modes.Tree.{tree_text, where_nested, treed_plan, where_told, tree_plan}
use Rattle.wasabi_app.specs.Modes.Trial.{all_hooks, first_steps, second_steps, trial_plan, pair_effect}
use Rattle.wasabi_app.specs.Playing.{ending_finish}
use Rattle.wasabi_app.specs.Promised.{IsWorkDone, WasPrinted, Made, PrintsReports, IsReported, IsRecorded, PrintsTree, IsTreed, PrintsTrial, IsTried, IsWarnedOf}
use Rattle.wasabi_app.specs.Replaying.{IsReplayed}
use Rattle.wasabi_app.specs.Tagging.{PrintsTagged}
use Rattle.wasabi_app.specs.ToldRuns.{scripted, with_both}
use Rattle.wasabi_app.specs.Words.{Asks, Given}
use Rattle.wasabi_app.proofs.Composed.{outputs_report}
use Rattle.wasabi_app.proofs.Nesting.{nodes_count}
use Rattle.wasabi_app.proofs.Tagged.{played_leads, taints_tell}
use Rattle.wasabi_app.proofs.Traces.{recordings_replay}
use Rattle.wasabi_app.proofs.TrialEnds.{trial_ends}
use Rattle.wasabi_app.proofs.TrialTold.{trial_tells}

-- ---- an effect that was made

-- where the work was done, the plan led to an effect, which was made
work_made : (plan : Option Plan) (old new : ShelfState) (was is : List ToolState) (before after : PrintState) (status : ℕ)
    → Ends plan old new was is before after status → IsWorkDone status
    → (e : Effect) × IsCarriedOut plan old new was is e × WasPrinted e status before.text after.text
work_made plan old new was is before after status x (inl class) =
    let t = tells_at status statuses.of_effects x class in
    (t.0, t.1, inl (sym t.2, t.3))
work_made plan old new was is before after status x (inr broken) =
    let t = tells_at 15 statuses.of_prints (subst (Ends plan old new was is before after) broken x) refl in
    (t.1.0, t.1.1, inr (broken, t.1.2))

-- so for words that ask for a mode with this plan, which makes no effect but those of which this holds
by_mode : (mode : List ℕ) (g : Given) (plan : Plan) (Holds : Effect → Type 0) (words : List (List ℕ)) (old new : ShelfState) (was is : List ToolState)
    (before after : PrintState) (status : ℕ) → plan_in mode g ≡ Some plan → ((e : Effect) → LeadsTo old.contents plan (does e) → Holds e)
    → Ends (plan_of words) old new was is before after status → Asks words mode g → IsWorkDone status
    → Made Holds old new was is before after status
by_mode mode g plan Holds words old new was is before after status plans holds x (read, named) done =
    let is_plan : plan_of words ≡ Some plan =
    ap (option_and_then (λ (h : Given). plan_in h.mode h)) read ∙ ap (λ name. plan_in name g) named ∙ plans in
    let t = work_made (Some plan) old new was is before after status (subst (λ p. Ends p old new was is before after status) is_plan x) done in
    (t.0, holds t.0 t.1.leads, record { files = t.1.files; taken = t.1.taken; printed = t.2 })

-- ---- `report`

reports_told : (held : Option Contents) (g : Given) (info_name script_name : List ℕ) (e : Effect)
    → LeadsTo held (report_plan g.subject info_name script_name g.kinds g.keeps) (does e) → PrintsReports held g info_name script_name e
reports_told held g _ _ e ((m, carried), there, (info, known, (s, found, leads))) =
    let ran = played_leads held s (link m s) (ends (does (report_effect g.kinds g.keeps m carried info s))) e leads in
    let is : does (report_effect g.kinds g.keeps m carried info s) ≡ does e = ran.1 in
    let (d, _, spelled) = found.spelled in
    record {
      subject = m;
      carried = carried;
      info = info;
      script = s;
      subject_there = there;
      info_there = known;
      script_there = found;
      links = ran.0;
      is = cc;
      of_output = λ file hooks keeps has holds.
          let range = script_in_range d s spelled in
          let module_is : has.sound.result ≡ m = one_module there.bytes has.sound.result m has.sound.spelled there.spelled.0.spelled in
          let both : Links has.original s = sym (has.sound.same.links most_slots s) ∙ subst (λ x. Links x s) (sym module_is) ran.0 in
          (outputs_report file hooks keeps there.bytes has m there.spelled.0 known.bytes info holds known.spelled.0 s range both).2 s.steps;
    }

pub reported : (words : List (List ℕ)) (old new : ShelfState) (was is : List ToolState) (before after : PrintState) (status : ℕ)
    → Ends (plan_of words) old new was is before after status → IsReported words old new was is before after status
reported words old new was is before after status x g info script asks info_is script_is done =
    by_mode (codes "report") g (report_plan g.subject info script g.kinds g.keeps) (PrintsReports old.contents g info script) words old new was is before after status
    (ap₂ (with_both (λ i s. report_plan g.subject i s g.kinds g.keeps)) info_is script_is) (reports_told old.contents g info script) x asks done

-- ---- `record`

pub recorded : (words : List (List ℕ)) (old new : ShelfState) (was is : List ToolState) (before after : PrintState) (status : ℕ)
    → Ends (plan_of words) old new was is before after status → IsRecorded words old new was is before after status
recorded words old new was is before after status x g target info script asks target_is info_is script_is done =
    let next : List ℕ → Option Plan = λ t. with_both (λ i s. record_plan g.subject t i s g.bound) g.info g.script in
    by_mode (codes "record") g (record_plan g.subject target info script g.bound) (IsReplayed old.contents g.subject target info script) words old new was is before after
    status
    (ap (option_and_then next) target_is ∙ ap₂ (with_both (λ i s. record_plan g.subject target i s g.bound)) info_is script_is)
    (λ e leads. recordings_replay words g target info script asks.0 old.contents e leads) x asks done

-- ---- `tree`

nested_leads : (held : Option Contents) (o : Option Loc) (plan : Plan) (e : Effect) → LeadsTo held (where_nested o plan) (does e)
    → (o ≡ None) × LeadsTo held plan (does e)
nested_leads held None plan e k = (refl, k)
nested_leads held (Some p) plan e k = cc

told_leads : (held : Option Contents) (told : Bool) (plan : Plan) (e : Effect) → LeadsTo held (where_told told plan) (does e)
    → (told ≡ true) × LeadsTo held plan (does e)
told_leads held true plan e k = (refl, k)
told_leads held false plan e k = cc

tree_told : (held : Option Contents) (g : Given) (info_name script_name : List ℕ) (e : Effect)
    → LeadsTo held (tree_plan g.subject info_name script_name) (does e) → PrintsTree held g info_name script_name e
tree_told held g _ script_name e (m, there, (info, known, leads)) =
    let behind = told_leads held (tells_brackets info) (scripted script_name treed_plan m info) e leads in
    let (s, found, ran) = behind.1 in
    let played = played_leads held s (link m s) (where_nested (first_unnested (tree_items m info s)) (printing (tree_text m info s) (ending_finish m s))) e ran in
    let nested = nested_leads held (first_unnested (tree_items m info s)) (printing (tree_text m info s) (ending_finish m s)) e played.1 in
    let effect : prints (tree_text m info s) (ending_finish m s) ≡ e = (let is : does (prints (tree_text m info s) (ending_finish m s)) ≡ does e = nested.1 in cc) in
    record {
      subject = m;
      info = info;
      script = s;
      subject_there = there;
      info_there = known;
      script_there = found;
      links = played.0;
      told = behind.0;
      nested = λ bad. (let (p, place) = bad_has (tree_items m info s) bad in let none = nested.0 in cc);
      counts = path_counts_in (paths (tree_items m info s));
      counted = λ path. nodes_count (tree_items m info s) path;
      text = ap (λ (x : Effect). x.text) (sym effect);
      finish = ap (λ (x : Effect). x.finish) (sym effect);
    }

pub treed : (words : List (List ℕ)) (old new : ShelfState) (was is : List ToolState) (before after : PrintState) (status : ℕ)
    → Ends (plan_of words) old new was is before after status → IsTreed words old new was is before after status
treed words old new was is before after status x g info script asks info_is script_is done =
    by_mode (codes "tree") g (tree_plan g.subject info script) (PrintsTree old.contents g info script) words old new was is before after status
    (ap₂ (with_both (tree_plan g.subject)) info_is script_is) (tree_told old.contents g info script) x asks done

-- ---- `trial`

bounded_leads : (held : Option Contents) (within : Bool) (long : ℕ) (plan : Plan) (e : Effect) → LeadsTo held (bounded within long plan) (does e)
    → LeadsTo held plan (does e)
bounded_leads held true long plan e k = k
bounded_leads held false long plan e k = cc

trial_told : (held : Option Contents) (number : ℕ) (e : Effect) → LeadsTo held (trial_plan number) (does e) → PrintsTrial number e
trial_told held number e leads =
    let effect = pair_effect number first_steps second_steps (made number) in
    let long = output_length (made number) all_hooks in
    let is : does effect ≡ does e = bounded_leads held (nat_le long longest_file) long (ends (does effect)) e leads in
    record { is = cc; ends = trial_ends number; tells = trial_tells number }

pub tried : (words : List (List ℕ)) (old new : ShelfState) (was is : List ToolState) (before after : PrintState) (status : ℕ)
    → Ends (plan_of words) old new was is before after status → IsTried words old new was is before after status
tried words old new was is before after status x g number asks number_is done =
    by_mode (codes "trial") g (trial_plan number) (PrintsTrial number) words old new was is before after status
    (ap (option_map trial_plan) number_is) (trial_told old.contents number) x asks done

-- ---- `taint`

pub warned : (words : List (List ℕ)) (old new : ShelfState) (was is : List ToolState) (before after : PrintState) (status : ℕ)
    → Ends (plan_of words) old new was is before after status → IsWarnedOf words old new was is before after status
warned words old new was is before after status x g script asks script_is done =
    by_mode (codes "taint") g (taint_plan g script) (PrintsTagged old.contents g script) words old new was is before after status
    (ap (option_map (taint_plan g)) script_is) (taints_tell old.contents g script) x asks done
