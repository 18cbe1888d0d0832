-- A subject, an information and a script that were loaded for reports: they do not link, or they were run.
use Rattle.app_load.proofs.Going.{made_here}
use Rattle.std.proofs.Common.{◌≡◌, ℕ, ◌⊎◌, Bool, List, ◌++◌, refl, inl, inr, sym, ap, ap₂, subst, ◌∙◌, Some, Result, Ok, Err, IfOk, IfErr}
use Rattle.wasm_sem.specs.Types.{Module}
use Rattle.wasm_sem.specs.declared.Script.{Script}
use Rattle.wasm_sem.specs.Execution.{Summary, link, Links}
use Rattle.run_session.specs.declared.link.LinkFault.{LinkFault}
use Rattle.run_session.specs.declared.link.LinkFault.TheVariants.{NoMemory}
use Rattle.run_session.specs.Linking.{TellsRefusal}
use Rattle.name_map.specs.declared.Names.{Names}
use Rattle.static_info.specs.declared.Info.{Info}
use Rattle.analyses.specs.Tools.{ToolState}
use Rattle.app_load.specs.declared.kinds.Kinds.{Kinds}
use Rattle.app_runs.specs.declared.feeding.Tally.{Tally}
use Rattle.app_load.specs.declared.printing.Printed.{Printed}
use Rattle.app_load.specs.declared.printing.Refusal.{Refusal}
use Rattle.app_load.specs.declared.printing.Refusal.TheVariants as refusals
use Rattle.app_runs.specs.Reporting.{tools_text, events_told, reports_text}
use Rattle.app_load.specs.Feeding.{fed, AreFedPart, fresh_tools}
use Rattle.app_runs.specs.Feeding.{tally_of}
use Rattle.outside_io.specs.Outside.{ShelfState}
use Rattle.app_runs.specs.RunTexts.{run_status, run_text}
use Rattle.app_runs.specs.ToldNames.{functions_told, names_among, original_names, tools_functions, with_kept}
use Rattle.wasabi_app.specs.Modes.Report.{report_effect, reported_plan}
use Rattle.app_load.specs.Ends.{memory_ended}
use Rattle.app_runs.specs.Linking.{IsUnlinked}
use Rattle.app_load.specs.Outcomes.{Yields}
use Rattle.app_load.specs.Plans.{does, ends}
use Rattle.wasabi_app.specs.Playing.{ending_of}
use Rattle.app_load.proofs.Contents.{none_read}
use Rattle.app_load.proofs.Fed.{all_part}
use Rattle.app_runs.proofs.FedReports.{fed_reports, fed_functions}
use Rattle.wasabi_app.proofs.Linked.{was_unlinked, played_links, finish_statuses}

-- ---- what the analyses took

-- some of the events, where memory ended on the way
took_part : (kinds : Kinds) (keeps : Bool) (names : Names) (info : Info) (m : Module) (s : Script) (at : ShelfState) (first now : List ToolState) (refusal : Refusal)
    → refusal ≡ refusals.NoMemory → Links m s → AreFedPart kinds (events_told info m s s.steps) first now
    → Yields (Some (reported_plan kinds keeps m names info s)) at at first now (Err refusal)
took_part kinds keeps names info m s at first now refusal none l part =
    subst (λ r. Yields (Some (reported_plan kinds keeps m names info s)) at at first now (Err r)) (sym none)
    (subst (λ p. Yields (Some p) at at first now (Err refusals.NoMemory)) (sym (played_links m s (ends (does (report_effect kinds keeps m names info s))) l))
    (memory_ended 0 tt (none_read at) (inr (report_effect kinds keeps m names info s, refl, part))))

-- ---- the run

-- what a run came to, and what was taken of it
pub record IsRunOf (kinds : Kinds) (m : Module) (info : Info) (s : Script) (o : Summary) (tally : Tally) (first now : List ToolState) : Type 0 where
  pub links : Links m s
  pub ended : o ≡ ending_of m s
  pub counted : tally ≡ tally_of (events_told info m s s.steps)
  pub taken : now ≡ fed kinds (events_told info m s s.steps) first
  pub fresh : first ≡ fresh_tools

text_of : (kinds : Kinds) (keeps : Bool) (m : Module) (names : Names) (info : Info) (s : Script) (o : Summary) (tally : Tally) (first now : List ToolState)
    → IsRunOf kinds m info s o tally first now
    → with_kept keeps (run_text s.calls o ++ tools_text kinds now tally) (names_among (tools_functions kinds now) (original_names info names))
    ≡ (report_effect kinds keeps m names info s).text
text_of kinds keeps m names info s o tally first now p =
    let es = events_told info m s s.steps in
    let ready : now ≡ fed kinds es fresh_tools = p.taken ∙ ap (fed kinds es) p.fresh in
    let tools : tools_text kinds now tally ≡ reports_text kinds es =
    ap (λ ts. tools_text kinds ts tally) ready ∙ ap (tools_text kinds (fed kinds es fresh_tools)) p.counted ∙ fed_reports kinds es in
    let functions : tools_functions kinds now ≡ functions_told kinds es = ap (tools_functions kinds) ready ∙ fed_functions kinds es in
    ap₂ (with_kept keeps) (ap₂ (λ (x y : List ℕ). x ++ y) (ap (run_text s.calls) p.ended) tools)
    (ap (λ fs. names_among fs (original_names info names)) functions)

-- it is told
pub was_reported : (kinds : Kinds) (keeps : Bool) (m : Module) (names : Names) (info : Info) (s : Script) (o : Summary) (tally : Tally) (first now : List ToolState) (at : ShelfState)
    (result : Result Printed Refusal) → IsRunOf kinds m info s o tally first now → IfOk result (λ t. t.status ≡ run_status o)
    → IfOk result (λ t. t.text.items
    ≡ with_kept keeps (run_text s.calls o ++ tools_text kinds now tally) (names_among (tools_functions kinds now) (original_names info names))) → IfErr result (λ r. r ≡ refusals.NoMemory)
    → Yields (Some (reported_plan kinds keeps m names info s)) at at first now result
was_reported kinds keeps m names info s o tally first now at (Ok told) p status text none =
    subst (λ plan. Yields (Some plan) at at first now (Ok told)) (sym (played_links m s (ends (does (report_effect kinds keeps m names info s))) p.links)) (
      report_effect kinds keeps m names info s,
      made_here (report_effect kinds keeps m names info s) at first now refl p.taken,
      status ∙ ap run_status p.ended ∙ sym (finish_statuses (ending_of m s)),
      text ∙ text_of kinds keeps m names info s o tally first now p,
    )
was_reported kinds keeps m names info s o tally first now at (Err r) p status text none =
    let es = events_told info m s s.steps in
    took_part kinds keeps names info m s at first now r none p.links (subst (AreFedPart kinds es first) (sym p.taken) (all_part kinds es first))

-- it was not made, or memory ended on the way
pub not_reported : (kinds : Kinds) (keeps : Bool) (m : Module) (names : Names) (info : Info) (s : Script) (fault : LinkFault) (first now : List ToolState) (at : ShelfState) (refusal : Refusal)
    → TellsRefusal fault (link m s) → IsUnlinked s.calls fault refusal
    → (now ≡ first) ⊎ ((fault ≡ NoMemory) × Links m s × AreFedPart kinds (events_told info m s s.steps) first now)
    → Yields (Some (reported_plan kinds keeps m names info s)) at at first now (Err refusal)
not_reported kinds keeps m names info s fault first now at refusal tells is (inl same) =
    subst (λ ts. Yields (Some (reported_plan kinds keeps m names info s)) at at first ts (Err refusal)) (sym same)
    (was_unlinked m s fault (ends (does (report_effect kinds keeps m names info s))) at first refusal tells is)
not_reported kinds keeps m names info s fault first now at refusal tells is (inr (none, l, part)) =
    took_part kinds keeps names info m s at first now refusal (subst (λ f. IsUnlinked s.calls f refusal) none is) l part
