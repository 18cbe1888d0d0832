-- What comes of the plan of the mode `tree`.
use Rattle.std.proofs.Common.{◌≡◌, ℕ, List, ◌++◌, sym, ap, ap₂, subst, ◌∙◌, Bool, true, false, IfOk, IfErr, IfSome, Option, Some, None, Result, Ok, Err}
use Rattle.wasm_sem.specs.Types.{Loc, Module}
use Rattle.wasm_sem.specs.declared.Script.{Script}
use Rattle.wasm_sem.specs.Execution.{Summary, Links}
use Rattle.static_info.specs.declared.Info.{Info}
use Rattle.analyses.specs.Tools.{ToolState}
use Rattle.call_tree.specs.declared.Node.{Node}
use Rattle.app_load.specs.declared.printing.Printed.{Printed}
use Rattle.app_load.specs.declared.printing.Refusal.{Refusal}
use Rattle.app_load.specs.declared.printing.Refusal.TheVariants.{NoMemory}
use Rattle.app_load.specs.Outcomes.{IsRefusal, Yields}
use Rattle.app_load.specs.Plans.{Finish, few_groups, not_nested, Ending, refuses, Plan, printing}
use Rattle.outside_io.specs.Outside.{ShelfState}
use Rattle.app_load.specs.Texts.{few_groups_text, not_nested_text}
use Rattle.app_load.proofs.Going.{took_text, was_refused}
use Rattle.app_load.proofs.Within.{Within, WritesNone, FeedsNone, MakesNone}
use Rattle.app_runs.specs.RunTexts.{run_status, run_text}
use Rattle.call_tree.specs.Unnested.{first_unnested}
use Rattle.app_runs.specs.Treeing.{tells_brackets, tree_nodes, nodes_text, tree_items}
use Rattle.wasabi_app.specs.Modes.Tree.{tree_text, where_nested, treed_plan, where_told, tree_scripted, tree_plan, tree_mode}
use Rattle.wasabi_app.specs.Playing.{ending_of, ending_finish}
use Rattle.wasabi_app.specs.ToldRuns.{scripted}
use Rattle.wasabi_app.specs.Words.{Given}
use Rattle.wasabi_app.proofs.ToldRuns.{both_within}
use Rattle.wasabi_app.proofs.Linked.{Plain, writes_plain, feeds_plain, makes_plain, played_links, played_within, finish_statuses, want_of_memory}

-- ---- what comes of a run

module _ (m : Module) (info : Info) (s : Script) (links : Links m s) where
  abbrev printed : Plan
  printed = printing (tree_text m info s) (ending_finish m s)

  abbrev leads : (o : Option Loc) → first_unnested (tree_items m info s) ≡ o → treed_plan m info s ≡ where_nested o printed
  leads o e = played_links m s (where_nested (first_unnested (tree_items m info s)) printed) links ∙ ap (λ (o : Option Loc). where_nested o printed) e

  -- its paths are told
  pub was_treed : (at : ShelfState) (tools : List ToolState) (o : Summary) (nodes : List Node) (result : Result Printed Refusal) → first_unnested (tree_items m info s) ≡ None
      → o ≡ ending_of m s → nodes ≡ tree_nodes (tree_items m info s) → IfOk result (λ t. t.status ≡ run_status o)
      → IfOk result (λ t. t.text.items ≡ run_text s.calls o ++ nodes_text nodes) → IfErr result (λ r. r ≡ NoMemory)
      → Yields (Some (treed_plan m info s)) at at tools tools result
  was_treed at tools o nodes (Ok told) nested ending nodes_are status text none =
      subst (λ p. Yields (Some p) at at tools tools (Ok told)) (sym (leads None nested))
      (took_text (tree_text m info s) (ending_finish m s) at tools told (status ∙ ap run_status ending ∙ sym (finish_statuses (ending_of m s)))
      (text ∙ ap₂ (λ (x : Summary) (ns : List Node). run_text s.calls x ++ nodes_text ns) ending nodes_are))
  was_treed at tools o nodes (Err r) nested ending nodes_are status text none = want_of_memory (treed_plan m info s) at tools r none

  -- or it has none
  pub was_unnested : (p : Loc) (at : ShelfState) (tools : List ToolState) (refusal : Refusal) → first_unnested (tree_items m info s) ≡ Some p → IsRefusal 22 (not_nested_text p) refusal
      → Yields (Some (treed_plan m info s)) at at tools tools (Err refusal)
  was_unnested p at tools refusal e is =
      was_refused (treed_plan m info s) not_nested (not_nested_text p) at tools refusal (leads (Some p) e) is

-- ---- what the information tells of

module _ (script : List ℕ) (m : Module) (info : Info) where
  -- too little
  pub was_short : (at : ShelfState) (tools : List ToolState) (refusal : Refusal) → tells_brackets info ≡ false → IsRefusal 21 few_groups_text refusal
      → Yields (Some (tree_scripted script m info)) at at tools tools (Err refusal)
  was_short at tools refusal e is =
      was_refused (tree_scripted script m info) few_groups few_groups_text at tools refusal
      (ap (λ b. where_told b (scripted script treed_plan m info)) e) is

  -- or enough
  pub with_brackets : (old new : ShelfState) (was is : List ToolState) (result : Result Printed Refusal) → tells_brackets info ≡ true
      → Yields (Some (scripted script treed_plan m info)) old new was is result → Yields (Some (tree_scripted script m info)) old new was is result
  with_brackets old new was is result e y = subst (λ b. Yields (Some (where_told b (scripted script treed_plan m info))) old new was is result) (sym e) y

-- ---- what holds of its endings

module _ (P : Ending → Type 0) (plain : Plain P) (few : (text : List ℕ) → P (refuses few_groups text)) (unnested : (text : List ℕ) → P (refuses not_nested text)) where
  nested_within : (o : Option Loc) (text : List ℕ) (finish : Finish) → Within P (where_nested o (printing text finish))
  nested_within None text finish = plain.prints_well text finish
  nested_within (Some p) text finish = unnested (not_nested_text p)

  told_within : (b : Bool) (plan : Plan) → Within P plan → Within P (where_told b plan)
  told_within true plan within = within
  told_within false plan within = few few_groups_text

  tree_within : (g : Given) → IfSome (tree_mode.plan g) (Within P)
  tree_within g =
      both_within P (tree_plan g.subject) g.info g.script
      (λ _ script m info. told_within (tells_brackets info) (scripted script treed_plan m info)
      (λ s. played_within P m s _ plain (nested_within (first_unnested (tree_items m info s)) (tree_text m info s) (ending_finish m s))))

pub tree_writes_none : (g : Given) → IfSome (tree_mode.plan g) (Within WritesNone)
tree_writes_none g = tree_within WritesNone writes_plain (λ text. tt) (λ text. tt) g

pub tree_feeds_none : (g : Given) → IfSome (tree_mode.plan g) (Within FeedsNone)
tree_feeds_none g = tree_within FeedsNone feeds_plain (λ text. tt) (λ text. tt) g

pub tree_makes_none : (g : Given) → IfSome (tree_mode.plan g) (Within MakesNone)
tree_makes_none g = tree_within MakesNone makes_plain (λ text e. cc) (λ text e. cc) g
