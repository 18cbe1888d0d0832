-- A subject, the information on its original and a script that were loaded, and what came of the rest.
use Rattle.std.proofs.Common.{◌≡◌, ℕ, List, Bool, Bor, ap, ap₂, IfSome, Option, Some, None, option_map, Result}
use Rattle.outside_io.specs.Outside.{OnlyRead}
use Rattle.wasm_sem.specs.Types.{Module}
use Rattle.module_ast.specs.Validation.{wide, longest_file}
use Rattle.wasm_sem.specs.declared.Script.{Script}
use Rattle.name_map.specs.declared.Names.{Names}
use Rattle.static_info.specs.declared.Info.{Info}
use Rattle.analyses.specs.Tools.{ToolState}
use Rattle.app_load.specs.declared.printing.Printed.{Printed}
use Rattle.app_load.specs.declared.printing.Refusal.{Refusal}
use Rattle.app_load.specs.Outcomes.{Yields}
use Rattle.app_load.specs.Plans.{Ending, Plan}
use Rattle.outside_io.specs.Outside.{ShelfState}
use Rattle.app_load.specs.Wants.{Gives, module_read, named_read, script_read, info_read}
use Rattle.app_load.proofs.Going.{went_on}
use Rattle.app_load.proofs.Within.{Within}
use Rattle.wasabi_app.specs.ToldRuns.{with_both, scripted, informed, told_run, named_run}

-- ---- what the words give

module _ (next : List ℕ → List ℕ → Plan) (info script : Option (Bor (List ℕ))) where
  abbrev plan_by : (info script : Option (Bor (List ℕ))) → Option Plan
  plan_by i s = with_both next (option_map (λ (t : Bor (List ℕ)). t.now) i) (option_map (λ (t : Bor (List ℕ)). t.now) s)

  -- both
  pub both_given : (i s : Bor (List ℕ)) → info ≡ Some i → script ≡ Some s → plan_by info script ≡ Some (next i.now s.now)
  both_given i s e f = ap₂ plan_by e f

  -- or one of them is missing
  pub no_info : info ≡ None → plan_by info script ≡ None
  no_info e = ap (λ (i : Option (Bor (List ℕ))). plan_by i script) e

  pub no_script : (i : Bor (List ℕ)) → info ≡ Some i → script ≡ None → plan_by info script ≡ None
  no_script i e f = ap₂ plan_by e f

-- what holds of the endings of each plan holds of this one's
pub both_within : (P : Ending → Type 0) (next : List ℕ → List ℕ → Plan) (info script : Option (List ℕ)) → ((i s : List ℕ) → Within P (next i s))
    → IfSome (with_both next info script) (Within P)
both_within P next None script within = tt
both_within P next (Some i) None within = tt
both_within P next (Some i) (Some s) within = within i s

-- ---- what is read

module _ (info_name script_name : List ℕ) (next : Module → Info → Script → Plan) (m : Module) (a b c : ShelfState) (was is : List ToolState) (result : Result Printed Refusal) where
  pub with_subject : (subject : List ℕ) → Gives a.contents (module_read subject longest_file wide) m → OnlyRead 1 a b → Yields (Some (informed info_name script_name next m)) b c was is result
      → Yields (Some (told_run subject info_name script_name next)) a c was is result
  with_subject subject = went_on (module_read subject longest_file wide) (informed info_name script_name next) m a b c was is result

  pub with_info : (info : Info) → Gives a.contents (info_read info_name m) info → OnlyRead 1 a b → Yields (Some (scripted script_name next m info)) b c was is result
      → Yields (Some (informed info_name script_name next m)) a c was is result
  with_info info = went_on (info_read info_name m) (scripted script_name next m) info a b c was is result

pub with_script : (script_name : List ℕ) (next : Module → Info → Script → Plan) (m : Module) (a b c : ShelfState) (was is : List ToolState)
    (result : Result Printed Refusal) (info : Info) (s : Script) → Gives a.contents (script_read script_name) s → OnlyRead 1 a b → Yields (Some (next m info s)) b c was is result
    → Yields (Some (scripted script_name next m info)) a c was is result
with_script script_name next m a b c was is result info s = went_on (script_read script_name) (next m info) s a b c was is result

-- a subject with its names
pub with_named : (keeps : Bool) (subject info_name script_name : List ℕ) (next : Module → Names → Info → Script → Plan) (m : Module) (kept : Names)
    (a b c : ShelfState) (was is : List ToolState) (result : Result Printed Refusal) → Gives a.contents (named_read subject longest_file wide keeps) (m, kept)
    → OnlyRead 1 a b
    → Yields (Some (informed info_name script_name (λ x. next x kept) m)) b c was is result
    → Yields (Some (named_run keeps subject info_name script_name next)) a c was is result
with_named keeps subject info_name script_name next m kept a b c was is result =
    went_on (named_read subject longest_file wide keeps) (λ named. informed info_name script_name (λ x. next x named.1) named.0) (m, kept) a b c was is result
