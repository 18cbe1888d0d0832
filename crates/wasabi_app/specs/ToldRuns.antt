-- A subject, the information on its original and a script, read one after the other.
use Rattle.std.specs.Prelude.{ℕ, List, Bool, Option, Some, None, Result, Err}
use Rattle.wasm_sem.specs.Types.{Module}
use Rattle.module_ast.specs.Validation.{wide, longest_file}
use Rattle.wasm_sem.specs.declared.Script.{Script}
use Rattle.name_map.specs.declared.Names.{Names}
use Rattle.static_info.specs.declared.Info.{Info}
use Rattle.analyses.specs.Tools.{ToolState}
use Rattle.app_load.specs.declared.printing.Printed.{Printed}
use Rattle.app_load.specs.declared.printing.Refusal.{Refusal}
use Rattle.app_load.specs.Outcomes.{Yields}
use Rattle.app_load.specs.Plans.{Plan, reads}
use Rattle.outside_io.specs.Outside.{ShelfState}
use Rattle.app_load.specs.Wants.{module_read, named_read, script_read, info_read}

-- the plan needs both the information and the script
abbrev pub with_both : (List ℕ → List ℕ → Plan) → (info script : Option (List ℕ)) → Option Plan
with_both next None script = None
with_both next (Some info) None = None
with_both next (Some info) (Some script) = Some (next info script)

-- the script is read, and the next plan takes the module, the information and the script
abbrev pub scripted : (script : List ℕ) → (Module → Info → Script → Plan) → Module → Info → Plan
scripted script next m info = reads (script_read script) (next m info)

-- the information is read, and then the script
abbrev pub informed : (info script : List ℕ) → (Module → Info → Script → Plan) → Module → Plan
informed info script next m = reads (info_read info m) (scripted script next m)

-- the subject is read, and then the information and the script
abbrev pub told_run : (subject info script : List ℕ) → (Module → Info → Script → Plan) → Plan
told_run subject info script next = reads (module_read subject longest_file wide) (informed info script next)

-- the same, with the names of the subject if they are kept
abbrev pub named_run : (keeps : Bool) → (subject info script : List ℕ) → (Module → Names → Info → Script → Plan) → Plan
named_run keeps subject info script next =
    reads (named_read subject longest_file wide keeps) (λ named. informed info script (λ m. next m named.1) named.0)

-- The information and the script were read for a module. What comes of the plan that follows also comes of the whole
-- plan after the module.
abbrev pub LeadsOn : (info_name script_name : List ℕ) → Module → (old mid : ShelfState) → Info → Script → Type 0
LeadsOn info_name script_name m old mid info s =
    (next : Module → Info → Script → Plan) (new : ShelfState) (was is : List ToolState) (result : Result Printed Refusal)
    → Yields (Some (next m info s)) mid new was is result → Yields (Some (informed info_name script_name next m)) old new was is result

-- One of the two was not read, and the refusal is that of every plan that follows.
abbrev pub IsNotLed : (info_name script_name : List ℕ) → Module → (old new : ShelfState) → Refusal → Type 0
IsNotLed info_name script_name m old new refusal =
    (next : Module → Info → Script → Plan) (tools : List ToolState)
    → Yields (Some (informed info_name script_name next m)) old new tools tools (Err refusal)
