-- The answers of linking: refusals as faults, and the exported functions by their names.
use Rattle.std.specs.Prelude.{◌≡◌, ℕ, List, ℤ, Option, Some, None, option_and_then, Result, Ok, Err}
use Rattle.wasm_sem.specs.Types.{FuncType, Module}
use Rattle.module_ast.specs.Validation.{func_type}
use Rattle.wasm_sem.specs.Execution.{Refusal, no_export, bad_args, memory_cap, table_cap, segment_range, refusal_unless, fit_types, exported_func}
use Rattle.run_session.specs.declared.link.LinkFault.{LinkFault}
use Rattle.run_session.specs.declared.link.LinkFault.TheVariants.{NoExport, BadArgs, MemoryCap, TableCap, SegmentRange, NoMemory}

-- the refusal that a fault is; that memory ran out is none
abbrev pub refusal_of : LinkFault → Option Refusal
refusal_of (NoExport n) = Some (no_export n)
refusal_of (BadArgs n) = Some (bad_args n)
refusal_of (MemoryCap n) = Some (memory_cap n)
refusal_of (TableCap n) = Some (table_cap n)
refusal_of SegmentRange = Some segment_range
refusal_of NoMemory = None

-- the fault is this refusal, or memory ran out
abbrev pub TellsRefusal : LinkFault → Option Refusal → Type 0
TellsRefusal NoMemory r = Unit {0}
TellsRefusal fault r = r ≡ refusal_of fault

-- there is no refusal, or the fault is the refusal
abbrev pub ChecksRefusal : {A : Type 0} → Result A LinkFault → Option Refusal → Type 0
ChecksRefusal (Ok a) r = r ≡ None
ChecksRefusal (Err fault) r = TellsRefusal fault r

-- the type of the function that is exported under a name
abbrev pub exported_type : Module → (name : List ℕ) → Option FuncType
exported_type m name = option_and_then (func_type m) (exported_func name m.exports)

-- the refusal of a call whose function has this type, if there is such a function
abbrev pub type_refusal : (call : ℕ) → List ℤ → Option FuncType → Option Refusal
type_refusal n args None = Some (no_export n)
type_refusal n args (Some t) = refusal_unless (fit_types t.params args) (bad_args n)
