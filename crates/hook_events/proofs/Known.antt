-- The events of a key other than br_table.
use Rattle.std.proofs.Common.{◌≡◌, ℕ, List, false, Option}
use Rattle.wasm_sem.specs.Types.{Value, Loc, HookKey}
use Rattle.hook_select.specs.declared.GroupName.TheVariants as groups
use Rattle.hook_mono.specs.declared.HookKey.TheVariants as keys
use Rattle.hook_mono.specs.Told.{key_told, told_event}
use Rattle.static_info.specs.declared.FuncInfo.{FuncInfo}
use Rattle.static_info.specs.declared.Info.{Info}
use Rattle.static_info.specs.Read.{callee_in, known_events}
use Rattle.static_info.proofs.EventsTold.{events_told}
use Rattle.hook_events.specs.Branches.{is_branch}

-- they are told by the fields of its hook
pub known_told : (info : Info) (slots : List (Option ℕ)) (hook : ℕ) (f : FuncInfo) (key : HookKey) (loc : Loc) (vs : List Value) → is_branch key ≡ false
    → known_events info slots hook f key loc vs ≡ told_event (callee_in info slots) (key_told key) loc vs
known_told info slots hook f (keys.Plain groups.BrTable) loc vs e = cc
known_told info slots hook f key loc vs e = events_told info slots key loc vs
