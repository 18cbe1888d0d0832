-- How analyses take events.
use Rattle.std.specs.Prelude.{◌≡◌, List, ◌++◌, map, fold, cond}
use Rattle.std.specs.List.{AllZip}
use Rattle.wasm_sem.specs.Types.{Event}
use Rattle.analyses.specs.Tools.{ToolState, fresh_tool, state_after}
use Rattle.app_load.specs.declared.kinds.Kinds.{Kinds}
use Rattle.app_load.specs.Kinds.{every_kind, has_kind}

-- an analysis takes these events if its kind is in the set; otherwise the analysis stays the same
abbrev pub fed_tool : Kinds → List Event → ToolState → ToolState
fed_tool kinds es tool = cond (has_kind kinds tool.counts) (fold state_after tool es) tool

-- each analysis of a list, after these events
abbrev pub fed : Kinds → List Event → List ToolState → List ToolState
fed kinds es tools = map (fed_tool kinds es) tools

-- the analysis took a prefix of these events
abbrev pub IsFedPart : Kinds → List Event → (old new : ToolState) → Type 0
IsFedPart kinds es old new = (front : List Event) × (rest : List Event) × (es ≡ front ++ rest) × (new ≡ fed_tool kinds front old)

-- each analysis of a list took a prefix of these events, which may differ from one analysis to the next
abbrev pub AreFedPart : Kinds → List Event → (old new : List ToolState) → Type 0
AreFedPart kinds es old new = AllZip (IsFedPart kinds es) old new

-- one fresh analysis of each kind, in the order of the kinds
abbrev pub fresh_tools : List ToolState
fresh_tools = map fresh_tool every_kind
