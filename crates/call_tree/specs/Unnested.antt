-- The first end that closes no begin, or one that is not the latest.
use Rattle.std.specs.Prelude.{List, [], ◌∷◌, Option, Some, None, option_map, unwrap_or}
use Rattle.wasm_sem.specs.Types.{Loc}
use Rattle.hook_select.specs.declared.Event.TheVariants as events
use Rattle.wasm_sem.specs.Execution.{TraceItem, event}
use Rattle.wasm_sem.specs.Nests.{Bracket}
use Rattle.call_tree.specs.Paths.{open_after}

abbrev pub end_place : TraceItem → Option Loc
end_place (event (events.End p kind begin)) = Some p
end_place _ = None

-- the location of that end, if these begins are open before the items
abbrev pub unnested_from : List Bracket → List TraceItem → Option Loc
unnested_from brackets [] = None
unnested_from brackets (i ∷ is) = unwrap_or (option_map (λ (bs : List Bracket). unnested_from bs is) (open_after brackets i)) (end_place i)

abbrev pub first_unnested : List TraceItem → Option Loc
first_unnested is = unnested_from [] is
