-- That the nodes of a tree count the paths of calls, which ends are refused, and that no end of an output is refused.
use Rattle.std.specs.Prelude.{◌≡◌, ℕ, List, [], ◌∷◌, ◌++◌, count_by, Bool, Option, Some, None, IsSome, cond, true}
use Rattle.std.specs.List.{list_any}
use Rattle.std.specs.Ordering.{nat_cmp, eq_by_cmp}
use Rattle.std.specs.Cmp.Lexicographic.{slice_cmp}
use Rattle.std.specs.FinMap.{get}
use Rattle.wasm_sem.specs.Types.{Module, Selection}
use Rattle.module_ast.specs.Validation.{wide}
use Rattle.hook_select.specs.Groups.{has}
use Rattle.hook_select.specs.declared.GroupName.TheVariants.{Begin, End}
use Rattle.wasm_sem.specs.declared.Script.{Script}
use Rattle.wasm_sem.specs.Execution.{TraceItem, IsScriptInRange, Links}
use Rattle.static_info.specs.declared.Info.{Info}
use Rattle.static_info.specs.Info.{info_of}
use Rattle.static_info.specs.Json.{HoldInfo}
use Rattle.call_tree.specs.Paths.{paths, HasBadEnd}
use Rattle.call_tree.specs.State.{path_counts_in}
use Rattle.app_load.specs.Files.{IsFit}
use Rattle.app_runs.specs.Reporting.{items_told}
use Rattle.call_tree.specs.Unnested.{end_place, first_unnested}
use Rattle.app_runs.specs.Treeing.{tells_brackets}
use Rattle.wasabi_app.specs.KeptNames.{IsOutput}

-- how often a path is among these paths; `None` if it is not
abbrev pub times_among : (path : List ℕ) → List (List ℕ) → Option ℕ
times_among path ps =
    cond (list_any (eq_by_cmp (slice_cmp nat_cmp) path) ps) (Some (count_by (eq_by_cmp (slice_cmp nat_cmp) path) ps)) None

-- Each path that came has its node, with the number of begins with this path. No other path has a node.
abbrev pub NodesCountPaths : Type 0
NodesCountPaths = (is : List TraceItem) (path : List ℕ) → get (path_counts_in (paths is)) path ≡ times_among path (paths is)

-- Items are refused exactly if they are bad, at the first end that makes them bad.
pub record RefusesFirstEnd (is : List TraceItem) : Type 0 where
  pub bad : HasBadEnd is → IsSome (first_unnested is)
  pub refused : IsSome (first_unnested is) → HasBadEnd is
  pub first : (before behind : List TraceItem) (i : TraceItem) → is ≡ before ++ i ∷ behind → (HasBadEnd before → ⊥) → HasBadEnd (before ++ i ∷ []) → first_unnested is ≡ end_place i

abbrev pub BadAreRefused : Type 0
BadAreRefused = (is : List TraceItem) → RefusesFirstEnd is

-- For the output of each accepted file with begins and ends, in all functions or some, with names or without, read as a module, and bytes that hold
-- the information on its original, read as information: the information tells of begins and ends, and no end is
-- refused, with each script with which the original links.
abbrev pub OutputsNest : Type 0
OutputsNest =
    (file : List ℕ) (hooks : Selection) → has hooks.groups Begin ≡ true → has hooks.groups End ≡ true
    → (keeps : Bool) (written : List ℕ) (made : IsOutput file hooks keeps written) (o : Module) → IsFit wide written o
    → (told : List ℕ) (info : Info) → HoldInfo told (info_of made.original hooks) → HoldInfo told info
    → (s : Script) → IsScriptInRange s → Links made.original s
    → (tells_brackets info ≡ true) × ((steps : ℕ) → first_unnested (items_told info o s steps) ≡ None)
