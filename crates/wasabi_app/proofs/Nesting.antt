-- No end of an output is refused.
use Rattle.std.proofs.Common.{◌≡◌, ℕ, List, [], ◌∷◌, ◌++◌, Option, Some, None, IsSome, Bool, true, ◌&&◌, refl, sym, ap, ap₂, subst, ◌∙◌}
use Rattle.wasm_sem.specs.Types.{Loc, Module, Selection}
use Rattle.hook_select.specs.declared.GroupName.TheVariants.{Begin, End}
use Rattle.hook_select.specs.Groups.{has}
use Rattle.wasm_sem.specs.declared.Script.{Script}
use Rattle.wasm_sem.specs.Execution.{TraceItem, HasWritesInRange, CanLink, run_of, trace_of, selected_items}
use Rattle.wasm_sem.specs.Nests.{Bracket, TracesNest}
use Rattle.wasm_sem.proofs.SoundRead.{read_complete}
use Rattle.wasm_sem.proofs.SoundEntries.{can_link}
use Rattle.static_info.specs.declared.Info.{Info}
use Rattle.static_info.specs.Info.{info_of}
use Rattle.static_info.specs.Items.{read}
use Rattle.instrument.specs.Accepted.{IsAccepted}
use Rattle.instrument.specs.Same.{SameRuns, told_so_far}
use Rattle.call_tree.specs.Paths.{open_after, open_after_all, paths, HasBadEnd}
use Rattle.call_tree.proofs.Following.{got}
use Rattle.call_tree.proofs.Nested.{nested_open, stays_bad, open_append}
use Rattle.std.proofs.lemmas.Option.{none-some}
use Rattle.app_load.proofs.Files.{one_module}
use Rattle.app_load.proofs.Infos.{one_info}
use Rattle.app_runs.specs.Reporting.{items_told}
use Rattle.call_tree.specs.Unnested.{end_place, first_unnested}
use Rattle.app_runs.specs.Treeing.{tells_brackets}
use Rattle.wasabi_app.specs.Nesting.{NodesCountPaths, BadAreRefused, OutputsNest}
use Rattle.call_tree.proofs.Unnested.{bad_has, has_bad, is_end, unnested_first}
use Rattle.wasabi_app.proofs.Composed.{slots_of_env}
use Rattle.wasabi_app.proofs.SelectedNests.{selected_brackets, selected_nests}

pub nodes_count : NodesCountPaths
nodes_count is path = got path (paths is)

-- ---- refusals

some_place : (o : Option Loc) (p : Loc) → o ≡ Some p → IsSome o
some_place o p e = subst IsSome (sym e) refl

place_there : (o : Option Loc) → IsSome o → (p : Loc) × (o ≡ Some p)
place_there None h = cc
place_there (Some p) h = (p, refl)

-- items that are not bad leave begins open
left_open : (is : List TraceItem) → (HasBadEnd is → ⊥) → (left : List Bracket) × (open_after_all (Some []) is ≡ Some left)
left_open is well = go (open_after_all (Some []) is) refl
  where
    go : (o : Option (List Bracket)) → open_after_all (Some []) is ≡ o → (left : List Bracket) × (o ≡ Some left)
    go None e = absurd (well e)
    go (Some left) e = (left, refl)

first_refused : (before behind : List TraceItem) (i : TraceItem) → (HasBadEnd before → ⊥) → HasBadEnd (before ++ i ∷ []) → first_unnested (before ++ i ∷ behind) ≡ end_place i
first_refused before behind i well bad =
    let (left, open_is) = left_open before well in
    let none : open_after left i ≡ None = sym (open_append (Some []) before (i ∷ []) ∙ ap (λ o. open_after_all o (i ∷ [])) open_is) ∙ bad in
    let (p, place) = is_end left i none in
    unnested_first left before i behind p open_is none place ∙ sym place

pub bad_refused : BadAreRefused
bad_refused is = record {
  bad = λ bad. let (p, e) = bad_has is bad in some_place (first_unnested is) p e;
  refused = λ some. let (p, e) = place_there (first_unnested is) some in has_bad is p e;
  first = λ before behind i parts well bad. ap first_unnested parts ∙ first_refused before behind i well bad;
}

-- ---- outputs

no_place : (o : Option Loc) → ((p : Loc) → o ≡ Some p → ⊥) → o ≡ None
no_place None none = refl
no_place (Some p) none = absurd (none p refl)

module _ (nests : TracesNest) where
  runs_nest : (file : List ℕ) (m : Module) (hooks : Selection) (o : Module) (s : Script) → IsAccepted file m → has hooks.groups Begin ≡ true → has hooks.groups End ≡ true → SameRuns m hooks o s → HasWritesInRange s → CanLink m s
      → (steps : ℕ) → first_unnested (items_told (info_of m hooks) o s steps) ≡ None
  runs_nest file m hooks o s accepted begins ends same range links steps =
      let told = told_so_far (info_of m hooks) o s steps in
      let (rest, joined) = same.prefix steps in
      let (left, h) = (nests m s accepted.valid (read_complete file m accepted.spelled) accepted.free range links).always steps in
      let chosen : open_after_all (Some []) (selected_items hooks (trace_of m s steps)) ≡ Some (selected_brackets hooks left) =
      nested_open [] (selected_brackets hooks left) (selected_items hooks (trace_of m s steps)) (selected_nests hooks begins ends [] left (trace_of m s steps) h) in
      let same_items : told ≡ items_told (info_of m hooks) o s steps = ap (λ slots. read (info_of m hooks) slots (trace_of o s steps)) (sym (slots_of_env (run_of o s steps))) in
      ap first_unnested (sym same_items)
      ∙ no_place (first_unnested told)
      (λ p e.
      let none : open_after_all (Some []) (told ++ rest) ≡ None = open_append (Some []) told rest ∙ ap (λ o. open_after_all o rest) (has_bad told p e) ∙ stays_bad rest in
      none-some (selected_brackets hooks left) (sym none ∙ ap (open_after_all (Some [])) joined ∙ chosen))

  pub outputs_nest : OutputsNest
  outputs_nest file hooks begins ends keeps written made o fit told info holds read_info s range linked =
      let links = can_link made.original s linked in
      let module_is : made.sound.result ≡ o = one_module written made.sound.result o made.sound.spelled fit.spelled in
      let info_is : info_of made.original hooks ≡ info = one_info told (info_of made.original hooks) info holds read_info in (
        ap tells_brackets (sym info_is) ∙ ap₂ (λ (a b : Bool). a && b) begins ends,
        λ steps.
            ap₂ (λ (i : Info) (x : Module). first_unnested (items_told i x s steps)) (sym info_is) (sym module_is)
            ∙ runs_nest file made.original hooks made.sound.result s made.accepted begins ends (made.sound.same.runs s range.writes links) range.writes links steps,
      )
