-- What is kept of a trace, item by item.
use Rattle.std.proofs.Common.{◌≡◌, List, [], ◌∷◌, ◌++◌, Bool, refl, sym, ap, ◌∙◌, append_assoc}
use Rattle.module_ast.specs.Lists.{when}
use Rattle.wasm_sem.specs.Types.{Event}
use Rattle.hook_select.specs.Selections.{Selection, chooses}
use Rattle.wasm_sem.specs.Execution.{TraceItem, entry, host_call, event, hook_call, events_in, kept_items, selected_items}

-- what is kept of two stretches stands one behind the other
pub kept_append : (keeps : Event → Bool) (xs ys : List TraceItem) → kept_items keeps (xs ++ ys) ≡ kept_items keeps xs ++ kept_items keeps ys
kept_append keeps [] ys = refl
kept_append keeps (event e ∷ is) ys =
    let kept = when (keeps e) (event e ∷ []) in
    ap (λ (t : List TraceItem). kept ++ t) (kept_append keeps is ys) ∙ sym (append_assoc kept (kept_items keeps is) (kept_items keeps ys))
kept_append keeps (entry c ∷ is) ys = ap (λ (t : List TraceItem). entry c ∷ t) (kept_append keeps is ys)
kept_append keeps (host_call f vs rs ws ∷ is) ys = ap (λ (t : List TraceItem). host_call f vs rs ws ∷ t) (kept_append keeps is ys)
kept_append keeps (hook_call h ∷ is) ys = kept_append keeps is ys

-- so is what a selection chooses
pub chosen_append : (s : Selection) (xs ys : List TraceItem) → selected_items s (xs ++ ys) ≡ selected_items s xs ++ selected_items s ys
chosen_append s = kept_append (chooses s)

-- the events of two stretches stand one behind the other
pub events_append : (xs ys : List TraceItem) → events_in (xs ++ ys) ≡ events_in xs ++ events_in ys
events_append [] ys = refl
events_append (event e ∷ is) ys = ap (λ (t : List Event). e ∷ t) (events_append is ys)
events_append (entry c ∷ is) ys = events_append is ys
events_append (host_call f vs rs ws ∷ is) ys = events_append is ys
events_append (hook_call h ∷ is) ys = events_append is ys
