-- Reports, from whole runs.
use Rattle.std.proofs.Common.{◌≡◌, ℕ, List, [], ◌∷◌, ◌++◌, Option, Some, None, Bool, true, false, refl, sym, ap, ◌∙◌, subst, All, is_some, IsTrue}
use Rattle.std.proofs.lemmas.List.Elements.{All-nil, All-cons, All-head, All-tail}
use Rattle.wasm_sem.specs.Types.{Module, Event, GroupName, Selection}
use Rattle.module_ast.specs.Lists.{when}
use Rattle.hook_select.specs.Events.{group_of}
use Rattle.hook_select.specs.Groups.{has}
use Rattle.hook_select.specs.Selections.{hooks_at, func_of}
use Rattle.wasm_sem.specs.declared.Script.{Script}
use Rattle.wasm_sem.specs.Execution.{TraceItem, entry, host_call, event, hook_call, events_in, has_group, selected_items, trace_of}
use Rattle.static_info.specs.Info.{info_of}
use Rattle.instrument.specs.Same.{IsPrefix, told_so_far, shown_so_far, SameRuns, ReportsCompose}

-- the events of two stretches stand one behind the other
pub events_append : (xs ys : List TraceItem) → events_in (xs ++ ys) ≡ events_in xs ++ events_in ys
events_append [] ys = refl
events_append (event e ∷ is) ys = ap (λ (t : List Event). e ∷ t) (events_append is ys)
events_append (entry c ∷ is) ys = events_append is ys
events_append (host_call f vs rs ws ∷ is) ys = events_append is ys
events_append (hook_call h ∷ is) ys = events_append is ys

-- the event is of a group: its hook call was explained
abbrev IsGrouped : Event → Type 0
IsGrouped e = IsTrue (is_some (group_of e))

-- an event that is kept has a group
kept_grouped : (selected : GroupName → Bool) (e : Event) (is : List TraceItem) (g : Option GroupName) → group_of e ≡ g → All IsGrouped (events_in is)
    → All IsGrouped (events_in (when (has_group selected g) (event e ∷ []) ++ is))
kept_grouped selected e is None h rest = rest
kept_grouped selected e is (Some g) h rest = go (selected g)
  where
    go : (b : Bool) → All IsGrouped (events_in (when b (event e ∷ []) ++ is))
    go false = rest
    go true = All-cons IsGrouped e (events_in is) (ap is_some h) rest

-- so has each of those that are kept
pub chosen_grouped : (hooks : Selection) (is : List TraceItem) → All IsGrouped (events_in (selected_items hooks is))
chosen_grouped hooks [] = All-nil IsGrouped
chosen_grouped hooks (event e ∷ is) = kept_grouped (has (hooks_at hooks (func_of e))) e (selected_items hooks is) (group_of e) refl (chosen_grouped hooks is)
chosen_grouped hooks (entry c ∷ is) = chosen_grouped hooks is
chosen_grouped hooks (host_call f vs rs ws ∷ is) = chosen_grouped hooks is
chosen_grouped hooks (hook_call h ∷ is) = chosen_grouped hooks is

-- what holds of each element holds of each of a beginning
all_front : {A : Type 0} (P : A → Type 0) (xs ys : List A) → All P (xs ++ ys) → All P xs
all_front P [] ys h = All-nil P
all_front P (x ∷ xs) ys h = All-cons P x xs (All-head P x (xs ++ ys) h) (all_front P xs ys (All-tail P x (xs ++ ys) h))

-- the events of a beginning are a beginning of the events
events_front : (xs ys : List TraceItem) → IsPrefix xs ys → IsPrefix (events_in xs) (events_in ys)
events_front xs ys h = (events_in h.0, sym (events_append xs h.0) ∙ ap events_in h.1)

-- the events that are told of runs that are the same
pub reports_compose : (m : Module) (hooks : Selection) (o : Module) (s : Script) → SameRuns m hooks o s → (k : ℕ) → ReportsCompose m hooks o s k
reports_compose m hooks o s same k =
    let told = events_in (told_so_far (info_of m hooks) o s k) in
    let front = events_front (told_so_far (info_of m hooks) o s k) (shown_so_far m hooks s k) (same.prefix k) in
    record {
      all = λ over. ap events_in (same.ends k over).1.reads;
      some = front;
      no_stray = all_front IsGrouped told front.0 (subst (All IsGrouped) (sym front.1) (chosen_grouped hooks (trace_of m s k)));
    }
