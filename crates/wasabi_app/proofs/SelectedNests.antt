-- What a selection with begins and ends chooses of items that are well nested is well nested, whichever functions it has.
use Rattle.std.proofs.Common.{◌≡◌, List, [], ◌∷◌, ◌++◌, Bool, true, false, cond, filter, refl, sym, ap, ◌∙◌, subst}
use Rattle.wasm_sem.specs.Types.{Event, Selection}
use Rattle.module_ast.specs.Lists.{when}
use Rattle.hook_select.specs.declared.GroupName.TheVariants as groups
use Rattle.hook_select.specs.declared.Event.TheVariants as events
use Rattle.hook_select.specs.Groups.{has}
use Rattle.hook_select.specs.Selections.{no_hooks, covers, hooks_at, chooses}
use Rattle.wasm_sem.specs.Execution.{TraceItem, entry, host_call, event, hook_call, selected_items}
use Rattle.wasm_sem.specs.Nests.{Bracket, bracket, Nests}

-- the brackets of the selected functions
abbrev pub selected_brackets : Selection → List Bracket → List Bracket
selected_brackets s = filter (λ (b : Bracket). covers s.functions b.func)

-- what is not chosen, and neither begins nor ends, changes nothing
passed : (b : Bool) (e : Event) (brackets left : List Bracket) (is : List TraceItem) → (Nests brackets is left → Nests brackets (event e ∷ is) left) → Nests brackets is left
    → Nests brackets (when b (event e ∷ []) ++ is) left
passed true e brackets left is note h = note h
passed false e brackets left is note h = h

module _ (s : Selection) (begins : has s.groups groups.Begin ≡ true) (ends : has s.groups groups.End ≡ true) where
  -- a begin, of a function that is selected or not
  begun : (b : Bool) (e : Event) (x : Bracket) (brackets left : List Bracket) (is : List TraceItem) → (Nests (x ∷ brackets) is left → Nests brackets (event e ∷ is) left)
      → Nests (cond b (x ∷ brackets) brackets) is left → Nests brackets (when (has (cond b s.groups no_hooks) groups.Begin) (event e ∷ []) ++ is) left
  begun true e x brackets left is note h = subst (λ c. Nests brackets (when c (event e ∷ []) ++ is) left) (sym begins) (note h)
  begun false e x brackets left is note h = h

  -- an end
  ended : (b : Bool) (e : Event) (x : Bracket) (brackets left : List Bracket) (is : List TraceItem) → (Nests brackets is left → Nests (x ∷ brackets) (event e ∷ is) left)
      → Nests brackets is left → Nests (cond b (x ∷ brackets) brackets) (when (has (cond b s.groups no_hooks) groups.End) (event e ∷ []) ++ is) left
  ended true e x brackets left is note h = subst (λ c. Nests (x ∷ brackets) (when c (event e ∷ []) ++ is) left) (sym ends) (note h)
  ended false e x brackets left is note h = h

  pub selected_nests : (brackets left : List Bracket) (is : List TraceItem) → Nests brackets is left → Nests (selected_brackets s brackets) (selected_items s is) (selected_brackets s left)
  selected_nests brackets left [] h = ap (selected_brackets s) h
  selected_nests brackets left (event (events.Begin p kind) ∷ is) h =
      let x = bracket p.func kind p.instr in
      begun (covers s.functions p.func) (events.Begin p kind) x (selected_brackets s brackets) (selected_brackets s left) (selected_items s is) (λ k. k) (selected_nests (x ∷ brackets) left is h)
  selected_nests [] left (event (events.End p kind begin) ∷ is) h = absurd h
  selected_nests (b ∷ brackets) left (event (events.End p kind begin) ∷ is) h =
      let x = bracket p.func kind begin in
      subst (λ (y : Bracket). Nests (selected_brackets s (y ∷ brackets)) (selected_items s (event (events.End p kind begin) ∷ is)) (selected_brackets s left)) (sym h.0)
      (ended (covers s.functions p.func) (events.End p kind begin) x (selected_brackets s brackets) (selected_brackets s left) (selected_items s is) (λ k. (refl, k)) (selected_nests brackets left is h.1))
  selected_nests brackets left (event e ∷ is) h =
      passed (chooses s e) e (selected_brackets s brackets) (selected_brackets s left) (selected_items s is) (λ k. k) (selected_nests brackets left is h)
  selected_nests brackets left (entry c ∷ is) h = selected_nests [] left is h
  selected_nests brackets left (host_call f vs rs ws ∷ is) h = selected_nests brackets left is h
  selected_nests brackets left (hook_call c ∷ is) h = selected_nests brackets left is h
