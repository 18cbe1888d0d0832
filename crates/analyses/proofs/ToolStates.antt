-- The states of a list of analyses, where f gives the state of one, and the states that events lead to.
use Rattle.std.proofs.Common.{◌≡◌, ℕ, zero, suc, ◌+◌, ◌<◌, List, [], ◌∷◌, All, map, length, get_or, set, fold, ◌++◌, refl, ap, ap₂, sym, subst, ◌∙◌, append_assoc, arith}
use Rattle.std.proofs.lemmas.List.{get_or-map, length-map, length-append, append-nil}
use Rattle.std.proofs.lemmas.List.Elements.{All-get_or}
use Rattle.hook_select.specs.declared.Event.{Event}
use Rattle.analyses.specs.declared.Kind.{Kind}
use Rattle.analyses.specs.declared.Row.{Row}
use Rattle.analyses.specs.Tools.{ToolState, state_after, tool_with, TakesMakeTool}
use Rattle.analyses.proofs.Books.{book_more}

-- what holds of each state holds of that of the one at a place
pub state_at : {T : Type 0} (P : ToolState → Type 0) (f : T → ToolState) (ts : List T) (i : ℕ) (t : T) → i < length ts → t ≡ get_or ts i t
    → All P (map f ts) → P (f t)
state_at P f ts i t within read holds =
    let same : get_or (map f ts) i (f t) ≡ f t = get_or-map f ts i t (f t) within ∙ ap f (sym read) in
    let inside : i < length (map f ts) = simp length-map within in
    subst P same (All-get_or P (map f ts) i (f t) inside holds)

abbrev tool_state : Kind → ℕ → List Row → ToolState
tool_state kind n rows = record { counts = kind; event_count = n; book = rows }

-- ---- the states that events lead to

one_more : (es : List Event) (e : Event) → length es + 1 ≡ length (es ++ e ∷ [])
one_more es e = omega (arith, length-append es (e ∷ []))

state_after-tool_with : (kind : Kind) (es : List Event) (e : Event) → state_after (tool_with kind es) e ≡ tool_with kind (es ++ e ∷ [])
state_after-tool_with kind es e = ap₂ (λ n rows. tool_state kind n rows) (one_more es e) (sym (book_more kind es e))

-- events more, one by one
fold-state_after : (kind : Kind) (es more : List Event) → fold state_after (tool_with kind es) more ≡ tool_with kind (es ++ more)
fold-state_after kind es [] = ap (tool_with kind) (sym (append-nil es))
fold-state_after kind es (e ∷ more) =
    ap (λ s. fold state_after s more) (state_after-tool_with kind es e) ∙ fold-state_after kind (es ++ e ∷ []) more
    ∙ ap (tool_with kind) (append_assoc es (e ∷ []) more)

pub takes_make_tool : TakesMakeTool
takes_make_tool kind es = fold-state_after kind [] es
