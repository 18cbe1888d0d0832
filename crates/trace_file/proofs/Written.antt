-- A writer that takes events, one list after another.
use Rattle.std.proofs.Common.{◌≡◌, ℕ, List, [], ◌∷◌, ◌++◌, refl, sym, ap, ◌∙◌, subst, append_assoc, append-nil}
use Rattle.hook_select.specs.declared.Event.{Event}
use Rattle.trace_file.specs.declared.put.TraceFault.{TraceFault}
use Rattle.trace_file.specs.declared.put.TraceFault.TheVariants.{NoMemory, TooLarge}
use Rattle.trace_file.specs.Files.{Writing, IsWithinBound, HasTooMuch, writing_of, with_event, with_events}
use Rattle.trace_file.proofs.Whole.{first_fit, writes_on}

-- events after events
with_then : (es fs : List Event) (w : Writing) → with_events fs (with_events es w) ≡ with_events (es ++ fs) w
with_then [] fs w = refl
with_then (e ∷ es) fs w = with_then es fs (with_event e w)

pub both_written : (es fs : List Event) (a b c : Writing) → b ≡ with_events es a → c ≡ with_events fs b → c ≡ with_events (es ++ fs) a
both_written es fs a b c first second = second ∙ ap (with_events fs) first ∙ with_then es fs a

-- one of the first is too much, or one behind them
pub much_early : (es fs : List Event) (w : Writing) → HasTooMuch es w → HasTooMuch (es ++ fs) w
much_early es fs w (before, e, behind, is, much) = (before, e, behind ++ fs, ap (λ l. l ++ fs) is ∙ append_assoc before (e ∷ behind) fs, much)

pub much_late : (es fs : List Event) (a b : Writing) → b ≡ with_events es a → HasTooMuch fs b → HasTooMuch (es ++ fs) a
much_late es fs a b first (before, e, behind, is, much) = (
  es ++ before,
  e,
  behind,
  ap (λ l. es ++ l) is ∙ sym (append_assoc es before (e ∷ behind)),
  subst (λ (w : Writing). IsWithinBound (with_event e w) → ⊥) (ap (with_events before) first ∙ with_then es before a) much,
)

-- no fault says both
pub none_large : (f : TraceFault) → f ≡ NoMemory → f ≡ TooLarge → ⊥
none_large f want large = cc

-- ---- from none on

pub written_is : (max : ℕ) (es fs : List Event) → with_events fs (writing_of max es) ≡ writing_of max (es ++ fs)
written_is max es [] = ap (writing_of max) (sym (append-nil es))
written_is max es (f ∷ fs) =
    ap (with_events fs) (writes_on max es f) ∙ written_is max (es ++ f ∷ []) fs ∙ ap (writing_of max) (append_assoc es (f ∷ []) fs)

-- where one of them is too much, they have no file
pub too_much : (max : ℕ) (es : List Event) → HasTooMuch es (writing_of max []) → IsWithinBound (writing_of max es) → ⊥
too_much max es (before, e, behind, is, much) within =
    let joined : es ≡ (before ++ e ∷ []) ++ behind = is ∙ sym (append_assoc before (e ∷ []) behind) in
    let first : IsWithinBound (writing_of max (before ++ e ∷ [])) =
    first_fit max (before ++ e ∷ []) behind (subst (λ fs. IsWithinBound (writing_of max fs)) joined within) in
    much (subst (λ (w : Writing). IsWithinBound w) (sym (ap (with_event e) (written_is max [] before) ∙ writes_on max before e)) first)
