-- What is selected of a module, and what comes of the plan behind it.
use Rattle.std.proofs.Common.{◌≡◌, ◌∙◌, ℕ, List, refl, sym, ap, Bool, true, false, Option, Some, None}
use Rattle.wasm_sem.specs.Types.{Module, Hooks, Selection}
use Rattle.name_map.specs.declared.Names.{Names}
use Rattle.app_load.specs.declared.printing.Refusal.{Refusal}
use Rattle.app_load.specs.declared.printing.Refusal.TheVariants.{NoMemory}
use Rattle.app_load.specs.Outcomes.{IsRefusal}
use Rattle.app_load.specs.Plans.{no_function, does, Effect, Ending, refuses, Plan, LeadsTo}
use Rattle.app_load.specs.Wants.{AreKept}
use Rattle.app_load.proofs.Going.{no_memory, was_refused}
use Rattle.app_load.proofs.Within.{Within}
use Rattle.outside_io.specs.Outside.{Contents}
use Rattle.wasabi_app.specs.Hooking.{IsUnselected}
use Rattle.wasabi_app.specs.Modes.Instrument.{found}
use Rattle.wasabi_app.specs.Selecting.{IsSelected, Selected, selects, finds_no, selected_by, selected_unless, unknown_piece, flags_by, reads_names, names_kept}
use Rattle.wasabi_app.specs.Texts.{no_function_text}
use Rattle.wasabi_app.specs.Words.{Given}

-- a piece that is no function
pub piece_unknown : (g : Given) (m : Module) (names : Names) (piece : List ℕ) (refusal : Refusal) → unknown_piece g.functions g.except m names ≡ Some piece
    → IsRefusal 23 (no_function_text piece) refusal → IsUnselected g m names refusal
piece_unknown g m names piece refusal e is = λ plan at tools.
    was_refused (found (selected_by g.hooks g.functions g.except m names) plan) no_function (no_function_text piece) at tools refusal
    (ap (λ u. found (selected_unless u (record { groups = g.hooks; functions = flags_by g.functions g.except m names })) plan) e) is

pub unselected_no_memory : (g : Given) (m : Module) (names : Names) → IsUnselected g m names NoMemory
unselected_no_memory g m names = λ plan at tools. no_memory (Some (found (selected_by g.hooks g.functions g.except m names) plan)) at tools

-- ---- the plan behind it

-- a plan that takes effect has hooks
pub found_leads : (held : Option Contents) (s : Selected) (plan : Selection → Plan) (e : Effect) → LeadsTo held (found s plan) (does e)
    → (hooks : Selection) × (s ≡ selects hooks) × LeadsTo held (plan hooks) (does e)
found_leads held (selects hooks) plan e k = (hooks, refl, k)
found_leads held (finds_no piece) plan e k = cc

pub found_within : (P : Ending → Type 0) (s : Selected) (plan : Selection → Plan) → ((text : List ℕ) → P (refuses no_function text))
    → ((hooks : Selection) → Within P (plan hooks)) → Within P (found s plan)
found_within P (selects hooks) plan refused within = within hooks
found_within P (finds_no piece) plan refused within = refused (no_function_text piece)

-- ---- what is selected

selected_parts : (u : Option (List ℕ)) (s hooks : Selection) → selected_unless u s ≡ selects hooks → s ≡ hooks
selected_parts None s hooks e = cc
selected_parts (Some piece) s hooks e = cc

-- the groups of the words
pub groups_are : (groups : Hooks) (functions except : Option (List ℕ)) (m : Module) (names : Names) (hooks : Selection)
    → selected_by groups functions except m names ≡ selects hooks → groups ≡ hooks.groups
groups_are groups functions except m names hooks e =
    ap (λ (s : Selection). s.groups)
    (selected_parts (unknown_piece functions except m names) (record { groups = groups; functions = flags_by functions except m names }) hooks e)

-- in all functions, if there is no list
pub everywhere_is : (groups : Hooks) (functions except : Option (List ℕ)) (m : Module) (names : Names) (hooks : Selection)
    → selected_by groups functions except m names ≡ selects hooks → functions ≡ None → except ≡ None → hooks.functions ≡ None
everywhere_is groups None None m names hooks e none nor =
    sym (ap (λ (s : Selection). s.functions) (selected_parts None (record { groups = groups; functions = None }) hooks e))
everywhere_is groups (Some f) except m names hooks e none nor = cc
everywhere_is groups None (Some f) m names hooks e none nor = cc

-- ---- the names

-- those that are kept, of those that were read
pub kept_of : (keeps : Bool) (functions except : Option (List ℕ)) (file : List ℕ) (m : Module) (names : Names)
    → AreKept (reads_names keeps functions except) file m names → AreKept keeps file m (names_kept keeps names)
kept_of true functions except file m names k = k
kept_of false functions except file m names k = refl

-- those of the file, if there is a list
pub selected_is : (keeps : Bool) (groups : Hooks) (functions except : Option (List ℕ)) (file : List ℕ) (m : Module) (names : Names) (hooks : Selection)
    → AreKept (reads_names keeps functions except) file m names → selected_by groups functions except m names ≡ selects hooks
    → IsSelected groups functions except file m hooks
selected_is keeps groups None None file m names hooks k e = sym (ap (hooks_of hooks) e)
  where
    hooks_of : Selection → Selected → Selection
    hooks_of other (selects hooks) = hooks
    hooks_of other (finds_no piece) = other
selected_is true groups (Some f) except file m names hooks k e = (names, k, e)
selected_is false groups (Some f) except file m names hooks k e = (names, k, e)
selected_is true groups None (Some f) file m names hooks k e = (names, k, e)
selected_is false groups None (Some f) file m names hooks k e = (names, k, e)
