-- What follows for the words of one mode.
pub mod Check
pub mod Instrument
pub mod Run
pub mod Report
pub mod Record
pub mod Replay
pub mod Tree
pub mod Trial
pub mod Taint
use Rattle.std.proofs.Common.{◌≡◌, ◌≢◌, ℕ, ◌⊎◌, inl, inr, List, [], ◌∷◌, refl, sym, ap, subst, ◌∙◌, bytes_eq, cond, find, Bool, true, false, true≢false, codes, IfSome, Option, Some, None, Result, Err, option_and_then}
use Rattle.std.specs.Prelude.{⊤}
use Rattle.std.specs.List.{list_any}
use Rattle.std.proofs.lemmas.Slice.Eq.{bytes_eq-Decides}
use Rattle.outside_io.specs.Outside.{Contents}
use Rattle.analyses.specs.Tools.{ToolState}
use Rattle.outside_io.specs.Outside.{ShelfState}
use Rattle.app_load.specs.Plans.{Ending, Plan, Leads}
use Rattle.app_load.specs.declared.printing.Printed.{Printed}
use Rattle.app_load.specs.declared.printing.Refusal.{Refusal}
use Rattle.app_load.specs.declared.printing.Refusal.TheVariants.{NoMemory}
use Rattle.app_load.specs.Texts.{bad_words_text}
use Rattle.app_load.specs.Outcomes.{IsRefusal, Yields}
use Rattle.app_load.proofs.Going.{no_memory, was_no_command}
use Rattle.app_load.proofs.Within.{Within, within_leads, WritesNone, FeedsNone, MakesNone, keeps, never_unwritten, leaves, never_refused}
use Rattle.wasabi_app.specs.Words.{Given, given}
use Rattle.wasabi_app.specs.Mode.{Mode}
use Rattle.wasabi_app.specs.Modes.{modes, plan_in, plan_of}
use Rattle.wasabi_app.specs.Laws.{IsOf, SomeWrite, SomeFeed, SomeMake}
use Rattle.wasabi_app.proofs.Modes.Check.{check_within}
use Rattle.wasabi_app.proofs.Modes.Instrument.{instrument_feeds_none}
use Rattle.wasabi_app.proofs.Modes.Run.{run_within}
use Rattle.wasabi_app.proofs.Modes.Report.{report_writes_none, report_makes_none}
use Rattle.wasabi_app.proofs.Modes.Record.{record_feeds_none, record_makes_none}
use Rattle.wasabi_app.proofs.Modes.Replay.{replay_writes_none, replay_makes_none}
use Rattle.wasabi_app.proofs.Modes.Tree.{tree_writes_none, tree_feeds_none, tree_makes_none}
use Rattle.wasabi_app.proofs.Modes.Trial.{trial_writes_none}
use Rattle.wasabi_app.proofs.Modes.Taint.{taint_writes_none, taint_feeds_none}
use Rattle.wasabi_app.proofs.Linked.{writes_plain, feeds_plain, makes_plain}

-- the mode is among these, or this holds of every ending of its plans
abbrev IsOrElse : (names : List (List ℕ)) → (Ending → Type 0) → Mode → Type 0
IsOrElse names P mode = (list_any (bytes_eq mode.name) names ≡ true) ⊎ ((g : Given) → IfSome (mode.plan g) (Within P))

abbrev pub Each : (Mode → Type 0) → List Mode → Type 0
Each P [] = ⊤
Each P (m ∷ ms) = P m × Each P ms

plan_leads : (P : Ending → Type 0) (held : Option Contents) (plan : Option Plan) (e : Ending) → IfSome plan (Within P) → Leads held plan e → P e
plan_leads P held None e w l = absurd l
plan_leads P held (Some plan) e w l = within_leads P held plan e w l

in_modes : (names : List (List ℕ)) (P : Ending → Type 0) (ms : List Mode) (g : Given) (held : Option Contents) (e : Ending) → Each (IsOrElse names P) ms
    → Leads held (option_and_then (λ (m : Mode). m.plan g) (find (λ (m : Mode). bytes_eq m.name g.mode) ms)) e
    → (list_any (bytes_eq g.mode) names ≡ true) ⊎ P e
in_modes names P [] g held e each l = absurd l
in_modes names P (m ∷ ms) g held e (here, later) l = by (bytes_eq m.name g.mode) refl (λ k. in_modes names P ms g held e later k) l
  where
    named : (list_any (bytes_eq m.name) names ≡ true) ⊎ ((h : Given) → IfSome (m.plan h) (Within P)) → m.name ≡ g.mode → Leads held (m.plan g) e
        → (list_any (bytes_eq g.mode) names ≡ true) ⊎ P e
    named (inl is) same k = inl (subst (λ name. list_any (bytes_eq name) names ≡ true) same is)
    named (inr within) same k = inr (plan_leads P held (m.plan g) e (within g) k)

    by : (b : Bool) → bytes_eq m.name g.mode ≡ b
        → (Leads held (option_and_then (λ (x : Mode). x.plan g) (find (λ (x : Mode). bytes_eq x.name g.mode) ms)) e
        → (list_any (bytes_eq g.mode) names ≡ true) ⊎ P e)
        → Leads held (option_and_then (λ (x : Mode). x.plan g) (cond b (Some m) (find (λ (x : Mode). bytes_eq x.name g.mode) ms))) e
        → (list_any (bytes_eq g.mode) names ≡ true) ⊎ P e
    by true is rest k = named here ((bytes_eq-Decides m.name g.mode).0 is) k
    by false is rest k = rest k

-- so for words
all_else : (names : List (List ℕ)) (P : Ending → Type 0) (words : List (List ℕ)) (held : Option Contents) → Each (IsOrElse names P) modes
    → IsOf names words ⊎ ((e : Ending) → Leads held (plan_of words) e → P e)
all_else names P words held each = by (given words) refl
  where
    pick : (g : Given) (b : Bool) → list_any (bytes_eq g.mode) names ≡ b → given words ≡ Some g
        → IsOf names words ⊎ ((e : Ending) → Leads held (option_and_then (λ (h : Given). plan_in h.mode h) (Some g)) e → P e)
    pick g true is k = inl (g, k, is)
    pick g false is k = inr (λ e l. elim (in_modes names P modes g held e each l) [ inl among ↦ absurd (true≢false (sym among ∙ is)) | inr p ↦ p ])

    by : (o : Option Given) → given words ≡ o
        → IsOf names words ⊎ ((e : Ending) → Leads held (option_and_then (λ (h : Given). plan_in h.mode h) o) e → P e)
    by None k = inr (λ e l. absurd l)
    by (Some g) k = pick g (list_any (bytes_eq g.mode) names) refl k

-- ---- the plan of words

-- words that were read, and what came of the plan of their mode
pub followed : (words : List (List ℕ)) (g : Given) (old new : ShelfState) (was is : List ToolState) (result : Result Printed Refusal) → given words ≡ Some g
    → Yields (plan_in g.mode g) old new was is result → Yields (plan_of words) old new was is result
followed words g old new was is result e y =
    subst (λ p. Yields p old new was is result) (sym (ap (option_and_then (λ (h : Given). plan_in h.mode h)) e)) y

-- words that were not
pub not_followed : (words : List (List ℕ)) (at : ShelfState) (tools : List ToolState) (refusal : Refusal)
    → (refusal ≡ NoMemory) ⊎ ((given words ≡ None) × IsRefusal 2 bad_words_text refusal) → Yields (plan_of words) at at tools tools (Err refusal)
not_followed words at tools refusal (inl none) =
    subst (λ r. Yields (plan_of words) at at tools tools (Err r)) (sym none) (no_memory (plan_of words) at tools)
not_followed words at tools refusal (inr (e, r)) =
    subst (λ p. Yields p at at tools tools (Err refusal)) (sym (ap (option_and_then (λ (h : Given). plan_in h.mode h)) e)) (was_no_command at tools refusal r)

-- so for a mode with this name
pub by_name : (name : List ℕ) (g : Given) (plan : Option Plan) (old new : ShelfState) (was is : List ToolState) (result : Result Printed Refusal) → g.mode ≡ name
    → plan_in name g ≡ plan → Yields plan old new was is result → Yields (plan_in g.mode g) old new was is result
by_name name g plan old new was is result e p y =
    subst (λ n. Yields (plan_in n g) old new was is result) (sym e) (subst (λ x. Yields x old new was is result) (sym p) y)

-- a name that no mode has
none_named : (name : List ℕ) (ms : List Mode) → Each (λ (m : Mode). name ≢ m.name) ms → find (λ (m : Mode). bytes_eq m.name name) ms ≡ None
none_named name [] each = refl
none_named name (m ∷ ms) (here, later) = by (bytes_eq m.name name) refl (none_named name ms later)
  where
    by : (b : Bool) → bytes_eq m.name name ≡ b → find (λ (x : Mode). bytes_eq x.name name) ms ≡ None
        → cond b (Some m) (find (λ (x : Mode). bytes_eq x.name name) ms) ≡ None
    by true is rest = absurd (here (sym ((bytes_eq-Decides m.name name).0 is)))
    by false is rest = rest

pub no_mode : (g : Given) (at : ShelfState) (tools : List ToolState) (refusal : Refusal) → Each (λ (m : Mode). g.mode ≢ m.name) modes
    → IsRefusal 2 bad_words_text refusal → Yields (plan_in g.mode g) at at tools tools (Err refusal)
no_mode g at tools refusal each r =
    subst (λ p. Yields p at at tools tools (Err refusal)) (sym (ap (option_and_then (λ (m : Mode). m.plan g)) (none_named g.mode modes each)))
    (was_no_command at tools refusal r)

-- ---- what some modes alone do

write_each : Each (IsOrElse (codes "instrument" ∷ codes "record" ∷ []) WritesNone) modes
write_each = (
  inr (λ g. check_within WritesNone writes_plain g),
  (inl refl, (inr (λ g. run_within WritesNone writes_plain g), (inr report_writes_none, (inl refl, (inr replay_writes_none, (inr tree_writes_none, (inr trial_writes_none, (inr taint_writes_none, tt)))))))),
)

feed_each : Each (IsOrElse (codes "report" ∷ codes "replay" ∷ codes "trial" ∷ []) FeedsNone) modes
feed_each = (
  inr (λ g. check_within FeedsNone feeds_plain g),
  (inr instrument_feeds_none, (inr (λ g. run_within FeedsNone feeds_plain g), (inl refl, (inr record_feeds_none, (inl refl, (inr tree_feeds_none, (inl refl, (inr taint_feeds_none, tt)))))))),
)

make_each : Each (IsOrElse (codes "instrument" ∷ codes "trial" ∷ codes "taint" ∷ []) MakesNone) modes
make_each = (
  inr (λ g. check_within MakesNone makes_plain g),
  (inl refl, (inr (λ g. run_within MakesNone makes_plain g), (inr report_makes_none, (inr record_makes_none, (inr replay_makes_none, (inr tree_makes_none, (inl refl, (inl refl, tt)))))))),
)

pub some_write : SomeWrite
some_write words old new was is before after status x =
    elim (all_else (codes "instrument" ∷ codes "record" ∷ []) WritesNone words old.contents write_each) [
      | inl of ↦ inl of
      | inr none ↦ inr (keeps status none x, never_unwritten status none x)
    ]

pub some_feed : SomeFeed
some_feed words old new was is before after status x =
    elim (all_else (codes "report" ∷ codes "replay" ∷ codes "trial" ∷ []) FeedsNone words old.contents feed_each) [
      | inl of ↦ inl of
      | inr none ↦ inr (leaves status none x)
    ]

pub some_make : SomeMake
some_make words old new was is before after status x =
    elim (all_else (codes "instrument" ∷ codes "trial" ∷ codes "taint" ∷ []) MakesNone words old.contents make_each) [
      | inl of ↦ inl of
      | inr none ↦ inr (never_refused status none x)
    ]
