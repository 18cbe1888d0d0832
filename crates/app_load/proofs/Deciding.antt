-- Where contents are told, what stands there decides the status.
use Rattle.std.proofs.Common.{◌≡◌, ◌≢◌, ℕ, ◌⊎◌, inl, inr, List, [], refl, ap, subst, ◌∙◌, Option, Some, None}
use Rattle.outside_io.specs.Outside.{Contents, ShelfState, PrintState}
use Rattle.analyses.specs.Tools.{ToolState}
use Rattle.app_load.specs.Printing.{said, said_part, said_no_memory}
use Rattle.app_load.specs.Wants.{Read, ReadCause, missing, too_long, unread, refuted, unread_no_memory}
use Rattle.app_load.specs.Statuses.{status_number}
use Rattle.app_load.specs.Plans.{Reason, reason_status, finish_status, Effect, refuses, does, Plan, LeadsTo, ComesTo}
use Rattle.app_load.specs.Ends as ends
use Rattle.app_load.specs.Ends.{Cause, no_command, unwritten, memory_ended, Ends, answered, refused_with, IsBut, IsBad, absent, over, wrong, DecidesReads, DecidesRefusals, DecidesEffects}
use Rattle.app_load.proofs.WantLaws.{laws}
use Rattle.app_load.proofs.Leading.{leads_once, comes_once, comes_not_leads}
use Rattle.app_load.proofs.Shelves.{files_why, files_there}

-- what came of a command
data Fate (plan : Plan) (contents : Contents) (status : ℕ) : Type 0 where
  faulty : (status ≡ 4) ⊎ (status ≡ 14) → Fate plan contents status
  bad : (read : Read) → ComesTo (Some contents) plan read → IsBad contents read status → Fate plan contents status
  refused : (reason : Reason) (text : List ℕ) → LeadsTo (Some contents) plan (refuses reason text) → status ≡ status_number (reason_status reason)
      → Fate plan contents status
  effected : (e : Effect) → LeadsTo (Some contents) plan (does e)
      → ((e.files ≢ []) × (status ≡ 5)) ⊎ ((status ≡ 15) ⊎ (status ≡ status_number (finish_status e.finish))) → Fate plan contents status

-- the shelf with these contents told
abbrev told_shelf : ShelfState → Contents → ShelfState
told_shelf old contents = record old { contents = Some contents }

module _ {plan : Plan} {new : ShelfState} (old : ShelfState) (contents : Contents) where
  read_fate : (read : Read) (status : ℕ) (text : List ℕ) → ComesTo (Some contents) plan read → ReadCause read (told_shelf old contents) new status text → Fate plan contents status
  read_fate read _ _ c (missing m) = bad read c (absent m)
  read_fate read _ _ c (too_long long t) = bad read c (over t.0 t.1 t.3)
  read_fate read _ _ c (unread r) = faulty (inl refl)
  read_fate read _ _ c (refuted bytes status text i r) =
      bad read c (wrong bytes status i.there i.short ((laws read.want).refuted_wrong read.name bytes status text r))
  read_fate read _ _ c unread_no_memory = faulty (inr refl)

  cause_fate : {was is : List ToolState} (status : ℕ) (text : List ℕ) → Cause (Some plan) (told_shelf old contents) new was is status text → Fate plan contents status
  cause_fate _ _ (no_command e only s) = cc
  cause_fate _ _ (ends.unread read status text c r only s) = read_fate read status text c r
  cause_fate _ _ (ends.refused reason text l only s) = refused reason text l refl
  cause_fate _ _ (unwritten e status text l mid only f t) =
      elim (files_why e.files mid new status text f) [
        | inl (five, r) ↦ effected e l (inl (files_there e.files mid new status text f, five))
        | inr memory ↦ faulty (inr memory)
      ]
  cause_fate _ _ (memory_ended reads passed only t) = faulty (inr refl)

  fate : {was is : List ToolState} {before after : PrintState} (status : ℕ) → Ends (Some plan) (told_shelf old contents) new was is before after status → Fate plan contents status
  fate _ (answered e m (said p once)) = effected e m.leads (inr (inr refl))
  fate _ (answered e m (said_part r p once)) = effected e m.leads (inr (inl refl))
  fate _ (answered e m (said_no_memory prints few p only)) = faulty (inr refl)
  fate _ (refused_with cause text c (said_no_memory prints few p only)) = faulty (inr refl)
  fate _ (refused_with cause text c s) = cause_fate cause text c

read_decides : (plan : Plan) (contents : Contents) (status : ℕ) (read : Read) (expected : ℕ) → Fate plan contents status
    → ComesTo (Some contents) plan read → IsBad contents read expected → IsBut status expected
read_decides plan contents status read expected (faulty f) c b = inr f
read_decides plan contents status read expected (bad other d a) c b = inl (comes_once contents plan other read status expected d a c b)
read_decides plan contents status read expected (refused reason text l e) c b =
    absurd (comes_not_leads contents plan read expected (refuses reason text) c b l)
read_decides plan contents status read expected (effected e l s) c b = absurd (comes_not_leads contents plan read expected (does e) c b l)

refusal_decides : (plan : Plan) (contents : Contents) (status : ℕ) (reason : Reason) (text : List ℕ) → Fate plan contents status
    → LeadsTo (Some contents) plan (refuses reason text) → IsBut status (status_number (reason_status reason))
refusal_decides plan contents status reason text (faulty f) l = inr f
refusal_decides plan contents status reason text (bad other d a) l = absurd (comes_not_leads contents plan other status (refuses reason text) d a l)
refusal_decides plan contents status reason text (refused why line k e) l =
    let same = leads_once contents plan (refuses why line) (refuses reason text) k l in
    let one : why ≡ reason = cc in
    inl (e ∙ ap (λ reason. status_number (reason_status reason)) one)
refusal_decides plan contents status reason text (effected e k s) l =
    let same = leads_once contents plan (does e) (refuses reason text) k l in
    cc

effect_decides : (plan : Plan) (contents : Contents) (status : ℕ) (e : Effect) → Fate plan contents status → LeadsTo (Some contents) plan (does e)
    → ((e.files ≢ []) × (status ≡ 5)) ⊎ ((status ≡ 15) ⊎ IsBut status (status_number (finish_status e.finish)))
effect_decides plan contents status e (faulty f) l = inr (inr (inr f))
effect_decides plan contents status e (bad other d a) l = absurd (comes_not_leads contents plan other status (does e) d a l)
effect_decides plan contents status e (refused why line k n) l =
    let same = leads_once contents plan (refuses why line) (does e) k l in
    cc
effect_decides plan contents status e (effected d k s) l =
    let same = leads_once contents plan (does d) (does e) k l in
    let one : d ≡ e = cc in
    elim (subst (λ (x : Effect). ((x.files ≢ []) × (status ≡ 5)) ⊎ ((status ≡ 15) ⊎ (status ≡ status_number (finish_status x.finish)))) one s) [
      | inl five ↦ inl five
      | inr t ↦ elim t [ inl p ↦ inr (inl p) | inr q ↦ inr (inr (inl q)) ]
    ]

-- so it is, whatever is told
module _ {plan : Option Plan} {old new : ShelfState} {was is : List ToolState} {before after : PrintState} (status : ℕ)
    (x : Ends plan old new was is before after status) where
  decided : DecidesReads plan old.contents status × DecidesRefusals plan old.contents status × DecidesEffects plan old.contents status
  decided = by plan old.contents x
    where
      by : (p : Option Plan) (held : Option Contents) → Ends p (record old { contents = held }) new was is before after status
          → DecidesReads p held status × DecidesRefusals p held status × DecidesEffects p held status
      by p None y = (tt, tt, tt)
      by None (Some contents) y = (λ read expected c. absurd c, λ reason text l. absurd l, λ e l. absurd l)
      by (Some p) (Some contents) y =
          let f = fate old contents status y in (
            λ read expected. read_decides p contents status read expected f,
            λ reason text. refusal_decides p contents status reason text f,
            λ e. effect_decides p contents status e f,
          )

  pub decides_reads : DecidesReads plan old.contents status
  decides_reads = decided.0

  pub decides_refusals : DecidesRefusals plan old.contents status
  decides_refusals = decided.1

  pub decides_effects : DecidesEffects plan old.contents status
  decides_effects = decided.2

no_words_cause : {old new : ShelfState} {was is : List ToolState} (status : ℕ) (text : List ℕ) → Cause None old new was is status text
    → (status ≡ 2) ⊎ (status ≡ 14)
no_words_cause _ _ (no_command e only s) = inl refl
no_words_cause _ _ (ends.unread read status text c r only s) = absurd c
no_words_cause _ _ (ends.refused reason text l only s) = absurd l
no_words_cause _ _ (unwritten e status text l mid only f t) = absurd l
no_words_cause _ _ (memory_ended reads passed only t) = inr refl

-- words that are no command, whatever is told
pub no_words : {old new : ShelfState} {was is : List ToolState} {before after : PrintState} (status : ℕ) → Ends None old new was is before after status
    → (status ≡ 2) ⊎ (status ≡ 14)
no_words status (answered e m p) = absurd m.leads
no_words _ (refused_with cause text c (said_no_memory prints few p only)) = inr refl
no_words _ (refused_with cause text c s) = no_words_cause cause text c

pub no_plan : {plan : Option Plan} {old new : ShelfState} {was is : List ToolState} {before after : PrintState} (status : ℕ) → plan ≡ None
    → Ends plan old new was is before after status → (status ≡ 2) ⊎ (status ≡ 14)
no_plan {plan} {old} {new} {was} {is} {before} {after} status none x = no_words status (subst (λ p. Ends p old new was is before after status) none x)
