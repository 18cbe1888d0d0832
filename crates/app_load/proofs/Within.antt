-- What holds of every ending of a plan.
use Rattle.std.proofs.Common.{◌≡◌, ◌≢◌, ℕ, ◌⊎◌, inl, inr, List, [], refl, subst, IfSome, Option, Some, None, option_map}
use Rattle.std.specs.Prelude.{⊤}
use Rattle.outside_io.specs.Outside.{Contents, Unchanged, ShelfState, PrintState}
use Rattle.analyses.specs.Tools.{ToolState}
use Rattle.app_load.specs.Feeding.{AreFedPart}
use Rattle.app_load.specs.Kinds.{no_kinds}
use Rattle.app_load.specs.Wants.{Value}
use Rattle.app_load.specs.Plans.{Reason, no_output, reason_status, Ending, refuses, does, Plan, reads, ends, LeadsTo, Leads}
use Rattle.app_load.specs.Writing.{WroteSome}
use Rattle.app_load.specs.Ends.{WrittenPart, TookSome, Ends, answered, refused_with}
use Rattle.app_load.specs.Statuses.{status_number, of_writes, of_reasons}
use Rattle.app_load.proofs.Shelves.{all_some, fed_part_none}
use Rattle.app_load.proofs.Telling.{cause_memory, took_all, tells_at}

abbrev pub Within : (Ending → Type 0) → Plan → Type 0
Within P (reads read next) = (value : Value read.want) → Within P (next value)
Within P (ends e) = P e

pub within_leads : (P : Ending → Type 0) (held : Option Contents) (plan : Plan) (e : Ending) → Within P plan → LeadsTo held plan e → P e
within_leads P held (reads read next) e w (v, g, l) = within_leads P held (next v) e (w v) l
within_leads P held (ends k) e w l = subst P l w

-- so for a plan that may be none
pub mapped_within : {A : Type 0} (P : Ending → Type 0) (plan : A → Plan) (o : Option A) → ((a : A) → Within P (plan a)) → IfSome (option_map plan o) (Within P)
mapped_within P plan None w = tt
mapped_within P plan (Some a) w = w a

-- no file is written
abbrev pub WritesNone : Ending → Type 0
WritesNone (refuses reason text) = ⊤
WritesNone (does e) = e.files ≡ []

-- no analysis takes anything
abbrev pub FeedsNone : Ending → Type 0
FeedsNone (refuses reason text) = ⊤
FeedsNone (does e) = e.kinds ≡ no_kinds

-- no output is refused
abbrev pub MakesNone : Ending → Type 0
MakesNone (refuses reason text) = reason ≢ no_output
MakesNone (does e) = ⊤

-- ---- what follows for an ending

-- what stands on the shelf, however a command ends
shelf : {plan : Option Plan} {old new : ShelfState} {was is : List ToolState} {before after : PrintState} (status : ℕ)
    → Ends plan old new was is before after status → Unchanged old.contents new.contents ⊎ WrittenPart plan old.contents new.contents
shelf status (answered e m p) = inr (e, m.leads, all_some e.files _ _ m.files)
shelf status (refused_with cause text c p) = (cause_memory cause text c).0

-- and what the analyses have taken
took : {plan : Option Plan} {old new : ShelfState} {was is : List ToolState} {before after : PrintState} (status : ℕ)
    → Ends plan old new was is before after status → (is ≡ was) ⊎ TookSome plan old.contents was is
took {plan} {old} {new} {was} {is} status (answered e m p) = inr (took_all plan old new was is e m.leads m.taken)
took status (refused_with cause text c p) = (cause_memory cause text c).1

-- a plan without files leaves the shelf as it is
pub keeps : {plan : Option Plan} {old new : ShelfState} {was is : List ToolState} {before after : PrintState} (status : ℕ)
    → ((e : Ending) → Leads old.contents plan e → WritesNone e) → Ends plan old new was is before after status
    → Unchanged old.contents new.contents
keeps {plan} {old} {new} status none x =
    elim (shelf status x) [ inl u ↦ u | inr (e, l, w) ↦ subst (λ fs. WroteSome fs old.contents new.contents) (none (does e) l) w ]

-- and never answers 5
pub never_unwritten : {plan : Option Plan} {old new : ShelfState} {was is : List ToolState} {before after : PrintState} (status : ℕ)
    → ((e : Ending) → Leads old.contents plan e → WritesNone e) → Ends plan old new was is before after status → status ≢ 5
never_unwritten {plan} {old} {new} {was} {is} {before} {after} status none x five =
    let y : Ends plan old new was is before after 5 = subst (Ends plan old new was is before after) five x in
    let t = tells_at 5 of_writes y refl in
    t.1.2 (none (does t.1.0) t.1.1)

-- one that gives analyses nothing leaves them as they are
pub leaves : {plan : Option Plan} {old new : ShelfState} {was is : List ToolState} {before after : PrintState} (status : ℕ)
    → ((e : Ending) → Leads old.contents plan e → FeedsNone e) → Ends plan old new was is before after status → is ≡ was
leaves {was = was} {is = is} status none x =
    elim (took status x) [ inl same ↦ same | inr (e, l, t) ↦ fed_part_none e.events was is (subst (λ kinds. AreFedPart kinds e.events was is) (none (does e) l) t) ]

is_output : (reason : Reason) → status_number (reason_status reason) ≡ 9 → reason ≡ no_output
is_output no_output e = refl
is_output reason e = cc

-- and one that refuses no output never answers 9
pub never_refused : {plan : Option Plan} {old new : ShelfState} {was is : List ToolState} {before after : PrintState} (status : ℕ)
    → ((e : Ending) → Leads old.contents plan e → MakesNone e) → Ends plan old new was is before after status → status ≢ 9
never_refused {plan} {old} {new} {was} {is} {before} {after} status none x nine =
    let y : Ends plan old new was is before after 9 = subst (Ends plan old new was is before after) nine x in
    let t = tells_at 9 of_reasons y refl in
    none (refuses t.0.0 t.0.1) t.0.2 (is_output t.0.0 t.0.3)
