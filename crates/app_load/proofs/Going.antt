-- How what comes of a plan is put together, one read after the other.
use Rattle.std.proofs.Common.{◌≡◌, ℕ, suc, ◌≤◌, inl, inr, List, [], length, refl, sym, subst, Option, Some, None, Result, Ok, Err}
use Rattle.outside_io.specs.Outside.{Contents, IsMissing, IsTooLong, ShelfState, OnlyRead, OnlyWrote}
use Rattle.analyses.specs.Tools.{ToolState}
use Rattle.app_load.specs.Feeding.{fed}
use Rattle.app_load.specs.Texts.{bad_words_text, no_memory_text}
use Rattle.app_load.proofs.Contents.{unchanged_same, same_contents, none_read, none_written, read_then}
use Rattle.app_load.specs.declared.printing.Printed.{Printed}
use Rattle.app_load.specs.declared.printing.Refusal.{Refusal}
use Rattle.app_load.specs.declared.printing.Refusal.TheVariants.{NoMemory}
use Rattle.app_load.specs.Wants as wants
use Rattle.app_load.specs.Wants.{Value, Read, Gives, ReadCause, missing, too_long, refuted, unread_no_memory}
use Rattle.app_load.specs.Writing.{WroteAll}
use Rattle.app_load.specs.Plans.{Reason, reason_status, File, Finish, finish_status, Effect, prints, Ending, does, Plan, reads, ends, refusing, printing, LeadsTo, PassesAll}
use Rattle.app_load.specs.Statuses.{status_number}
use Rattle.app_load.specs.Ends.{Cause, no_command, unread, refused, unwritten, memory_ended, IsCarriedOut}
use Rattle.app_load.specs.Outcomes.{refusal_status, refusal_text, IsRefusal, Yields}
use Rattle.app_load.proofs.Shelves.{rose_before, fed_none}

-- the shelf after a read, with the contents that were there before it
abbrev read_from : (old mid : ShelfState) → ShelfState
read_from old mid = record mid { contents = old.contents }

-- why a later read gave nothing is why it does from here
missing_before : (name : List ℕ) (held : Option Contents) (i j k : ℕ) → i ≤ j → IsMissing held name j k → IsMissing held name i k
missing_before name None i j k l m = rose_before i j k l m
missing_before name (Some held) i j k l m = m

too_long_before : (name : List ℕ) (cap long : ℕ) (held : Option Contents) (i j k : ℕ) → i ≤ j → IsTooLong held name cap long j k → IsTooLong held name cap long i k
too_long_before name cap long None i j k l m = rose_before i j k l m
too_long_before name cap long (Some held) i j k l m = m

cause_before : (read : Read) (old mid new : ShelfState) (status : ℕ) (text : List ℕ) → old.read_faults read.name ≤ mid.read_faults read.name
    → ReadCause read (read_from old mid) new status text → ReadCause read old new status text
cause_before read old mid new _ _ l (missing m) = missing (missing_before read.name _ _ _ _ l m)
cause_before read old mid new _ _ l (too_long long t) = too_long long (too_long_before read.name read.cap long _ _ _ _ l t)
cause_before read old mid new _ _ l (wants.unread r) = wants.unread (rose_before _ _ _ l r)
cause_before read old mid new _ _ l (refuted bytes status text i r) = refuted bytes status text i r
cause_before read old mid new _ _ l unread_no_memory = unread_no_memory

-- a read that gave what it must, and what came then
module _ (read : Read) (next : Value read.want → Plan) (value : Value read.want) (old mid new : ShelfState) (was is : List ToolState)
    (g : Gives old.contents read value) (once : OnlyRead 1 old (read_from old mid)) where
  cause_on : (status : ℕ) (text : List ℕ) → Cause (Some (next value)) (read_from old mid) new was is status text → Cause (Some (reads read next)) old new was is status text
  cause_on _ _ (no_command e only s) = cc
  cause_on _ _ (unread other status text way r only s) =
      unread other status text (inr (value, g, way)) (cause_before other old mid new status text (once.read_faults other.name) r) (read_then _ old _ new once only) s
  cause_on _ _ (refused reason text way only s) = refused reason text (value, g, way) (read_then _ old _ new once only) s
  cause_on _ _ (unwritten e status text way to only f t) = unwritten e status text (value, g, way) to (read_then _ old _ to once only) f t
  cause_on _ _ (memory_ended more passed only t) =
      memory_ended (suc more) (value, g, passed) (read_then more old _ new once only)
      (elim t [ inl same ↦ inl same | inr (e, way, part) ↦ inr (e, (value, g, way), part) ])

  yields_on : (result : Result Printed Refusal) → Yields (Some (next value)) (read_from old mid) new was is result → Yields (Some (reads read next)) old new was is result
  yields_on (Ok told) (e, made, s, t) = (
    e,
    record {
      leads = (value, g, made.leads);
      files = made.files;
      mid = made.mid;
      read = read_then _ old _ made.mid once made.read;
      wrote = made.wrote;
      taken = made.taken;
    },
    s,
    t,
  )
  yields_on (Err r) c = cause_on _ _ c

pub went_on : (read : Read) (next : Value read.want → Plan) (value : Value read.want) (old mid new : ShelfState) (was is : List ToolState)
    (result : Result Printed Refusal) → Gives old.contents read value → OnlyRead 1 old mid
    → Yields (Some (next value)) mid new was is result → Yields (Some (reads read next)) old new was is result
went_on read next value old mid new was is result g once y =
    let same = same_contents old.contents mid.contents once.contents in
    yields_on read next value old mid new was is g (subst (λ held. OnlyRead 1 old (record mid { contents = held })) same once) result
    (subst (λ held. Yields (Some (next value)) (record mid { contents = held }) new was is result) same y)

-- one that did not
pub stopped : (read : Read) (next : Value read.want → Plan) (old new : ShelfState) (tools : List ToolState) (refusal : Refusal)
    → ReadCause read old new (refusal_status refusal) (refusal_text refusal) → OnlyRead 1 old new
    → Yields (Some (reads read next)) old new tools tools (Err refusal)
stopped read next old new tools refusal r once = unread read (refusal_status refusal) (refusal_text refusal) (inl refl) r once refl

-- a refusal is of one status and line, but for want of memory
pub told_as : (P : ℕ → List ℕ → Type 0) (status : ℕ) (text : List ℕ) (refusal : Refusal) → IsRefusal status text refusal → P status text
    → P 14 no_memory_text → P (refusal_status refusal) (refusal_text refusal)
told_as P status text refusal (inl none) p q = subst (λ r. P (refusal_status r) (refusal_text r)) (sym none) q
told_as P status text refusal (inr (s, t)) p q = subst (λ n. P n (refusal_text refusal)) (sym s) (subst (P status) (sym t) p)

-- no read is passed
passes_none : (held : Option Contents) (plan : Option Plan) → PassesAll held plan 0
passes_none held None = refl
passes_none held (Some plan) = tt

-- want of memory
pub no_memory : (plan : Option Plan) (at : ShelfState) (tools : List ToolState) → Yields plan at at tools tools (Err NoMemory)
no_memory plan at tools = memory_ended 0 (passes_none at.contents plan) (none_read at) (inl refl)

-- what was read is refused
pub was_refused : (plan : Plan) (reason : Reason) (text : List ℕ) (at : ShelfState) (tools : List ToolState) (refusal : Refusal)
    → plan ≡ refusing reason text → IsRefusal (status_number (reason_status reason)) text refusal → Yields (Some plan) at at tools tools (Err refusal)
was_refused plan reason text at tools refusal e r =
    subst (λ p. Yields (Some p) at at tools tools (Err refusal)) (sym e)
    (told_as (Cause (Some (refusing reason text)) at at tools tools) (status_number (reason_status reason)) text refusal r (refused reason text refl (none_read at) refl)
    (no_memory (Some (refusing reason text)) at tools))

-- an effect without files is made where the shelf stands
pub made_here : (e : Effect) (at : ShelfState) (was is : List ToolState) → e.files ≡ [] → is ≡ fed e.kinds e.events was
    → IsCarriedOut (Some (ends (does e))) at at was is e
made_here e at was is none taken = record {
  leads = refl;
  files = subst (λ fs. WroteAll fs at.contents at.contents) (sym none) (unchanged_same at.contents);
  mid = at;
  read = none_read at;
  wrote = subst (λ (fs : List File). OnlyWrote (length fs) at at) (sym none) (none_written at);
  taken = taken;
}

-- or a text alone is told
pub took_text : (text : List ℕ) (finish : Finish) (at : ShelfState) (tools : List ToolState) (told : Printed) → told.status ≡ finish_status finish
    → told.text.items ≡ text → Yields (Some (printing text finish)) at at tools tools (Ok told)
took_text text finish at tools told s t = (prints text finish, made_here (prints text finish) at tools tools refl (sym (fed_none [] tools)), s, t)

-- a plan that is this one leads where it leads
pub leads_by : (held : Option Contents) {a b : Plan} (ending : Ending) → a ≡ b → LeadsTo held b ending → LeadsTo held a ending
leads_by held ending e l = subst (λ p. LeadsTo held p ending) (sym e) l

-- words that are no command
pub was_no_command : (at : ShelfState) (tools : List ToolState) (refusal : Refusal) → IsRefusal 2 bad_words_text refusal
    → Yields None at at tools tools (Err refusal)
was_no_command at tools refusal r =
    told_as (Cause None at at tools tools) 2 bad_words_text refusal r (no_command refl (none_read at) refl) (no_memory None at tools)

-- what comes of a plan comes of one that it is
pub planned : {a b : Option Plan} (old new : ShelfState) (was is : List ToolState) (result : Result Printed Refusal) → a ≡ b
    → Yields b old new was is result → Yields a old new was is result
planned old new was is result e y = subst (λ p. Yields p old new was is result) (sym e) y
