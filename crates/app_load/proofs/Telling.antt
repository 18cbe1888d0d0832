-- What the status of an ending tells.
use Rattle.std.proofs.Common.{◌≡◌, ℕ, ◌⊎◌, inl, inr, List, refl, sym, subst, arith, Option}
use Rattle.outside_io.specs.Outside.{Unchanged, ShelfState, PrintState}
use Rattle.analyses.specs.Tools.{ToolState}
use Rattle.app_load.specs.Feeding.{fed, AreFedPart}
use Rattle.app_load.specs.Printing.{said, said_part, said_no_memory}
use Rattle.app_load.specs.Wants.{Read, ReadCause, missing, too_long, unread, refuted, unread_no_memory}
use Rattle.app_load.specs.Plans.{Reason, no_call, reason_status, Finish, done, finish_status, File, Effect, refuses, does, Plan, Leads, Comes}
use Rattle.app_load.specs.Writing.{WroteSome, FilesCause}
use Rattle.app_load.specs.Ends as ends
use Rattle.app_load.specs.Ends.{TookSome, WrittenPart, Cause, no_command, refused, unwritten, memory_ended, Ends, answered, refused_with, Tells}
use Rattle.app_load.specs.Statuses.{Class, of_effects, status_number, class_of}
use Rattle.app_load.proofs.WantLaws.{laws}
use Rattle.app_load.proofs.Contents.{same_contents}
use Rattle.app_load.proofs.Shelves.{rose_before, all_some, files_why, files_some, files_there}
use Rattle.app_load.proofs.Fed.{all_part}

pub took_all : (plan : Option Plan) (old new : ShelfState) (was is : List ToolState) (e : Effect) → Leads old.contents plan (does e)
    → is ≡ fed e.kinds e.events was → TookSome plan old.contents was is
took_all plan old new was is e l t = (e, l, subst (AreFedPart e.kinds e.events was) (sym t) (all_part e.kinds e.events was))

some_of : (old mid new : ShelfState) (fs : List File) (status : ℕ) (text : List ℕ) → Unchanged old.contents mid.contents
    → FilesCause fs mid new status text → WroteSome fs old.contents new.contents
some_of old mid new fs status text p f = subst (λ held. WroteSome fs held new.contents) (same_contents old.contents mid.contents p) (files_some fs mid new status text f)

-- what stands and what was taken, whatever the cause
pub cause_memory : {plan : Option Plan} {old new : ShelfState} {was is : List ToolState} (status : ℕ) (text : List ℕ) → Cause plan old new was is status text
    → (Unchanged old.contents new.contents ⊎ WrittenPart plan old.contents new.contents) × ((is ≡ was) ⊎ TookSome plan old.contents was is)
cause_memory _ _ (no_command e only s) = (inl only.contents, inl s)
cause_memory _ _ (ends.unread read status text c r only s) = (inl only.contents, inl s)
cause_memory _ _ (refused reason text l only s) = (inl only.contents, inl s)
cause_memory {plan = plan} {old = old} {new = new} {was = was} {is = is} _ _ (unwritten e status text l mid only f t) =
    (inr (e, l, some_of old mid new e.files status text only.contents f), inr (took_all plan old new was is e l t))
cause_memory _ _ (memory_ended reads passed only t) = (inl only.contents, t)

-- a read that gave nothing
read_tells : (plan : Option Plan) (old new : ShelfState) (was is : List ToolState) (before after : PrintState) (read : Read) (status : ℕ) (text : List ℕ)
    → Comes old.contents plan read → ReadCause read old new status text → Unchanged old.contents new.contents → is ≡ was
    → Tells plan old new was is before after status (class_of status)
read_tells plan old new was is before after read _ _ c (missing m) u s = ((read, c, inl m), (u, s))
read_tells plan old new was is before after read _ _ c (too_long long t) u s = ((read, c, inr (long, t)), (u, s))
read_tells plan old new was is before after read _ _ c (unread r) u s = ((read, c, r), (u, s))
read_tells plan old new was is before after read _ _ c (refuted bytes status text i r) u s =
    let w = (laws read.want).refuted_wrong read.name bytes status text r in
    elim ((laws read.want).wrong_class bytes status w) [
      | inl e ↦ subst (Tells plan old new was is before after status) (sym e) ((read, bytes, c, i, w), (u, s))
      | inr e ↦ subst (Tells plan old new was is before after status) (sym e) (inl (read, bytes, c, i, w), (u, s))
    ]
read_tells plan old new was is before after read _ _ c unread_no_memory u s = (inl u, inl s)

-- a refusal of what was read
reason_tells : (plan : Option Plan) (old new : ShelfState) (was is : List ToolState) (before after : PrintState) (reason : Reason) (text : List ℕ)
    → Leads old.contents plan (refuses reason text) → Unchanged old.contents new.contents → is ≡ was
    → Tells plan old new was is before after (status_number (reason_status reason)) (class_of (status_number (reason_status reason)))
reason_tells plan old new was is before after no_call text l u s = (inr (no_call, text, l, refl), (u, s))
reason_tells plan old new was is before after reason text l u s = ((reason, text, l, refl), (u, s))

cause_tells : (plan : Option Plan) (old new : ShelfState) (was is : List ToolState) (before after : PrintState) (status : ℕ) (text : List ℕ)
    → Cause plan old new was is status text → Tells plan old new was is before after status (class_of status)
cause_tells plan old new was is before after _ _ (no_command e only s) = (e, (only.contents, s))
cause_tells plan old new was is before after _ _ (ends.unread read status text c r only s) =
    read_tells plan old new was is before after read status text c r only.contents s
cause_tells plan old new was is before after _ _ (refused reason text l only s) =
    reason_tells plan old new was is before after reason text l only.contents s
cause_tells plan old new was is before after _ _ (unwritten e status text l mid only f t) =
    let some = some_of old mid new e.files status text only.contents f in
    elim (files_why e.files mid new status text f) [
      | inl (five, r) ↦
          subst (λ n. Tells plan old new was is before after n (class_of n)) (sym five)
          (rose_before _ _ _ (omega (arith, only.write_faults)) r, (e, l, files_there e.files mid new status text f, some, t))
      | inr memory ↦
          subst (λ n. Tells plan old new was is before after n (class_of n)) (sym memory)
          (inr (e, l, some), inr (took_all plan old new was is e l t))
    ]
cause_tells plan old new was is before after _ _ (memory_ended reads passed only t) = (inl only.contents, t)

-- an effect whose text was printed
effect_tells : (plan : Option Plan) (old new : ShelfState) (was is : List ToolState) (before after : PrintState) (finish : Finish)
    → Tells plan old new was is before after (status_number (finish_status finish)) of_effects
    → Tells plan old new was is before after (status_number (finish_status finish)) (class_of (status_number (finish_status finish)))
effect_tells plan old new was is before after done t = t
effect_tells plan old new was is before after finish t = t

pub tells : {plan : Option Plan} {old new : ShelfState} {was is : List ToolState} {before after : PrintState} (status : ℕ)
    → Ends plan old new was is before after status → Tells plan old new was is before after status (class_of status)
tells {plan} {old} {new} {was} {is} {before} {after} _ (answered e m (said p once)) = effect_tells plan old new was is before after e.finish (e, m, refl, p)
tells _ (answered e m (said_part r p once)) = (r, (e, m, p))
tells {plan} {old} {new} {was} {is} _ (answered e m (said_no_memory prints few p only)) =
    (inr (e, m.leads, all_some e.files _ _ m.files), inr (took_all plan old new was is e m.leads m.taken))
tells _ (refused_with cause text c (said_no_memory prints few p only)) = cause_memory cause text c
tells {plan} {old} {new} {was} {is} {before} {after} _ (refused_with cause text c s) = cause_tells plan old new was is before after cause text c

-- at a status of this class
pub tells_at : {plan : Option Plan} {old new : ShelfState} {was is : List ToolState} {before after : PrintState} (status : ℕ) (class : Class)
    → Ends plan old new was is before after status → class_of status ≡ class → Tells plan old new was is before after status class
tells_at {plan} {old} {new} {was} {is} {before} {after} status class x e = subst (Tells plan old new was is before after status) e (tells status x)
