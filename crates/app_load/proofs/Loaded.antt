-- What was read from bytes, or why it was not.
use Rattle.std.proofs.Common.{◌≡◌, inl, inr, ℕ, List, sym, subst, subst₂, Option, Result, Ok, Err, IfOk}
use Rattle.outside_io.specs.Outside.{Contents, ShelfState}
use Rattle.wasm_sem.specs.Types.{Limits, Module}
use Rattle.module_ast.specs.Validation.{IsValid}
use Rattle.app_load.specs.Files.{IsFit}
use Rattle.app_load.specs.declared.printing.Refusal.{Refusal}
use Rattle.app_load.specs.Wants.{Want, content, Value, Read, read_as, IsRead, Gives, ReadCause, refuted, unread_no_memory}
use Rattle.app_load.specs.Outcomes.{refusal_status, refusal_text, IsRefusal, RefusedBy, Refuted}
use Rattle.app_load.proofs.Going.{told_as}

pub given_by : {E : Type 0} (want : Want) (result : Result (Value want) E) (held : Option Contents) (name : List ℕ) (cap : ℕ) (bytes : List ℕ)
    → IsRead held (read_as name cap want) bytes → IfOk result ((content want).Spell bytes) → IfOk result (Gives held (read_as name cap want))
given_by want (Ok value) held name cap bytes i k = record { bytes = bytes; read_well = i; spelled = k }
given_by want (Err e) held name cap bytes i k = tt

-- a refusal, or want of memory
pub refused_as : (want : Want) (name bytes : List ℕ) (status : ℕ) (text : List ℕ) (refusal : Refusal) → IsRefusal status text refusal
    → (content want).Refutes name bytes status text → Refuted want name bytes refusal
refused_as want name bytes status text refusal (inl none) r = inl none
refused_as want name bytes status text refusal (inr (s, t)) r = inr (subst₂ ((content want).Refutes name bytes) (sym s) (sym t) r)

pub refuted_by : (want : Want) (old new : ShelfState) (name : List ℕ) (cap : ℕ) (bytes : List ℕ) (refusal : Refusal)
    → IsRead old.contents (read_as name cap want) bytes → Refuted want name bytes refusal → RefusedBy (read_as name cap want) old new refusal
refuted_by want old new name cap bytes refusal i (inl none) =
    subst (λ r. ReadCause (read_as name cap want) old new (refusal_status r) (refusal_text r)) (sym none) unread_no_memory
refuted_by want old new name cap bytes refusal i (inr r) = refuted bytes (refusal_status refusal) (refusal_text refusal) i r

-- one of a name
pub read_refused : (read : Read) (old new : ShelfState) (status : ℕ) (text : List ℕ) (refusal : Refusal) → IsRefusal status text refusal
    → ReadCause read old new status text → RefusedBy read old new refusal
read_refused read old new status text refusal r c = told_as (ReadCause read old new) status text refusal r c unread_no_memory

-- a module that was shown valid
pub valid_fit : (limits : Limits) (bytes : List ℕ) (m v : Module) → v ≡ m → IsFit limits bytes m → IsValid m → IsFit limits bytes v × IsValid v
valid_fit limits bytes m v e f k = (subst (IsFit limits bytes) (sym e) f, subst IsValid (sym e) k)
