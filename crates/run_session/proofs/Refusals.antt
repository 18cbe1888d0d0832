-- Refusals one after another, and those of calls.
use Rattle.std.proofs.Common.{◌≡◌, ℕ, zero, suc, ◌+◌, ◌<◌, ℤ, List, [], ◌∷◌, length, drop, Option, Some, None, Result, Ok, Err, Bool, true, false, ◌&&◌, ◌⊎◌, inl, inr, refl, sym, ap, ◌∙◌, subst, slice_get, option_and_then, get_or, add-one}
use Rattle.std.proofs.lemmas.List.{drop_more}
use Rattle.std.specs.Result.{IsErrAnd}
use Rattle.wasm_sem.specs.Types.{ValType, FuncType, Module}
use Rattle.module_ast.specs.Structure.{funcs_of}
use Rattle.module_ast.specs.Validation.{func_type, IsValid, IsComplete}
use Rattle.wasm_sem.specs.declared.Call.{Call}
use Rattle.wasm_sem.specs.Execution.{Callee, callee_type, callees_of, func_at, exported_func, Refusal, first_refusal, fits_type, fit_types, call_refusal, calls_refusal}
use Rattle.wasm_sem.proofs.SoundCallees.{AreCallees, are_callees}
use Rattle.run_session.specs.declared.link.LinkFault.{LinkFault}
use Rattle.run_session.specs.declared.link.LinkFault.TheVariants.{NoExport, BadArgs, MemoryCap, TableCap, SegmentRange, NoMemory}
use Rattle.run_session.specs.Linking.{TellsRefusal, ChecksRefusal, exported_type, type_refusal}

-- ---- one after another

first_told : (q : Refusal) (r rest : Option Refusal) → r ≡ Some q → first_refusal r rest ≡ Some q
first_told q None rest h = cc
first_told q (Some p) rest h = h

-- a fault that tells the first of two
pub told_first : (fault : LinkFault) (r rest : Option Refusal) → TellsRefusal fault r → TellsRefusal fault (first_refusal r rest)
told_first (NoExport n) r rest h = first_told _ r rest h
told_first (BadArgs n) r rest h = first_told _ r rest h
told_first (MemoryCap n) r rest h = first_told _ r rest h
told_first (TableCap n) r rest h = first_told _ r rest h
told_first SegmentRange r rest h = first_told _ r rest h
told_first NoMemory r rest h = tt

-- what an error is passed on as
pub told_on : {A : Type 0} (result : Result A LinkFault) (fault : LinkFault) (r : Option Refusal) → IsErrAnd result (λ e. e ≡ fault) → TellsRefusal fault r → ChecksRefusal result r
told_on (Ok a) fault r h k = absurd h
told_on (Err e) fault r h k = subst (λ f. TellsRefusal f r) (sym h) k

-- the first of two is not there
pub passed : (r rest : Option Refusal) → r ≡ None → first_refusal r rest ≡ rest
passed None rest h = refl
passed (Some q) rest h = cc

-- ---- the function of a call

-- a function and its type, or neither
abbrev IsTypedAt : List FuncType → List ℕ → List Callee → ℕ → Type 0
IsTypedAt types xs cs f =
    ((x : ℕ) × (c : Callee) × (slice_get xs f ≡ Some x) × (slice_get cs f ≡ Some c) × (slice_get types x ≡ Some (callee_type c)))
    ⊎ ((slice_get xs f ≡ None) × (slice_get cs f ≡ None))

typed_at : (types : List FuncType) (xs : List ℕ) (cs : List Callee) (f : ℕ) → AreCallees types xs cs → IsTypedAt types xs cs f
typed_at types [] [] f h = inr (refl, refl)
typed_at types [] (c ∷ cs) f h = absurd h
typed_at types (x ∷ xs) [] f h = absurd h
typed_at types (x ∷ xs) (c ∷ cs) zero h = inl (x, c, refl, refl, h.0)
typed_at types (x ∷ xs) (c ∷ cs) (suc f) h = typed_at types xs cs f h.1

func_is : (m : Module) (f x : ℕ) (ty : FuncType) → slice_get (funcs_of m) f ≡ Some x → slice_get m.types x ≡ Some ty → func_type m f ≡ Some ty
func_is m f x ty h k = rw h k

func_is_not : (m : Module) (f : ℕ) → slice_get (funcs_of m) f ≡ None → func_type m f ≡ None
func_is_not m f h = rw h refl

-- a call is refused by the type of its function
pub refused_alike : (m : Module) → IsValid m → IsComplete m → (n : ℕ) (args : List ℤ) (name : List ℕ)
    → type_refusal n args (exported_type m name) ≡ call_refusal n args (func_at (callees_of m) (exported_func name m.exports))
refused_alike m valid complete n args name = by_index (exported_func name m.exports)
  where
    by_view : (f : ℕ) → IsTypedAt m.types (funcs_of m) (callees_of m) f → type_refusal n args (func_type m f) ≡ call_refusal n args (slice_get (callees_of m) f)
    by_view f (inl v) = ap (type_refusal n args) (func_is m f v.0 (callee_type v.1) v.2 v.4) ∙ sym (ap (call_refusal n args) v.3)
    by_view f (inr v) = ap (type_refusal n args) (func_is_not m f v.0) ∙ sym (ap (call_refusal n args) v.1)

    by_index : (o : Option ℕ) → type_refusal n args (option_and_then (func_type m) o) ≡ call_refusal n args (func_at (callees_of m) o)
    by_index None = refl
    by_index (Some f) = by_view f (typed_at m.types (funcs_of m) (callees_of m) f (are_callees m valid complete.bodies))

-- ---- a script's calls

-- what is left from a call on
split_at : (calls : List Call) (n : ℕ) (c : Call) → n < length calls → c ≡ get_or calls n c → drop n calls ≡ c ∷ drop (n + 1) calls
split_at calls n c within is = drop_more calls n c within ∙ ap (λ d. d ∷ drop (n + 1) calls) (sym is)

module _ (m : Module) (valid : IsValid m) (complete : IsComplete m) (calls : List Call) (n : ℕ) (c : Call) (within : n < length calls) (is : c ≡ get_or calls n c) where
  -- it is not refused
  pub call_passed : type_refusal n c.args (exported_type m c.export.bytes) ≡ None → calls_refusal m n (drop n calls) ≡ calls_refusal m (n + 1) (drop (n + 1) calls)
  call_passed h =
      ap (calls_refusal m n) (split_at calls n c within is)
      ∙ passed _ (calls_refusal m (suc n) (drop (n + 1) calls)) (sym (refused_alike m valid complete n c.args c.export.bytes) ∙ h)
      ∙ ap (λ k. calls_refusal m k (drop (n + 1) calls)) (sym (add-one n))

  -- it is
  pub call_told : (fault : LinkFault) → TellsRefusal fault (type_refusal n c.args (exported_type m c.export.bytes)) → TellsRefusal fault (calls_refusal m n (drop n calls))
  call_told fault h =
      subst (λ l. TellsRefusal fault (calls_refusal m n l)) (sym (split_at calls n c within is))
      (told_first fault _ (calls_refusal m (suc n) (drop (n + 1) calls)) (subst (TellsRefusal fault) (refused_alike m valid complete n c.args c.export.bytes) h))

-- ---- numbers of arguments

and_false : (b c : Bool) → false ≡ c → false ≡ (b && c)
and_false true c h = h
and_false false c h = refl

-- fewer or more numbers than types
pub unfit_lengths : (types : List ValType) (numbers : List ℤ) → (length types ≡ length numbers → ⊥) → false ≡ fit_types types numbers
unfit_lengths [] [] h = absurd (h refl)
unfit_lengths [] (z ∷ zs) h = refl
unfit_lengths (t ∷ ts) [] h = refl
unfit_lengths (t ∷ ts) (z ∷ zs) h = and_false (fits_type t z) (fit_types ts zs) (unfit_lengths ts zs (λ e. h (ap suc e)))
