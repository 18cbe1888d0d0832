-- Runs of locals: what stands at an index, and one more run.
--     type_at, type_found      the type at a place is that of the first run that ends behind it
--     rises        runs end in order
--     Kept, kept_more      runs and the types still to come are the whole list;  and so with one more run
use Rattle.std.proofs.Common.{◌≡◌, ◌∙◌, ℕ, zero, suc, ◌+◌, ◌-◌, ◌<◌, ◌≤◌, List, [], ◌∷◌, ◌++◌, length, get_or, replicate, slice_get, Some, refl, sym, ap, append_assoc, append-nil, length-append, arith, suc-add, zero-add, true, false, leb, leb-true, leb-false}
use Rattle.std.proofs.lemmas.List.{length-replicate}
use Rattle.std.proofs.lemmas.Option.{none-some}
use Rattle.std.specs.Option.{option_map}
use Rattle.std.specs.List.Sorted.{IsNonDecreasingBy, IsPartitionPoint}
use Rattle.wasm_num.specs.declared.ValType.{ValType}
use Rattle.code_valid.specs.declared.locals.Run.{Run}
use Rattle.code_valid.specs.Locals.{types_from, RiseFrom}

get-replicate_append : (n k : ℕ) (t : ValType) (l : List ValType) → k < n → slice_get (replicate n t ++ l) k ≡ Some t
get-replicate_append zero k t l h = absurd (omega arith)
get-replicate_append (suc n) zero t l h = refl
get-replicate_append (suc n) (suc k) t l h = get-replicate_append n k t l (omega arith)

get_behind : (n k : ℕ) (t : ValType) (l : List ValType) → slice_get (replicate n t ++ l) (n + k) ≡ slice_get l k
get_behind zero k t l = ap (slice_get l) (zero-add k)
get_behind (suc n) k t l = ap (slice_get (replicate (suc n) t ++ l)) (suc-add n k) ∙ get_behind n k t l

pub type_at : (start x i : ℕ) (rs : List Run) → RiseFrom start rs → start ≤ x → ((k : ℕ) (d : Run) → k < i → (get_or rs k d).end ≤ x)
    → ((d : Run) → i < length rs → x < (get_or rs i d).end) → slice_get (types_from start rs) (x - start) ≡ option_map (λ (r : Run). r.ty) (slice_get rs i)
type_at start x i [] up from before behind = refl
type_at start x zero (r ∷ rs) up from before behind =
    let h : x < r.end = behind r (omega arith) in
    get-replicate_append (r.end - start) (x - start) r.ty (types_from r.end rs) (omega arith)
type_at start x (suc i) (r ∷ rs) up from before behind =
    let h : r.end ≤ x = before 0 r (omega arith) in
    let e : x - start ≡ (r.end - start) + (x - r.end) = omega (arith, up.0) in
    ap (slice_get (types_from start (r ∷ rs))) e
    ∙ get_behind (r.end - start) (x - r.end) r.ty (types_from r.end rs)
    ∙ type_at r.end x i rs up.1 h (λ k d lt. before (suc k) d (omega arith)) (λ d lt. behind d (omega arith))

-- what stands where the runs that end at or before a place end
pub type_found : (rs : List Run) (x i : ℕ) → RiseFrom 0 rs → IsPartitionPoint (λ (r : Run). leb r.end x ≡ true) (λ (r : Run). leb r.end x ≡ false) rs i
    → slice_get (types_from 0 rs) x ≡ option_map (λ (r : Run). r.ty) (slice_get rs i)
type_found rs x i up point =
    let start : x ≡ x - 0 = omega arith in
    ap (slice_get (types_from 0 rs)) start
    ∙ type_at 0 x i rs up (omega arith) (λ k d h. leb-true _ x (point.0 k d (omega arith) h)) (λ d h. leb-false _ x (point.1 i d (omega arith) h))

from_start : (start : ℕ) (rs : List Run) → RiseFrom start rs → (j : ℕ) (d : Run) → j < length rs → start ≤ (get_or rs j d).end
from_start start [] up j d h = absurd (omega arith)
from_start start (r ∷ rs) up zero d h = up.0
from_start start (r ∷ rs) up (suc j) d h = omega (arith, up.0, from_start r.end rs up.1 j d (omega arith))

pub rises : (start : ℕ) (rs : List Run) → RiseFrom start rs → IsNonDecreasingBy (λ (r : Run). r.end) rs
rises start [] up i j d le h = absurd (omega arith)
rises start (r ∷ rs) up zero zero d le h = omega arith
rises start (r ∷ rs) up zero (suc j) d le h = from_start r.end rs up.1 j d (omega arith)
rises start (r ∷ rs) up (suc i) zero d le h = absurd (omega arith)
rises start (r ∷ rs) up (suc i) (suc j) d le h = rises r.end rs up.1 i j d (omega arith) (omega arith)

-- where the last run ends
abbrev pub last_end : ℕ → List Run → ℕ
last_end start [] = start
last_end start (r ∷ rs) = last_end r.end rs

types-push : (start : ℕ) (rs : List Run) (r : Run) → types_from start (rs ++ r ∷ []) ≡ types_from start rs ++ replicate (r.end - last_end start rs) r.ty
types-push start [] r = append-nil (replicate (r.end - start) r.ty)
types-push start (q ∷ qs) r =
    ap (λ l. replicate (q.end - start) q.ty ++ l) (types-push q.end qs r)
    ∙ sym (append_assoc (replicate (q.end - start) q.ty) (types_from q.end qs) (replicate (r.end - last_end q.end qs) r.ty))

-- the last run
pub last_run : (start : ℕ) (rs : List Run) (r : Run) → Some r ≡ slice_get rs (length rs - 1) → r.end ≡ last_end start rs
last_run start [] r is = absurd (none-some r (sym is))
last_run start (q ∷ []) r is = let same : r ≡ q = cc in ap (λ (x : Run). x.end) same
last_run start (q ∷ (next ∷ rs)) r is =
    let e : length (q ∷ next ∷ rs) - 1 ≡ suc (length (next ∷ rs) - 1) = omega arith in
    last_run q.end (next ∷ rs) r (is ∙ ap (slice_get (q ∷ next ∷ rs)) e)

-- how many locals the runs hold
count_types_from : (start : ℕ) (rs : List Run) → RiseFrom start rs → start + length (types_from start rs) ≡ last_end start rs
count_types_from start [] up = omega arith
count_types_from start (r ∷ rs) up =
    let rest = count_types_from r.end rs up.1 in
    omega (arith, up.0, rest, length-append (replicate (r.end - start) r.ty) (types_from r.end rs), length-replicate (r.end - start) r.ty)

pub count_types : (rs : List Run) → RiseFrom 0 rs → length (types_from 0 rs) ≡ last_end 0 rs
count_types rs up = omega (arith, count_types_from 0 rs up)

rise-push : (start : ℕ) (rs : List Run) (r : Run) → RiseFrom start rs → last_end start rs ≤ r.end → RiseFrom start (rs ++ r ∷ [])
rise-push start [] r up h = (h, tt)
rise-push start (q ∷ qs) r up h = (up.0, rise-push q.end qs r up.1 h)

last-push : (start : ℕ) (rs : List Run) (r : Run) → last_end start (rs ++ r ∷ []) ≡ r.end
last-push start [] r = refl
last-push start (q ∷ qs) r = last-push q.end qs r

-- the runs so far, and the types still to come, are all of them
pub record Kept (rs : List Run) (end : ℕ) (rest all : List ValType) : Type 0 where
  pub rise : RiseFrom 0 rs
  pub last : last_end 0 rs ≡ end
  pub whole : types_from 0 rs ++ rest ≡ all

pub kept_more : (rs : List Run) (end next count : ℕ) (t : ValType) (rest all : List ValType) → next ≡ end + count → Kept rs end (replicate count t ++ rest) all
    → Kept (rs ++ record { end = next; ty = t } ∷ []) next rest all
kept_more rs end next count t rest all is k =
    let r : Run = record { end = next; ty = t } in
    let n : next - last_end 0 rs ≡ count = omega (arith, k.last) in
    record {
      rise = rise-push 0 rs r k.rise (omega (arith, k.last));
      last = last-push 0 rs r;
      whole =
          ap (λ l. l ++ rest) (types-push 0 rs r ∙ ap (λ c. types_from 0 rs ++ replicate c t) n)
          ∙ append_assoc (types_from 0 rs) (replicate count t) rest
          ∙ k.whole;
    }
