-- Types: what stands at the front of bytes.
use Rattle.std.proofs.Common.{◌≡◌, ℕ, List, ◌∷◌, ◌++◌, refl, sym, ap, ◌∙◌, subst, arith}
use Rattle.std.specs.Prelude.{Option, Some, None, true, false}
use Rattle.leb_binary.specs.Leb.{IsFront, HasNoFront}
use Rattle.leb_binary.specs.Reading.{IsByte}
use Rattle.leb_binary.proofs.Fronts.{one_unsigned, front_one}
use Rattle.module_ast.specs.declared.module.Range.{Range}
use Rattle.module_ast.specs.Binary.{IsU32, Both, AreLimits, IsMemoryType, IsMutability}
use Rattle.module_ast.proofs.Compose.{both_some, both_parts, op_end}
use Rattle.code_decode.proofs.TypeBytes.{no_byte}
use Rattle.wasm_decode.proofs.Ops.{op_parts}

-- ---- limits: with no maximum, or with one

pub limits_end : (bytes : List ℕ) → HasNoFront IsByte bytes → HasNoFront IsMemoryType bytes
limits_end bytes h after r p = go r.min r.max p
  where
    go : (m : ℕ) (x : Option ℕ) → (front : List ℕ) × (bytes ≡ front ++ after) × AreLimits front m x → ⊥
    go m None p = op_end IsU32 0 bytes (omega arith) h after m p
    go m (Some n) p = op_end (λ l (q : ℕ × ℕ). Both IsU32 IsU32 l q.0 q.1) 1 bytes (omega arith) h after (m, n) p

pub limits_no_min : (bytes mid : List ℕ) (b : ℕ) → IsFront IsByte bytes mid b → HasNoFront IsU32 mid → HasNoFront IsMemoryType bytes
limits_no_min bytes mid b f h after r p = go r.min r.max p
  where
    go : (m : ℕ) (x : Option ℕ) → (front : List ℕ) × (bytes ≡ front ++ after) × AreLimits front m x → ⊥
    go m None (front, e, i) =
        let r = op_parts 0 (λ rest. IsU32 rest m) bytes mid after front b f e i in
        h after m (r.inner, r.behind, r.operands)
    go m (Some n) (front, e, i) =
        let r = op_parts 1 (λ rest. Both IsU32 IsU32 rest m n) bytes mid after front b f e i in
        let t = both_parts IsU32 IsU32 mid after r.inner m n r.behind r.operands in
        h t.0 m t.1

pub limits_no_max : (bytes mid more : List ℕ) (b least : ℕ) → IsFront IsByte bytes mid b → b ≡ 1 → IsFront IsU32 mid more least → HasNoFront IsU32 more → HasNoFront IsMemoryType bytes
limits_no_max bytes mid more b least f one m0 h after r p = go r.min r.max p
  where
    go : (m : ℕ) (x : Option ℕ) → (front : List ℕ) × (bytes ≡ front ++ after) × AreLimits front m x → ⊥
    go m None (front, e, i) =
        let z = (op_parts 0 (λ rest. IsU32 rest m) bytes mid after front b f e i).opcode in
        absurd (omega (arith, z, one))
    go m (Some n) (front, e, i) =
        let r = op_parts 1 (λ rest. Both IsU32 IsU32 rest m n) bytes mid after front b f e i in
        let t = both_parts IsU32 IsU32 mid after r.inner m n r.behind r.operands in
        let s = front_one IsU32 (one_unsigned 32) mid more t.0 least m m0 t.1 in
        h after n (subst (λ l. IsFront IsU32 l after n) (sym s.0) t.2)

abbrev range_with : ℕ → Option ℕ → Range
range_with m x = record { min = m; max = x }

pub limits_without : (bytes mid rest : List ℕ) (b m : ℕ) → IsFront IsByte bytes mid b → b ≡ 0 → IsFront IsU32 mid rest m → IsFront IsMemoryType bytes rest (range_with m None)
limits_without bytes mid rest b m (f, e, (p, q)) h (inner, k, i) =
    (0 ∷ inner, e ∙ ap (λ l. l ++ mid) p ∙ ap (λ v. v ∷ mid) h ∙ ap (λ l. 0 ∷ l) k, (inner, refl, i))

pub limits_with : (bytes mid more rest : List ℕ) (b m n : ℕ) → IsFront IsByte bytes mid b → b ≡ 1 → IsFront IsU32 mid more m → IsFront IsU32 more rest n → IsFront IsMemoryType bytes rest (range_with m (Some n))
limits_with bytes mid more rest b m n (f, e, (p, q)) h g j =
    let (inner, k, i) = both_some IsU32 IsU32 mid more rest m n g j in
    (1 ∷ inner, e ∙ ap (λ l. l ++ mid) p ∙ ap (λ v. v ∷ mid) h ∙ ap (λ l. 1 ∷ l) k, (inner, refl, i))

-- ---- mutability

pub mutability_end : (bytes : List ℕ) → HasNoFront IsByte bytes → HasNoFront IsMutability bytes
mutability_end bytes h after false (front, e, i) = no_byte bytes after 0 front h (omega arith) e i
mutability_end bytes h after true (front, e, i) = no_byte bytes after 1 front h (omega arith) e i
