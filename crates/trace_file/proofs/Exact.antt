-- A spelling is the shortest where it has as many bytes as that.
use Rattle.std.proofs.Common.{◌≡◌, ◌≢◌, ℕ, ◌-◌, ◌^◌, ◌<◌, inl, inr, List, [], ◌∷◌, ◌++◌, length, sym, ap, ◌∙◌, subst, length-append, arith}
use Rattle.std.proofs.lemmas.Int.{ints}
use Rattle.std.specs.Prelude.{ℤ}
use Rattle.leb_binary.specs.Leb.{IsUnsigned, IsSigned, IsInSize, IsFront, HasNoFront}
use Rattle.leb_binary.specs.Shortest.{unsigned_bytes, signed_bytes}
use Rattle.leb_binary.proofs.Fronts.{one_unsigned, one_signed}
use Rattle.leb_binary.proofs.Spelled.{spelled_unsigned, spelled_signed}
use Rattle.trace_file.specs.Begins.{BeginsWithSpelling, NoneBegins}
use Rattle.trace_file.proofs.Apart.{no_item, other_item}
use Rattle.trace_file.specs.Fields.{FitsNumber}

-- spellings of one number, of one length, are one
same_unsigned : (size : ℕ) (a b : List ℕ) (n : ℕ) → IsUnsigned size a n → IsUnsigned size b n → length a ≡ length b → a ≡ b
same_unsigned size [] b n p q l = absurd p
same_unsigned size (c ∷ []) [] n p q l = absurd q
same_unsigned size (c ∷ c1 ∷ cs) [] n p q l = absurd q
same_unsigned size (c ∷ []) (d ∷ d1 ∷ ds) n p q l = absurd (omega arith)
same_unsigned size (c ∷ c1 ∷ cs) (d ∷ []) n p q l = absurd (omega arith)
same_unsigned size (c ∷ []) (d ∷ []) n p q l = ap (λ v. v ∷ []) (sym p.2 ∙ q.2)
same_unsigned size (c ∷ c1 ∷ cs) (d ∷ d1 ∷ ds) n p q l =
    let h : p.3 ≡ q.3 = omega arith in
    let e : c ≡ d = omega arith in
    ap (λ v. v ∷ c1 ∷ cs) e ∙ ap (λ l. d ∷ l) (same_unsigned (size - 7) (c1 ∷ cs) (d1 ∷ ds) q.3 (subst (IsUnsigned (size - 7) (c1 ∷ cs)) h p.4) q.4 (omega arith))

last_signed : (size c d : ℕ) (z : ℤ) → IsSigned size (c ∷ []) z → IsSigned size (d ∷ []) z → c ≡ d
last_signed size c d z (inl p) (inl q) = omega (arith, ints)
last_signed size c d z (inl p) (inr q) = absurd (omega (arith, ints))
last_signed size c d z (inr p) (inl q) = absurd (omega (arith, ints))
last_signed size c d z (inr p) (inr q) = omega (arith, ints)

same_signed : (size : ℕ) (a b : List ℕ) (z : ℤ) → IsSigned size a z → IsSigned size b z → length a ≡ length b → a ≡ b
same_signed size [] b z p q l = absurd p
same_signed size (c ∷ []) [] z p q l = absurd q
same_signed size (c ∷ c1 ∷ cs) [] z p q l = absurd q
same_signed size (c ∷ []) (d ∷ d1 ∷ ds) z p q l = absurd (omega arith)
same_signed size (c ∷ c1 ∷ cs) (d ∷ []) z p q l = absurd (omega arith)
same_signed size (c ∷ []) (d ∷ []) z p q l = ap (λ v. v ∷ []) (last_signed size c d z p q)
same_signed size (c ∷ c1 ∷ cs) (d ∷ d1 ∷ ds) z p q l =
    let h : p.3 ≡ q.3 = omega (arith, ints) in
    let e : c ≡ d = omega (arith, ints) in
    ap (λ v. v ∷ c1 ∷ cs) e ∙ ap (λ l. d ∷ l) (same_signed (size - 7) (c1 ∷ cs) (d1 ∷ ds) q.3 (subst (IsSigned (size - 7) (c1 ∷ cs)) h p.4) q.4 (omega arith))

-- what stands in front of the rest
front_length : (bytes front rest : List ℕ) → bytes ≡ front ++ rest → length bytes - length rest ≡ length front
front_length bytes front rest e = omega (arith, ap length e, length-append front rest)

pub exact_unsigned : (bytes rest : List ℕ) (n : ℕ) → IsFront (IsUnsigned 32) bytes rest n → n < 2 ^ 32
    → length bytes - length rest ≡ length (unsigned_bytes n) → BeginsWithSpelling FitsNumber unsigned_bytes bytes rest n
exact_unsigned bytes rest n (front, e, i) f l =
    let s = same_unsigned 32 front (unsigned_bytes n) n i (spelled_unsigned 32 n (omega arith) f) (omega (arith, front_length bytes front rest e)) in
    (f, e ∙ ap (λ b. b ++ rest) s)

pub other_unsigned : (bytes rest : List ℕ) (n : ℕ) → IsFront (IsUnsigned 32) bytes rest n
    → length bytes - length rest ≢ length (unsigned_bytes n) → NoneBegins FitsNumber unsigned_bytes bytes
other_unsigned bytes rest n i differs =
    other_item (IsUnsigned 32) FitsNumber unsigned_bytes (one_unsigned 32) (λ n f. spelled_unsigned 32 n (omega arith) f) bytes rest n i
    (λ s. differs (omega (arith, front_length bytes i.0 rest i.1, ap length s)))

-- of a number that is `y` too
pub exact_signed : (size : ℕ) (bytes rest : List ℕ) (z y : ℤ) → y ≡ z → IsFront (IsSigned size) bytes rest z → IsInSize size z
    → length bytes - length rest ≡ length (signed_bytes y) → BeginsWithSpelling (IsInSize size) signed_bytes bytes rest y
exact_signed size bytes rest z y same (front, e, i) f l =
    let s = same_signed size front (signed_bytes z) z i (spelled_signed size z f) (omega (arith, front_length bytes front rest e, ap (λ x. length (signed_bytes x)) same)) in
    (subst (IsInSize size) (sym same) f, e ∙ ap (λ b. b ++ rest) s ∙ ap (λ x. signed_bytes x ++ rest) (sym same))

pub other_signed : (size : ℕ) (bytes rest : List ℕ) (z y : ℤ) → y ≡ z → IsFront (IsSigned size) bytes rest z
    → length bytes - length rest ≢ length (signed_bytes y) → NoneBegins (IsInSize size) signed_bytes bytes
other_signed size bytes rest z y same i differs =
    other_item (IsSigned size) (IsInSize size) signed_bytes (one_signed size) (spelled_signed size) bytes rest z i
    (λ s. differs (omega (arith, front_length bytes i.0 rest i.1, ap length s, ap (λ x. length (signed_bytes x)) same)))

-- where no number stands, none does in its shortest spelling
pub no_unsigned : (bytes : List ℕ) → HasNoFront (IsUnsigned 32) bytes → NoneBegins FitsNumber unsigned_bytes bytes
no_unsigned bytes h = no_item (IsUnsigned 32) FitsNumber unsigned_bytes (one_unsigned 32) (λ n f. spelled_unsigned 32 n (omega arith) f) bytes h

pub no_signed : (size : ℕ) (bytes : List ℕ) → HasNoFront (IsSigned size) bytes → NoneBegins (IsInSize size) signed_bytes bytes
no_signed size bytes h = no_item (IsSigned size) (IsInSize size) signed_bytes (one_signed size) (spelled_signed size) bytes h
