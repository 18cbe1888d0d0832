-- A size, and the bytes that it cuts out.
use Rattle.std.proofs.Common.{◌≡◌, ℕ, ◌+◌, ◌<◌, ◌≤◌, inl, inr, List, ◌++◌, length, refl, sym, ap, ◌∙◌, subst, length-append, arith, take, drop}
use Rattle.std.proofs.lemmas.Bool.{cases_lt}
use Rattle.std.proofs.lemmas.List.{take-append-drop, length-take-le}
use Rattle.leb_binary.specs.Leb.{IsFront, HasNoFront}
use Rattle.leb_binary.specs.Reading.{IsSlice}
use Rattle.module_ast.specs.Binary.{IsU32, IsSized}
use Rattle.module_ast.proofs.Compose.{sized_some, sized_short, sized_none}

pub slice_parts : (n : ℕ) (start after taken : List ℕ) → IsFront (IsSlice n) start after taken → (start ≡ taken ++ after) × (length taken ≡ n)
slice_parts n start after taken (f, e, (p, l)) = (e ∙ ap (λ k. k ++ after) p, l)

pub slice_within : (n : ℕ) (start after taken : List ℕ) → IsFront (IsSlice n) start after taken → length taken ≤ length start
slice_within n start after taken s =
    let p = slice_parts n start after taken s in
    let h : length start ≡ length taken + length after = ap length p.0 ∙ length-append taken after in
    omega arith

pub slice_short : (n : ℕ) (start : List ℕ) → HasNoFront (IsSlice n) start → length start < n
slice_short n start h = elim (cases_lt (length start) n) [
  | inl l ↦ l
  | inr g ↦ absurd (h (drop n start) (take n start) (take n start, sym (take-append-drop n start), (refl, length-take-le n start g)))
]

module _ {A : Type 0} (item : List ℕ → A → Type 0) where
  pub sized_ok : (bytes start after taken : List ℕ) (n : ℕ) (x : A) → IsFront IsU32 bytes start n → IsFront (IsSlice n) start after taken → item taken x → IsFront (IsSized item) bytes after x
  sized_ok bytes start after taken n x c s i =
      let p = slice_parts n start after taken s in
      sized_some item bytes start taken after x (subst (λ k. IsFront IsU32 bytes start k) (sym p.1) c) p.0 i

  pub sized_lacks : (bytes start : List ℕ) (n : ℕ) → IsFront IsU32 bytes start n → HasNoFront (IsSlice n) start → HasNoFront (IsSized item) bytes
  sized_lacks bytes start n c h = sized_short item bytes start n c (slice_short n start h)

  pub sized_fails : (bytes start after taken : List ℕ) (n : ℕ) → IsFront IsU32 bytes start n → IsFront (IsSlice n) start after taken → ((x : A) → item taken x → ⊥) → HasNoFront (IsSized item) bytes
  sized_fails bytes start after taken n c s h =
      let p = slice_parts n start after taken s in
      sized_none item bytes start taken after n c p.0 p.1 h
