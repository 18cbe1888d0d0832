-- Items that begin with a byte that tells them apart.
use Rattle.std.proofs.Common.{◌≡◌, ℕ, List, ◌∷◌, ◌++◌, sym, ap, ◌∙◌}
use Rattle.leb_binary.specs.Leb.{IsFront}
use Rattle.leb_binary.specs.Reading.{IsByte}
use Rattle.module_ast.specs.Binary.{IsOp}

-- the byte, and what stands behind it
pub record OpParts (o b : ℕ) (P : List ℕ → Type 0) (mid rest : List ℕ) : Type 0 where
  pub opcode : b ≡ o
  pub inner : List ℕ
  pub behind : mid ≡ inner ++ rest
  pub operands : P inner

pub op_parts : (o : ℕ) (P : List ℕ → Type 0) (bytes mid rest front : List ℕ) (b : ℕ) → IsFront IsByte bytes mid b → bytes ≡ front ++ rest → IsOp o P front → OpParts o b P mid rest
op_parts o P bytes mid rest front b (f, e, (p, q)) h (inner, k, i) =
    let w : b ∷ mid ≡ o ∷ (inner ++ rest) = ap (λ l. l ++ mid) (sym p) ∙ sym e ∙ h ∙ ap (λ l. l ++ rest) k in
    let w1 : b ≡ o = cc in
    let w2 : mid ≡ inner ++ rest = cc in
    record { opcode = w1; inner = inner; behind = w2; operands = i }
