-- Vectors of bytes.
use Rattle.std.proofs.Common.{◌≡◌, ℕ, suc, ◌<◌, List, [], ◌∷◌, ◌++◌, length, get_or, refl, sym, ap, ◌∙◌, subst, append_assoc}
use Rattle.leb_binary.specs.Leb.{IsFront, HasNoFront}
use Rattle.leb_binary.specs.Reading.{IsSlice}
use Rattle.leb_binary.proofs.Fronts.{one_unsigned, front_one}
use Rattle.leb_binary.specs.Reading.{IsByte}
use Rattle.module_ast.specs.Binary.{IsU32, IsVec, AreItems}
use Rattle.module_ast.proofs.Compose.{vec_some}
use Rattle.wasm_decode.proofs.Slices.{slice_parts}

-- bytes are items
pub are_bytes : (bs : List ℕ) → ((i : ℕ) → get_or bs i 0 < 256) → AreItems IsByte bs bs
are_bytes [] h = refl
are_bytes (b ∷ bs) h = (b ∷ [], bs, refl, (refl, h 0), are_bytes bs (λ i. h (suc i)))

bytes_fill : (front xs : List ℕ) → AreItems IsByte front xs → front ≡ xs
bytes_fill front [] p = p
bytes_fill front (x ∷ xs) (f, r, e, (p, q), h) = e ∙ ap (λ l. l ++ r) p ∙ ap (λ l. x ∷ l) (bytes_fill r xs h)

pub bytes_short : (bytes start : List ℕ) (n : ℕ) → IsFront IsU32 bytes start n → HasNoFront (IsSlice n) start → HasNoFront (IsVec IsByte) bytes
bytes_short bytes start n c h rest xs (front, e, (f, g, d, p, q)) =
    let t = front_one IsU32 (one_unsigned 32) bytes start (g ++ rest) n (length xs) c (f, e ∙ ap (λ l. l ++ rest) d ∙ append_assoc f g rest, p) in
    h rest g (g, t.0, (refl, ap length (bytes_fill g xs q) ∙ sym t.1))

pub bytes_some : (bytes start rest taken : List ℕ) (n : ℕ) (copied : List ℕ) → IsFront IsU32 bytes start n → IsFront (IsSlice n) start rest taken → AreItems IsByte taken taken → copied ≡ taken → IsFront (IsVec IsByte) bytes rest copied
bytes_some bytes start rest taken n copied c s a e =
    let p = slice_parts n start rest taken s in
    subst (λ l. IsFront (IsVec IsByte) bytes rest l) (sym e) (vec_some IsByte bytes start rest n taken c (taken, p.0, a) p.1)
