-- No spelling of a field begins another of its kind.
use Rattle.std.proofs.Common.{◌≡◌, ℕ, ◌-◌, ◌^◌, ◌<◌, List, [], ◌∷◌, ◌++◌, length, refl, sym, ap, ◌∙◌, append_assoc, append-nil, arith}
use Rattle.std.proofs.lemmas.Int.{ints, of_z-to_z}
use Rattle.std.proofs.lemmas.List.{length-append, nil_from_length}
use Rattle.std.specs.Prelude.{ℤ, pos, negsuc, ◌≤ℤ◌, Option, Some, None, flat_map}
use Rattle.std.specs.Int.{Width, w32, w64, cast_signed, cast_unsigned}
use mir.Val.{bits}
use Rattle.leb_binary.specs.Leb.{IsUnsigned, IsSigned, IsInSize}
use Rattle.leb_binary.specs.Shortest.{unsigned_bytes, signed_bytes}
use Rattle.leb_binary.proofs.Fronts.{one_unsigned, one_signed}
use Rattle.leb_binary.proofs.Spelled.{spelled_unsigned, spelled_signed}
use Rattle.wasm_num.specs.declared.Value.{Value}
use Rattle.wasm_num.specs.declared.Value.TheVariants.{I32, I64}
use Rattle.trace_file.proofs.Apart.{AreApart, apart_item, same_front}
use Rattle.trace_file.specs.Fields.{FitsNumber, FitsLocation, FitsValue, FitsCallee, FitValues, place_bytes, value_bytes, callee_bytes, values_bytes}

pub apart_number : AreApart FitsNumber unsigned_bytes
apart_number = apart_item (IsUnsigned 32) FitsNumber unsigned_bytes (one_unsigned 32) (λ n f. spelled_unsigned 32 n (omega arith) f)

pub apart_signed : (size : ℕ) → AreApart (IsInSize size) signed_bytes
apart_signed size = apart_item (IsSigned size) (IsInSize size) signed_bytes (one_signed size) (spelled_signed size)

pub apart_place : AreApart FitsLocation place_bytes
apart_place = record {
  apart = λ x y r s f g e.
      let e1 : unsigned_bytes x.func ++ (signed_bytes x.instr ++ r) ≡ unsigned_bytes y.func ++ (signed_bytes y.instr ++ s) =
      sym (append_assoc (unsigned_bytes x.func) (signed_bytes x.instr) r) ∙ e ∙ append_assoc (unsigned_bytes y.func) (signed_bytes y.instr) s in
      let t = apart_number.apart x.func y.func (signed_bytes x.instr ++ r) (signed_bytes y.instr ++ s) f.0 g.0 e1 in
      let u = (apart_signed 32).apart x.instr y.instr r s f.1 g.1 t.1 in
      (λ i. record { func = t.0 i; instr = u.0 i }, u.1);
}

-- the bits of a size, read as a signed number
pub in_32 : (z : ℤ) → negsuc (2 ^ 31 - 1) ≤ℤ z → z ≤ℤ pos (2 ^ 31 - 1) → IsInSize 32 z
in_32 (pos n) l h = omega (arith, ints)
in_32 (negsuc n) l h = omega (arith, ints)

pub in_64 : (z : ℤ) → negsuc (2 ^ 63 - 1) ≤ℤ z → z ≤ℤ pos (2 ^ 63 - 1) → IsInSize 64 z
in_64 (pos n) l h = omega (arith, ints)
in_64 (negsuc n) l h = omega (arith, ints)

pub signed_32 : (n : ℕ) → n < 2 ^ 32 → IsInSize 32 (cast_signed w32 n)
signed_32 n f = in_32 (cast_signed w32 n) (omega (arith, ints)) (omega (arith, ints))

pub signed_64 : (n : ℕ) → n < 2 ^ 64 → IsInSize 64 (cast_signed w64 n)
signed_64 n f = in_64 (cast_signed w64 n) (omega (arith, ints)) (omega (arith, ints))

bits_told : (w : Width) (m n : ℕ) → m < 2 ^ bits w → n < 2 ^ bits w → cast_signed w m ≡ cast_signed w n → m ≡ n
bits_told w m n f g e = sym (of_z-to_z w m f) ∙ ap (cast_unsigned w) e ∙ of_z-to_z w n g

first_byte : (a b : ℕ) (r s : List ℕ) → a ∷ r ≡ b ∷ s → a ≡ b
first_byte a b r s e = cc

pub apart_value : AreApart FitsValue value_bytes
apart_value = record { apart = told }
  where
    told : (x y : Value) (r s : List ℕ) → FitsValue x → FitsValue y → value_bytes x ++ r ≡ value_bytes y ++ s → (x ≡ y) × (r ≡ s)
    told (I32 m) (I32 n) r s f g e =
        let e1 : signed_bytes (cast_signed w32 m) ++ r ≡ signed_bytes (cast_signed w32 n) ++ s = cc in
        let t = (apart_signed 32).apart (cast_signed w32 m) (cast_signed w32 n) r s (signed_32 m f) (signed_32 n g) e1 in
        (ap I32 (bits_told w32 m n f g t.0), t.1)
    told (I32 m) (I64 n) r s f g e = let c = first_byte 0x7F 0x7E _ _ e in absurd (omega arith)
    told (I64 m) (I32 n) r s f g e = let c = first_byte 0x7E 0x7F _ _ e in absurd (omega arith)
    told (I64 m) (I64 n) r s f g e =
        let e1 : signed_bytes (cast_signed w64 m) ++ r ≡ signed_bytes (cast_signed w64 n) ++ s = cc in
        let t = (apart_signed 64).apart (cast_signed w64 m) (cast_signed w64 n) r s (signed_64 m f) (signed_64 n g) e1 in
        (ap I64 (bits_told w64 m n f g t.0), t.1)

pub apart_callee : AreApart FitsCallee callee_bytes
apart_callee = record { apart = told }
  where
    told : (x y : Option ℕ) (r s : List ℕ) → FitsCallee x → FitsCallee y → callee_bytes x ++ r ≡ callee_bytes y ++ s → (x ≡ y) × (r ≡ s)
    told None None r s f g e = let t : r ≡ s = cc in (refl, t)
    told None (Some n) r s f g e = let c = first_byte 0x00 0x01 _ _ e in absurd (omega arith)
    told (Some m) None r s f g e = let c = first_byte 0x01 0x00 _ _ e in absurd (omega arith)
    told (Some m) (Some n) r s f g e =
        let e1 : unsigned_bytes m ++ r ≡ unsigned_bytes n ++ s = cc in
        let t = apart_number.apart m n r s f g e1 in
        (ap Some t.0, t.1)

pub apart_values : AreApart FitValues values_bytes
apart_values = record {
  apart = λ x y r s f g e.
      let e1 : unsigned_bytes (length x) ++ (flat_map value_bytes x ++ r) ≡ unsigned_bytes (length y) ++ (flat_map value_bytes y ++ s) =
      sym (append_assoc (unsigned_bytes (length x)) (flat_map value_bytes x) r) ∙ e ∙ append_assoc (unsigned_bytes (length y)) (flat_map value_bytes y) s in
      let t = apart_number.apart (length x) (length y) (flat_map value_bytes x ++ r) (flat_map value_bytes y ++ s) f.0 g.0 e1 in
      let u = same_front FitsValue value_bytes apart_value x y r s f.1 g.1 (omega arith) t.1 in
      let n : length u.0 ≡ 0 = omega (arith, ap length u.1, length-append x u.0) in
      let z : u.0 ≡ [] = nil_from_length u.0 n in
      (sym (append-nil x) ∙ ap (λ l. x ++ l) (sym z) ∙ sym u.1, u.2 ∙ ap (λ l. flat_map value_bytes l ++ s) z);
}
