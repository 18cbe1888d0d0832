-- A block's type, by the signed number of 33 bits that it is.
use Rattle.std.proofs.Common.{◌≡◌, ◌≢◌, ℕ, suc, ◌+◌, ◌≤◌, ◌<◌, inl, inr, List, [], ◌∷◌, ◌++◌, length, refl, sym, ap, subst, arith, length-append, w64, to_z, of_z}
use Rattle.std.specs.Prelude.{ℤ, pos, negsuc, ◌<ℤ◌}
use Rattle.std.proofs.lemmas.Int.{ints}
use Rattle.wasm_num.specs.declared.ValType.TheVariants.{I32, I64}
use Rattle.leb_binary.specs.Leb.{IsSigned, IsFront, HasNoFront}
use Rattle.leb_binary.proofs.Fronts.{one_signed, front_one}
use Rattle.leb_binary.proofs.Numbers.{within_signed}
use Rattle.module_ast.specs.Binary.Grammar as grammar
use Rattle.module_ast.specs.Binary.{BlockTypeNode, IsBlockType}

-- the number, of one byte and negative where it is no index
abbrev block_number : BlockTypeNode → ℤ
block_number grammar.empty = negsuc 63
block_number (grammar.value (grammar.integer I32)) = negsuc 0
block_number (grammar.value (grammar.integer I64)) = negsuc 1
block_number (grammar.value grammar.f32) = negsuc 2
block_number (grammar.value grammar.f64) = negsuc 3
block_number (grammar.indexed x) = pos x

-- one byte with the sign bit
negative_byte : (bytes : List ℕ) (b n : ℕ) → bytes ≡ b ∷ [] → 64 ≤ b → b + n ≡ 127 → IsSigned 33 bytes (negsuc n)
negative_byte bytes b n e l h = subst (λ bytes. IsSigned 33 bytes (negsuc n)) (sym e) (inr (l, omega arith, omega arith, omega (arith, ints)))

block_signed : (bytes : List ℕ) (t : BlockTypeNode) → IsBlockType bytes t → IsSigned 33 bytes (block_number t)
block_signed bytes grammar.empty e = negative_byte bytes 0x40 63 e (omega arith) refl
block_signed bytes (grammar.value (grammar.integer I32)) e = negative_byte bytes 0x7F 0 e (omega arith) refl
block_signed bytes (grammar.value (grammar.integer I64)) e = negative_byte bytes 0x7E 1 e (omega arith) refl
block_signed bytes (grammar.value grammar.f32) e = negative_byte bytes 0x7D 2 e (omega arith) refl
block_signed bytes (grammar.value grammar.f64) e = negative_byte bytes 0x7C 3 e (omega arith) refl
block_signed bytes (grammar.indexed x) h = h

-- no such number is there
pub block_type_end : (bytes : List ℕ) → HasNoFront (IsSigned 33) bytes → HasNoFront IsBlockType bytes
block_type_end bytes h after t (front, e, i) = h after (block_number t) (front, e, block_signed front t i)

-- what is known of a block's type where another number is at the front
block_front : (bytes rest after : List ℕ) (z : ℤ) (t : BlockTypeNode) → IsFront (IsSigned 33) bytes rest z → IsFront IsBlockType bytes after t → (rest ≡ after) × (z ≡ block_number t)
block_front bytes rest after z t f (front, e, i) = front_one (IsSigned 33) (one_signed 33) bytes rest after z (block_number t) f (front, e, block_signed front t i)

-- what is negative is one byte
value_length : (bytes : List ℕ) (t : BlockTypeNode) → IsBlockType bytes t → block_number t <ℤ pos 0 → length bytes ≡ 1
value_length bytes (grammar.indexed x) i n = absurd (omega (arith, ints, n))
value_length bytes (grammar.value (grammar.integer I32)) i n = ap length i
value_length bytes (grammar.value (grammar.integer I64)) i n = ap length i
value_length bytes (grammar.value grammar.f32) i n = ap length i
value_length bytes (grammar.value grammar.f64) i n = ap length i
value_length bytes grammar.empty i n = ap length i

pub block_type_long : (bytes rest : List ℕ) (z : ℤ) → IsFront (IsSigned 33) bytes rest z → z <ℤ pos 0 → suc (length rest) < length bytes → HasNoFront IsBlockType bytes
block_type_long bytes rest z f n l after t (front, e, i) =
    let k = block_front bytes rest after z t f (front, e, i) in
    let s = value_length front t i (subst (λ z. z <ℤ pos 0) k.1 n) in
    omega (arith, l, s, ap length k.0, ap length e, length-append front after)

-- a negative number that is no type
pub block_type_none : (bytes rest : List ℕ) (z : ℤ) → IsFront (IsSigned 33) bytes rest z → z <ℤ pos 0 → z ≢ negsuc 63 → z ≢ negsuc 0 → z ≢ negsuc 1 → z ≢ negsuc 2 → z ≢ negsuc 3 → HasNoFront IsBlockType bytes
block_type_none bytes rest z f n h h1 h2 h3 h4 after (grammar.indexed x) g = let e = (block_front bytes rest after z (grammar.indexed x) f g).1 in omega (arith, ints)
block_type_none bytes rest z f n h h1 h2 h3 h4 after grammar.empty g = h (block_front bytes rest after z grammar.empty f g).1
block_type_none bytes rest z f n h h1 h2 h3 h4 after (grammar.value (grammar.integer I32)) g = h1 (block_front bytes rest after z (grammar.value (grammar.integer I32)) f g).1
block_type_none bytes rest z f n h h1 h2 h3 h4 after (grammar.value (grammar.integer I64)) g = h2 (block_front bytes rest after z (grammar.value (grammar.integer I64)) f g).1
block_type_none bytes rest z f n h h1 h2 h3 h4 after (grammar.value grammar.f32) g = h3 (block_front bytes rest after z (grammar.value grammar.f32) f g).1
block_type_none bytes rest z f n h h1 h2 h3 h4 after (grammar.value grammar.f64) g = h4 (block_front bytes rest after z (grammar.value grammar.f64) f g).1

-- one byte of a negative number
byte_of : (front : List ℕ) (z : ℤ) (b n : ℕ) → IsSigned 33 front z → z ≡ negsuc n → b + n ≡ 127 → length front ≤ 1 → front ≡ b ∷ []
byte_of [] z b n h e s l = absurd h
byte_of (d ∷ []) z b n (inl h) e s l = absurd (omega (arith, ints, h.2, e))
byte_of (d ∷ []) z b n (inr h) e s l = let k : d ≡ b = omega (arith, ints, h.3, e, s) in ap (λ d. d ∷ []) k
byte_of (d ∷ c ∷ ds) z b n h e s l = absurd (omega (arith, l))

-- a negative number of one byte
pub sole_byte : (bytes rest : List ℕ) (z : ℤ) (b n : ℕ) → IsFront (IsSigned 33) bytes rest z → z ≡ negsuc n → b + n ≡ 127 → length bytes ≤ suc (length rest)
    → (front : List ℕ) × (bytes ≡ front ++ rest) × (front ≡ b ∷ [])
sole_byte bytes rest z b n (front, e, h) k s l = (front, e, byte_of front z b n h k s (omega (arith, l, ap length e, length-append front rest)))

-- the number as one of 64 bits
pub number_is : (bytes rest : List ℕ) (z : ℤ) → IsFront (IsSigned 33) bytes rest z → to_z w64 (of_z w64 z) ≡ z
number_is bytes rest z (front, e, h) = let w = within_signed 33 front z (omega arith) h in omega (arith, ints, w.least, w.most)

-- an index
pub index_is : (bytes rest : List ℕ) (z : ℤ) (n : ℕ) → IsFront (IsSigned 33) bytes rest z → z ≡ pos n → IsFront IsBlockType bytes rest (grammar.indexed n)
index_is bytes rest z n (front, e, h) k = (front, e, subst (IsSigned 33 front) k h)
