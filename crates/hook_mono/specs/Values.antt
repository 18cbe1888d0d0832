-- The words of a hook call, which are numbers of 32 bits, and the values that they stand for.
use Rattle.std.specs.Prelude.{ℕ, ◌+◌, ◌*◌, ◌^◌, ℤ, List, [], ◌∷◌, map, All, unwrap_or, slice_get}
use Rattle.std.specs.Int.{w32, cast_signed}
use Rattle.wasm_num.specs.declared.ValType.{ValType}
use Rattle.wasm_num.specs.declared.ValType.TheVariants as types
use Rattle.wasm_num.specs.declared.Value.{Value}
use Rattle.wasm_num.specs.declared.Value.TheVariants.{I32, I64}

-- a number of 32 bits
abbrev pub IsWord : Value → Type 0
IsWord (I32 n) = Unit {0}
IsWord (I64 n) = ⊥

abbrev pub AreWords : List Value → Type 0
AreWords vs = All IsWord vs

abbrev pub value_number : Value → ℕ
value_number (I32 n) = n
value_number (I64 n) = n

abbrev pub numbers : List Value → List ℕ
numbers vs = map value_number vs

-- the values of these types, as far as there are words for them; the low word of an i64 comes first
abbrev pub values_from : List ValType → (words : List ℕ) → List Value
values_from [] ws = []
values_from (types.I32 ∷ ts) [] = []
values_from (types.I32 ∷ ts) (w ∷ ws) = I32 w ∷ values_from ts ws
values_from (types.I64 ∷ ts) [] = []
values_from (types.I64 ∷ ts) (low ∷ []) = []
values_from (types.I64 ∷ ts) (low ∷ (high ∷ ws)) = I64 (low + high * 2 ^ 32) ∷ values_from ts ws

-- value i, then its number without a sign, and then its number with a sign; a value that is missing is 0
abbrev pub value_at : List Value → ℕ → Value
value_at vs i = unwrap_or (slice_get vs i) (I32 0)

abbrev pub number_at : List Value → ℕ → ℕ
number_at vs i = value_number (value_at vs i)

abbrev pub signed_at : List Value → ℕ → ℤ
signed_at vs i = cast_signed w32 (number_at vs i)
