-- ASCII is UTF-8.
use Rattle.std.proofs.Common.{◌≡◌, ℕ, ◌<◌, List, [], ◌∷◌, ◌++◌, true, arith}
use Rattle.std.specs.Prelude.{nat_lt}
use Rattle.std.specs.List.{AllByRecursion}
use Rattle.std.specs.Str.{is_utf8}
use Rattle.std.proofs.lemmas.Bool.{and_from, and_parts}
use Rattle.std.proofs.lemmas.Bool.Decides.{nat_tests}
use Rattle.std.proofs.lemmas.List.Elements.{All-from_recursion}
use Rattle.std.proofs.lemmas.Str.{is_utf8-from_IsUtf8, IsUtf8-from_ascii}
use Rattle.std.proofs.lemmas.Str.Ascii.{IsAscii-from_all}
use Rattle.leb_binary.specs.Ascii.{is_ascii}

small_byte : (b : ℕ) → nat_lt b 128 ≡ true → b < 128
small_byte b h = grind (arith, nat_tests)

small_bytes : (bs : List ℕ) → is_ascii bs ≡ true → AllByRecursion (λ b. b < 128) bs
small_bytes [] h = tt
small_bytes (b ∷ bs) h = let k = and_parts (nat_lt b 128) (is_ascii bs) h in (small_byte b k.0, small_bytes bs k.1)

pub ascii_utf8 : (bs : List ℕ) → is_ascii bs ≡ true → is_utf8 bs ≡ true
ascii_utf8 bs h = is_utf8-from_IsUtf8 bs (IsUtf8-from_ascii bs (IsAscii-from_all bs (All-from_recursion (λ b. b < 128) bs (small_bytes bs h))))

-- ASCII behind ASCII
pub ascii_both : (front more : List ℕ) → is_ascii front ≡ true → is_ascii more ≡ true → is_ascii (front ++ more) ≡ true
ascii_both [] more h k = k
ascii_both (b ∷ bs) more h k = let r = and_parts (nat_lt b 128) (is_ascii bs) h in and_from (nat_lt b 128) (is_ascii (bs ++ more)) r.0 (ascii_both bs more r.1 k)
