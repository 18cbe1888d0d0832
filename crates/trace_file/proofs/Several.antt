-- Several things, one after the other, and their number in front.
use Rattle.std.proofs.Common.{◌≡◌, ℕ, ◌+◌, ◌<◌, ◌≤◌, List, [], ◌∷◌, ◌++◌, length, take, sym, ap, ◌∙◌, subst, append_assoc, append-nil, length-append, arith}
use Rattle.std.proofs.lemmas.List.{take_more}
use Rattle.std.proofs.lemmas.Option.{slice_get_within, get_or_from_slice_get, slice_get-get_or}
use Rattle.std.specs.Prelude.{flat_map, slice_get, Some, None}
use Rattle.std.specs.List.{AllByRecursion}
use Rattle.leb_binary.specs.Shortest.{unsigned_bytes}
use Rattle.trace_file.specs.Begins.{BeginsWithSpelling, NoneBegins}
use Rattle.trace_file.proofs.Apart.{AreApart, same_front}
use Rattle.wasm_num.specs.declared.Value.{Value}
use Rattle.wasm_num.specs.declared.Value.TheVariants.{I32, I64}
use Rattle.trace_file.specs.Fields.{FitsNumber, value_bytes, values_bytes}
use Rattle.trace_file.proofs.Spellings.{apart_number}

-- what holds of all of them holds of those behind others
pub behind : {A : Type 0} (P : A → Type 0) (xs ys : List A) → AllByRecursion P (xs ++ ys) → AllByRecursion P ys
behind P [] ys h = h
behind P (x ∷ xs) ys h = behind P xs ys h.1

pub one_more : {A : Type 0} (P : A → Type 0) (xs : List A) (x : A) → AllByRecursion P xs → P x → AllByRecursion P (xs ++ x ∷ [])
one_more P [] x h p = (p, tt)
one_more P (y ∷ xs) x h p = (h.0, one_more P xs x h.1 p)

pub flat_more : {A : Type 0} (f : A → List ℕ) (xs : List A) (x : A) (rest : List ℕ) → flat_map f xs ++ (f x ++ rest) ≡ flat_map f (xs ++ x ∷ []) ++ rest
flat_more f [] x rest = ap (λ l. l ++ rest) (sym (append-nil (f x)))
flat_more f (y ∷ xs) x rest = append_assoc (f y) (flat_map f xs) (f x ++ rest) ∙ ap (λ l. f y ++ l) (flat_more f xs x rest) ∙ sym (append_assoc (f y) (flat_map f (xs ++ x ∷ [])) rest)

module _ {A : Type 0} (fits : A → Type 0) (spelling : A → List ℕ) (a : AreApart fits spelling) where
  abbrev counted : List A → List ℕ
  counted xs = unsigned_bytes (length xs) ++ flat_map spelling xs

  abbrev AreCounted : List A → Type 0
  AreCounted xs = FitsNumber (length xs) × AllByRecursion fits xs

  -- where the next is none, they are not so many
  none_behind : (zs : List A) (left r : List ℕ) → NoneBegins fits spelling left → AllByRecursion fits zs → left ≡ flat_map spelling zs ++ r → 0 < length zs → ⊥
  none_behind [] left r h f e l = absurd (omega arith)
  none_behind (z ∷ zs) left r h f e l = h (flat_map spelling zs ++ r) z (f.0, e ∙ append_assoc (spelling z) (flat_map spelling zs) r)

  pub none_counted : (bytes mid left : List ℕ) (n : ℕ) (xs : List A) → BeginsWithSpelling FitsNumber unsigned_bytes bytes mid n → AllByRecursion fits xs → length xs < n
      → mid ≡ flat_map spelling xs ++ left → NoneBegins fits spelling left → NoneBegins AreCounted counted bytes
  none_counted bytes mid left n xs (f, d) fit l m h rest ys (g, e) =
      let e1 : unsigned_bytes n ++ mid ≡ unsigned_bytes (length ys) ++ (flat_map spelling ys ++ rest) = sym d ∙ e ∙ append_assoc (unsigned_bytes (length ys)) (flat_map spelling ys) rest in
      let t = apart_number.apart n (length ys) mid (flat_map spelling ys ++ rest) f g.0 e1 in
      let s = same_front fits spelling a xs ys left rest fit g.1 (omega arith) (sym m ∙ t.1) in
      let more : 0 < length s.0 = omega (arith, ap length s.1, length-append xs s.0) in
      none_behind s.0 left rest h (behind fits xs s.0 (subst (AllByRecursion fits) s.1 g.1)) s.2 more

  pub some_counted : (bytes mid left : List ℕ) (n : ℕ) (xs : List A) → BeginsWithSpelling FitsNumber unsigned_bytes bytes mid n → AllByRecursion fits xs → length xs ≡ n
      → mid ≡ flat_map spelling xs ++ left → BeginsWithSpelling AreCounted counted bytes left xs
  some_counted bytes mid left n xs (f, d) fit l m =
      ((subst FitsNumber (sym l) f, fit), d ∙ ap (λ k. unsigned_bytes k ++ mid) (sym l) ∙ ap (λ x. unsigned_bytes (length xs) ++ x) m ∙ sym (append_assoc (unsigned_bytes (length xs)) (flat_map spelling xs) left))

-- one more of the first
pub take_one : {A : Type 0} (xs : List A) (i : ℕ) (x : A) → slice_get xs i ≡ Some x → take (i + 1) xs ≡ take i xs ++ x ∷ []
take_one xs i x e = take_more xs i x (slice_get_within xs i x e) ∙ ap (λ y. take i xs ++ y ∷ []) (get_or_from_slice_get xs i x x e)

pub none_within : {A : Type 0} (xs : List A) (i : ℕ) → slice_get xs i ≡ None → i < length xs → ⊥
none_within [] i e l = absurd (omega arith)
none_within (x ∷ xs) i e l = let s = slice_get-get_or (x ∷ xs) i x l in cc

-- a value has a byte at least, so values have no fewer bytes than they are
value_long : (v : Value) → 1 ≤ length (value_bytes v)
value_long (I32 n) = omega arith
value_long (I64 n) = omega arith

pub values_long : (vs : List Value) → length vs ≤ length (values_bytes vs)
values_long vs = let l = length-append (unsigned_bytes (length vs)) (flat_map value_bytes vs) in let r = go vs in omega arith
  where
    go : (vs : List Value) → length vs ≤ length (flat_map value_bytes vs)
    go [] = omega arith
    go (v ∷ vs) = let l = length-append (value_bytes v) (flat_map value_bytes vs) in omega (arith, value_long v, go vs)
