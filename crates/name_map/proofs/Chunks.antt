-- Sections and subsections behind one another.
use Rattle.std.proofs.Common.{◌≡◌, ◌≢◌, ℕ, ◌-◌, ◌<◌, inl, inr, ◌==◌, List, [], ◌∷◌, ◌++◌, length, Option, Some, None, Bool, true, false, find, option_map, codes, refl, sym, ap, ◌∙◌, subst, append_assoc, append-nil, length-append, arith, take, drop, OnErr, Ok, Err, Result, Bor}
use Rattle.std.specs.Option.{option_or, MatchOption}
use Rattle.std.specs.Bool.{then_some}
use Rattle.std.proofs.lemmas.Bool.{cases_lt}
use Rattle.std.proofs.lemmas.List.{take-append-drop, length-take-le, take_rest, drop_at}
use Rattle.std.proofs.lemmas.List.Folds.{find-append}
use Rattle.leb_binary.specs.Texts.{Text}
use Rattle.leb_binary.specs.Leb.{IsName, IsFront, HasNoFront}
use Rattle.leb_binary.specs.Fronts.{OneFront}
use Rattle.leb_binary.specs.Reading.{IsByte, IsSlice}
use Rattle.leb_binary.proofs.Fronts.{one_unsigned, front_one, one_name, cut}
use Rattle.module_ast.specs.Binary.{IsU32, AreItems, IsSized}
use Rattle.module_ast.proofs.Compose.{Read, one_both, sized_some, sized_short, both_some, both_none_first, both_none_second, sized_none_size}
use Rattle.module_ast.proofs.Tokens.{one_coded}
use Rattle.name_map.specs.Sections.{Chunk, chunk, IsChunk, content_of, IsNameSection, IsFirstNameSection}

-- what holds of any error
pub on_err : {A E : Type 0} (r : Result A E) {P : Type 0} → P → OnErr r P
on_err (Ok x) p = tt
on_err (Err e) p = p

-- ---- one way

one_byte : OneFront IsByte
one_byte = one_coded IsByte (λ b. b) (λ b. b) (λ b. refl) (λ bytes b h. h.0)

abbrev Content : List ℕ → List ℕ → Type 0
Content content x = content ≡ x

one_content : OneFront (IsSized Content)
one_content = record {
  one = λ a b x y m n (a0, a1, ea, pa, qa) (b0, b1, eb, pb, qb) e.
      let e1 : a0 ++ (a1 ++ x) ≡ b0 ++ (b1 ++ y) = sym (append_assoc a0 a1 x) ∙ ap (λ l. l ++ x) (sym ea) ∙ e ∙ ap (λ l. l ++ y) eb ∙ append_assoc b0 b1 y in
      let r = (one_unsigned 32).one a0 b0 (a1 ++ x) (b1 ++ y) (length a1) (length b1) pa pb e1 in
      let c = cut a1 b1 x y r.value r.rest in
      record { front = ea ∙ ap (λ l. l ++ a1) r.front ∙ ap (λ l. b0 ++ l) c.0 ∙ sym eb; rest = c.1; value = sym qa ∙ (c.0 ∙ qb) };
}

one_chunk : OneFront IsChunk
one_chunk = one_both IsByte (IsSized Content) (λ (c : Chunk). c.id) (λ (c : Chunk). c.content) (λ m n p q. ap (λ i. chunk i m.content) p ∙ ap (λ c. chunk n.id c) q) one_byte one_content

-- ---- a size, and the bytes that it cuts out

slice_parts : (n : ℕ) (start after taken : List ℕ) → IsFront (IsSlice n) start after taken → (start ≡ taken ++ after) × (length taken ≡ n)
slice_parts n start after taken (f, e, (p, l)) = (e ∙ ap (λ k. k ++ after) p, l)

slice_short : (n : ℕ) (start : List ℕ) → HasNoFront (IsSlice n) start → length start < n
slice_short n start h = elim (cases_lt (length start) n) [
  | inl l ↦ l
  | inr g ↦ absurd (h (drop n start) (take n start) (take n start, sym (take-append-drop n start), (refl, length-take-le n start g)))
]

pub chunk_none_id : (bytes : List ℕ) → HasNoFront IsByte bytes → HasNoFront IsChunk bytes
chunk_none_id bytes h = both_none_first IsByte (IsSized Content) (λ (c : Chunk). c.id) (λ (c : Chunk). c.content) bytes h

pub chunk_none_size : (bytes mid : List ℕ) (id : ℕ) → IsFront IsByte bytes mid id → HasNoFront IsU32 mid → HasNoFront IsChunk bytes
chunk_none_size bytes mid id f h =
    both_none_second IsByte (IsSized Content) (λ (c : Chunk). c.id) (λ (c : Chunk). c.content) bytes mid id one_byte f (sized_none_size Content mid h)

pub chunk_short : (bytes mid start : List ℕ) (id n : ℕ) → IsFront IsByte bytes mid id → IsFront IsU32 mid start n → HasNoFront (IsSlice n) start → HasNoFront IsChunk bytes
chunk_short bytes mid start id n f c h =
    both_none_second IsByte (IsSized Content) (λ (c : Chunk). c.id) (λ (c : Chunk). c.content) bytes mid id one_byte f (sized_short Content mid start n c (slice_short n start h))

pub chunk_some : (bytes mid start rest content : List ℕ) (id n : ℕ) → IsFront IsByte bytes mid id → IsFront IsU32 mid start n → IsFront (IsSlice n) start rest content → IsFront IsChunk bytes rest (chunk id content)
chunk_some bytes mid start rest content id n f c s =
    let p = slice_parts n start rest content s in
    both_some IsByte (IsSized Content) bytes mid rest id content f
    (sized_some Content mid start content rest content (subst (λ k. IsFront IsU32 mid start k) (sym p.1) c) p.0 refl)

pub chunk_shorter : (bytes rest : List ℕ) (c : Chunk) → IsFront IsChunk bytes rest c → length rest < length bytes
chunk_shorter bytes rest c (front, e, (a, b, d, (i, j), s)) =
    omega (arith, ap length e, length-append front rest, ap length d, length-append a b, ap length i)

-- ---- chunks that fill the bytes

nothing_shorter : (n : ℕ) (left : List ℕ) → left ≡ [] → n < length left → ⊥
nothing_shorter n left e h = omega (arith, ap length e)

-- where more bytes are left and no chunk stands there, they are no chunks
pub not_chunks : (bytes left : List ℕ) (cs ds : List Chunk) → Read IsChunk bytes left cs → HasNoFront IsChunk left → (left ≡ [] → ⊥) → AreItems IsChunk bytes ds → ⊥
not_chunks bytes left [] [] (f, e, p) h some q = some (sym (e ∙ ap (λ k. k ++ left) p) ∙ q)
not_chunks bytes left [] (y ∷ ys) (f, e, p) h some (g0, g1, k, i, j) = h g1 y (g0, sym (e ∙ ap (λ b. b ++ left) p) ∙ k, i)
not_chunks bytes left (x ∷ xs) [] (f, e, (f0, f1, c, a, b)) h some q =
    nothing_shorter (length (f1 ++ left)) bytes q (chunk_shorter bytes (f1 ++ left) x (f0, e ∙ ap (λ l. l ++ left) c ∙ append_assoc f0 f1 left, a))
not_chunks bytes left (x ∷ xs) (y ∷ ys) (f, e, (f0, f1, c, a, b)) h some (g0, g1, k, i, j) =
    let t = front_one IsChunk one_chunk bytes (f1 ++ left) g1 x y (f0, e ∙ ap (λ l. l ++ left) c ∙ append_assoc f0 f1 left, a) (g0, k, i) in
    not_chunks (f1 ++ left) left xs ys (f1, refl, b) h some (subst (λ l. AreItems IsChunk l ys) (sym t.0) j)

-- those that were read are all, where the bytes are chunks and no further one stands there
pub all_chunks : (bytes left : List ℕ) (cs ds : List Chunk) → Read IsChunk bytes left cs → HasNoFront IsChunk left → AreItems IsChunk bytes ds → AreItems IsChunk bytes cs
all_chunks bytes [] cs ds (f, e, p) h q = subst (λ b. AreItems IsChunk b cs) (sym (e ∙ append-nil f)) p
all_chunks bytes (b ∷ left) cs ds r h q = absurd (not_chunks bytes (b ∷ left) cs ds r h (λ z. cc) q)

-- one list of chunks
pub one_list : (bytes : List ℕ) (cs ds : List Chunk) → AreItems IsChunk bytes cs → AreItems IsChunk bytes ds → cs ≡ ds
one_list bytes [] [] p q = refl
one_list bytes [] (y ∷ ys) p (g0, g1, k, i, j) = absurd (nothing_shorter (length g1) bytes p (chunk_shorter bytes g1 y (g0, k, i)))
one_list bytes (x ∷ xs) [] (f0, f1, c, a, b) q = absurd (nothing_shorter (length f1) bytes q (chunk_shorter bytes f1 x (f0, c, a)))
one_list bytes (x ∷ xs) (y ∷ ys) (f0, f1, c, a, b) (g0, g1, k, i, j) =
    let t = front_one IsChunk one_chunk bytes f1 g1 x y (f0, c, a) (g0, k, i) in
    ap (λ l. x ∷ l) (one_list f1 xs ys b (subst (λ l. AreItems IsChunk l ys) (sym t.0) j)) ∙ ap (λ z. z ∷ ys) t.1

-- ---- the first of an id

first_or : (id : ℕ) (c : Chunk) (o : Option Chunk) (b : Bool) → (c.id == id) ≡ b
    → option_map (λ (d : Chunk). d.content) (option_or o (find (λ (d : Chunk). d.id == id) (c ∷ []))) ≡ option_or (option_map (λ (d : Chunk). d.content) o) (then_some b c.content)
first_or id c (Some d) b e = refl
first_or id c None true e = rw e refl
first_or id c None false e = rw e refl

pub content_push : (id : ℕ) (cs : List Chunk) (c : Chunk) → content_of id (cs ++ c ∷ []) ≡ option_or (content_of id cs) (then_some (c.id == id) c.content)
content_push id cs c =
    ap (option_map (λ (d : Chunk). d.content)) (find-append (λ (d : Chunk). d.id == id) cs (c ∷ [])) ∙ first_or id c (find (λ (d : Chunk). d.id == id) cs) (c.id == id) refl

-- slices, and their bytes
abbrev pub seen : Option (Bor (List ℕ)) → Option (List ℕ)
seen o = option_map (λ (b : Bor (List ℕ)). b.now) o

pub seen_or : (o p : Option (Bor (List ℕ))) → seen (option_or o p) ≡ option_or (seen o) (seen p)
seen_or None p = refl
seen_or (Some x) p = refl

pub seen_then : (b : Bool) (x : Bor (List ℕ)) → seen (then_some b x) ≡ then_some b x.now
seen_then true x = refl
seen_then false x = refl

-- ---- `name` sections

pub no_name : (c : Chunk) → HasNoFront IsName c.content → (subs : List ℕ) → IsNameSection c subs → ⊥
no_name c h subs (i, name, is, front) = h subs name front

pub other_name : (c : Chunk) (rest : List ℕ) (name : Text) → IsFront IsName c.content rest name → name.bytes ≢ codes "name" → (subs : List ℕ) → IsNameSection c subs → ⊥
other_name c rest name here other subs (i, found, is, front) =
    other (ap (λ (t : Text). t.bytes) (front_one IsName one_name c.content rest subs name found here front).1 ∙ is)

-- what stands behind a name that was read
pub rest_behind : {A : Type 0} (item : List ℕ → A → Type 0) (content left : List ℕ) (x : A) (place : ℕ) → IsFront item content left x → place ≡ length content - length left
    → take (length content - place) (drop place content) ≡ left
rest_behind item content left x place (front, e, p) is =
    let many : place ≡ length front = omega (arith, is, ap length e, length-append front left) in
    take_rest content place ∙ (ap (λ k. drop k content) many ∙ (ap (drop (length front)) e ∙ drop_at front left (length front) refl))

-- the first of them, with one section more
pub first_push : (cs : List Chunk) (c : Chunk) (found next : Option (List ℕ)) → IsFirstNameSection cs found
    → MatchOption next ((subs : List ℕ) → IsNameSection c subs → ⊥) (IsNameSection c) → IsFirstNameSection (cs ++ c ∷ []) (option_or found next)
first_push [] c None None e h = inr (h, refl)
first_push [] c None (Some subs) e h = inl (subs, h, refl)
first_push [] c (Some other) next e h = absurd cc
first_push (b ∷ cs) c found next (inl (subs, is, e)) h = inl (subs, is, ap (λ o. option_or o next) e)
first_push (b ∷ cs) c found next (inr (not, first)) h = inr (not, first_push cs c found next first h)

pub seen_matches : (P : Type 0) (Q : List ℕ → Type 0) (o : Option (Bor (List ℕ))) → MatchOption o P (λ (b : Bor (List ℕ)). Q b.now) → MatchOption (seen o) P Q
seen_matches P Q None h = h
seen_matches P Q (Some b) h = h
