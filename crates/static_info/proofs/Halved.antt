-- A list of blocks cut in halves.
--     span_count      one span for each piece
--     HalvesApart, halves_apart      the spans of the first half, and those of the second
--     some_spans, whole_over      the last span is over all blocks
--     spans_joined, span_of_one      the spans of two halves and of both, and of one block
--     nothing_around, around_two      no block that ends before a position or begins behind it contains it
--     take_on      so many at most of a list whose front is already so many at most
use Rattle.std.proofs.Common.{◌≡◌, ℕ, zero, suc, ◌-◌, ◌*◌, ◌/◌, ◌<◌, ◌≤◌, ℤ, int_lt, ◌≤ℤ◌, List, [], ◌∷◌, ◌++◌, length, get_or, take, drop, reverse, filter, Bool, true, false, ◌&&◌, cond, refl, sym, ap, ap₂, ◌∙◌, subst, subst₂, append_assoc, append-nil, length-append, length-take, arith}
use Rattle.std.proofs.lemmas.Int.{ints}
use Rattle.std.proofs.lemmas.List.{reverse-append, take_at, take_all, drop_at, take-append-drop, length-take-le, get_or_at}
use Rattle.std.proofs.lemmas.List.Elements.{filter-append}
use Rattle.branch_resolve.specs.declared.Block.{Block}
use Rattle.static_info.specs.declared.blocks.Span.{Span}
use Rattle.static_info.specs.Read.{contains, within_block}
use Rattle.static_info.specs.Halves.{span_of, Halves, nothing, one, two, cut_blocks, cut_spans, IsSpanOver, IsHalved, AreSpansOf, AddSpansOf}

pub span_count : (h : Halves) → IsHalved h → length (cut_spans h) ≡ 2 * length (cut_blocks h) - 1
span_count nothing h = refl
span_count (one b) h = refl
span_count (two s xs ys) h =
    let first = span_count xs h.3 in
    let second = span_count ys h.4 in
    omega (arith, h.1, h.2, length-append (cut_spans xs) (cut_spans ys ++ s ∷ []), length-append (cut_spans ys) (s ∷ []), length-append (cut_blocks xs) (cut_blocks ys))

-- ---- the two halves

pub record HalvesApart (blocks : List Block) (pieces : List Span) : Type 0 where
  pub first : AreSpansOf (take (length blocks / 2) blocks) (take (2 * (length blocks / 2) - 1) pieces)
  pub second : AreSpansOf (drop (length blocks / 2) blocks) (drop (2 * (length blocks / 2) - 1) pieces)
  pub within : 2 * (length blocks / 2) - 1 ≤ length pieces

apart : (h : Halves) → IsHalved h → 2 ≤ length (cut_blocks h) → HalvesApart (cut_blocks h) (take (length (cut_spans h) - 1) (cut_spans h))
apart nothing h l = absurd (omega arith)
apart (one b) h l = absurd (omega arith)
apart (two s xs ys) h l =
    let all = cut_blocks xs ++ cut_blocks ys in
    let k : length (cut_blocks xs) ≡ length all / 2 = h.2 in
    let m : length (cut_spans xs) ≡ 2 * (length all / 2) - 1 = omega (arith, h.2, span_count xs h.3) in
    let pieces = cut_spans xs ++ cut_spans ys in
    let count : length pieces ≡ length (pieces ++ s ∷ []) - 1 = omega (arith, length-append pieces (s ∷ [])) in
    let without : take (length (cut_spans xs ++ (cut_spans ys ++ s ∷ [])) - 1) (cut_spans xs ++ (cut_spans ys ++ s ∷ [])) ≡ pieces =
    ap (λ (l : List Span). take (length l - 1) l) (sym (append_assoc (cut_spans xs) (cut_spans ys) (s ∷ []))) ∙ take_at pieces (s ∷ []) _ count in
    subst (HalvesApart all) (sym without) (record {
      first = record {
        halves = xs;
        halved = h.3;
        of = sym (take_at (cut_blocks xs) (cut_blocks ys) _ k);
        noted = sym (take_at (cut_spans xs) (cut_spans ys) _ m);
      };
      second = record {
        halves = ys;
        halved = h.4;
        of = sym (drop_at (cut_blocks xs) (cut_blocks ys) _ k);
        noted = sym (drop_at (cut_spans xs) (cut_spans ys) _ m);
      };
      within = omega (arith, m, length-append (cut_spans xs) (cut_spans ys));
    })

-- the spans of the pieces of two blocks and more, the last of all of them left out
pub halves_apart : (blocks : List Block) (spans : List Span) → AreSpansOf blocks spans → 2 ≤ length blocks → HalvesApart blocks (take (length spans - 1) spans)
halves_apart blocks spans h l =
    subst₂ (λ (bs : List Block) (ss : List Span). HalvesApart bs (take (length ss - 1) ss)) h.of h.noted (apart h.halves h.halved (subst (λ (bs : List Block). 2 ≤ length bs) (sym h.of) l))

-- some block, some span
pub some_spans : (blocks : List Block) (spans : List Span) → AreSpansOf blocks spans → 0 < length blocks → 0 < length spans
some_spans blocks spans h l = omega (arith, l, ap length h.of, ap length h.noted, span_count h.halves h.halved)

last_over : (h : Halves) → IsHalved h → 0 < length (cut_blocks h) → (d : Span) → IsSpanOver (get_or (cut_spans h) (length (cut_spans h) - 1) d) (cut_blocks h)
last_over nothing h l d = absurd (omega arith)
last_over (one b) h l d = (omega (arith, ints), omega (arith, ints), tt)
last_over (two s xs ys) h l d =
    let pieces = cut_spans xs ++ cut_spans ys in
    let count : length pieces ≡ length (pieces ++ s ∷ []) - 1 = omega (arith, length-append pieces (s ∷ [])) in
    let last : get_or (cut_spans xs ++ (cut_spans ys ++ s ∷ [])) (length (cut_spans xs ++ (cut_spans ys ++ s ∷ [])) - 1) d ≡ s =
    ap (λ (l : List Span). get_or l (length l - 1) d) (sym (append_assoc (cut_spans xs) (cut_spans ys) (s ∷ []))) ∙ get_or_at pieces s [] d _ count in
    subst (λ (t : Span). IsSpanOver t (cut_blocks xs ++ cut_blocks ys)) (sym last) h.0

-- the last span is over all blocks
pub whole_over : (blocks : List Block) (spans : List Span) → AreSpansOf blocks spans → 0 < length blocks → (d : Span) → IsSpanOver (get_or spans (length spans - 1) d) blocks
whole_over blocks spans h l d =
    subst₂ (λ (bs : List Block) (ss : List Span). IsSpanOver (get_or ss (length ss - 1) d) bs) h.of h.noted (last_over h.halves h.halved (subst (λ (bs : List Block). 0 < length bs) (sym h.of) l) d)

-- ---- spans that are made

pub span_of_one : (b : Block) → AreSpansOf (b ∷ []) (record { begin = b.begin; end = b.end } ∷ [])
span_of_one b = record { halves = one b; halved = tt; of = refl; noted = refl }

-- the spans of one block
pub one_noted : (blocks : List Block) (old new : List Span) (d : Block) (s : Span) → length blocks ≡ 1 → s ≡ span_of (get_or blocks 0 d)
    → new ≡ old ++ s ∷ [] → AddSpansOf blocks old new
one_noted [] old new d s l is e = absurd (omega arith)
one_noted (c ∷ []) old new d s l is e = record { more = s ∷ []; are = subst (λ (t : Span). AreSpansOf (c ∷ []) (t ∷ [])) (sym is) (span_of_one c); added = e }
one_noted (c ∷ (b ∷ bs)) old new d s l is e = absurd (omega arith)

over_both : (s : Span) (xs ys : List Block) → IsSpanOver s xs → IsSpanOver s ys → IsSpanOver s (xs ++ ys)
over_both s [] ys h k = k
over_both s (x ∷ xs) ys h k = (h.0, h.1, over_both s xs ys h.2 k)

over_more : (s t : Span) (bs : List Block) → t.begin ≤ℤ s.begin → s.end ≤ℤ t.end → IsSpanOver s bs → IsSpanOver t bs
over_more s t [] l m h = tt
over_more s t (b ∷ bs) l m h =
    let begin = h.0 in
    let end = h.1 in
    (omega (arith, ints), omega (arith, ints), over_more s t bs l m h.2)

-- the span over both halves
pub over_two : (s t u : Span) (xs ys : List Block) → IsSpanOver s xs → IsSpanOver t ys
    → u.begin ≤ℤ s.begin → u.begin ≤ℤ t.begin → s.end ≤ℤ u.end → t.end ≤ℤ u.end → IsSpanOver u (xs ++ ys)
over_two s t u xs ys h k a b c d = over_both u xs ys (over_more s u xs a c h) (over_more t u ys b d k)

-- the spans of both halves, and of the whole behind them
pub spans_joined : (blocks : List Block) (old one_more both all : List Span) (u : Span)
    → AddSpansOf (take (length blocks / 2) blocks) old one_more → AddSpansOf (drop (length blocks / 2) blocks) one_more both
    → 2 ≤ length blocks → IsSpanOver u blocks → all ≡ both ++ u ∷ [] → AddSpansOf blocks old all
spans_joined blocks old one_more both all u h k l over e =
    let n = length blocks / 2 in
    let xs = h.are.halves in
    let ys = k.are.halves in
    let of : cut_blocks xs ++ cut_blocks ys ≡ blocks = ap₂ (λ (a b : List Block). a ++ b) h.are.of k.are.of ∙ take-append-drop n blocks in
    let count : length (cut_blocks xs) ≡ n = ap length h.are.of ∙ length-take-le n blocks (omega arith) in
    record {
      more = h.more ++ (k.more ++ u ∷ []);
      are = record {
        halves = two u xs ys;
        halved = (
          subst (IsSpanOver u) (sym of) over,
          omega arith,
          count ∙ ap (λ (bs : List Block). length bs / 2) (sym of),
          h.are.halved,
          k.are.halved,
        );
        of = of;
        noted = ap₂ (λ (a b : List Span). a ++ (b ++ u ∷ [])) h.are.noted k.are.noted;
      };
      added =
          e ∙ ap (λ l. l ++ u ∷ []) (k.added ∙ ap (λ l. l ++ k.more) h.added)
          ∙ ap (λ l. l ++ u ∷ []) (append_assoc old h.more k.more)
          ∙ append_assoc old (h.more ++ k.more) (u ∷ [])
          ∙ ap (λ l. old ++ l) (append_assoc h.more k.more (u ∷ []));
    }

-- ---- what contains a position

outside : (s : Span) (p : ℤ) (b : Block) → s.begin ≤ℤ b.begin → b.end ≤ℤ s.end → (int_lt s.begin p && int_lt p s.end) ≡ false → contains p b ≡ false
outside s p b l m h = grind (arith, ints)

none_inside : (s : Span) (p : ℤ) (bs : List Block) → IsSpanOver s bs → (int_lt s.begin p && int_lt p s.end) ≡ false → filter (contains p) bs ≡ []
none_inside s p [] h e = refl
none_inside s p (b ∷ bs) h e = ap (λ c. cond c (b ∷ filter (contains p) bs) (filter (contains p) bs)) (outside s p b h.0 h.1 e) ∙ none_inside s p bs h.2 e

pub nothing_around : (s : Span) (p : ℤ) (bs : List Block) → IsSpanOver s bs → (int_lt s.begin p && int_lt p s.end) ≡ false → within_block p bs ≡ []
nothing_around s p bs h e = ap reverse (none_inside s p bs h e)

-- where the position is not inside the span
pub left_out : (s : Span) (p q : ℤ) (bs : List Block) (r : Bool) → q ≡ p → IsSpanOver s bs → r ≡ (int_lt s.begin q && int_lt q s.end) → r ≡ false → within_block p bs ≡ []
left_out s p q bs r same over is out = nothing_around s p bs over (ap (λ z. int_lt s.begin z && int_lt z s.end) (sym same) ∙ sym is ∙ out)

only_one : (h : Halves) → IsHalved h → length (cut_blocks h) ≡ 1 → (d : Span) (e : Block) (p : ℤ)
    → (let s = get_or (cut_spans h) (length (cut_spans h) - 1) d in (int_lt s.begin p && int_lt p s.end) ≡ true) → within_block p (cut_blocks h) ≡ get_or (cut_blocks h) 0 e ∷ []
only_one nothing h l d e p in_it = absurd (omega arith)
only_one (one b) h l d e p in_it = ap (λ c. reverse (cond c (b ∷ []) [])) in_it
only_one (two s xs ys) h l d e p in_it = absurd (omega (arith, l, h.1, h.2))

-- a single block, whose span is that of all
pub only_around : (blocks : List Block) (spans : List Span) → AreSpansOf blocks spans → length blocks ≡ 1 → (d : Span) (e : Block) (p q : ℤ) (r : Bool) → q ≡ p
    → (let s = get_or spans (length spans - 1) d in r ≡ (int_lt s.begin q && int_lt q s.end)) → r ≡ true → within_block p blocks ≡ get_or blocks 0 e ∷ []
only_around blocks spans h l d e p q r same is holds =
    let told : (let s = get_or spans (length spans - 1) d in (int_lt s.begin p && int_lt p s.end) ≡ true) =
    ap (λ z. let s = get_or spans (length spans - 1) d in int_lt s.begin z && int_lt z s.end) (sym same) ∙ sym is ∙ holds in
    subst (λ (bs : List Block). within_block p bs ≡ get_or bs 0 e ∷ []) h.of
    (only_one h.halves h.halved (ap length h.of ∙ l) d e p
    (subst (λ (ss : List Span). let s = get_or ss (length ss - 1) d in (int_lt s.begin p && int_lt p s.end) ≡ true) (sym h.noted) told))

pub around_two : (p : ℤ) (xs ys : List Block) → within_block p (xs ++ ys) ≡ within_block p ys ++ within_block p xs
around_two p xs ys = ap reverse (filter-append (contains p) xs ys) ∙ reverse-append (filter (contains p) xs) (filter (contains p) ys)

-- ---- so many at most

pub take_on : {A : Type 0} (n : ℕ) (xs ys : List A) → take n (take n xs ++ ys) ≡ take n (xs ++ ys)
take_on zero xs ys = refl
take_on (suc n) [] ys = refl
take_on (suc n) (x ∷ xs) ys = ap (λ l. x ∷ l) (take_on n xs ys)

-- nothing more
pub took_none : {A : Type 0} (n : ℕ) (xs ys : List A) → length xs ≤ n → ys ≡ [] → xs ≡ take n (xs ++ ys)
took_none n xs ys l e = sym (ap (λ zs. take n (xs ++ zs)) e ∙ ap (take n) (append-nil xs) ∙ take_all n xs l)

-- one more
pub took_one : {A : Type 0} (n : ℕ) (xs : List A) (y : A) → length xs < n → xs ++ y ∷ [] ≡ take n (xs ++ y ∷ [])
took_one n xs y l = sym (take_all n (xs ++ y ∷ []) (omega (arith, length-append xs (y ∷ []))))

-- so many at most
pub took_few : {A : Type 0} (n : ℕ) (xs ys : List A) → ys ≡ take n xs → length ys ≤ n
took_few n xs ys e = omega (arith, ap length e, length-take n xs)

-- those of the second half, and then those of the first
pub took_both : (n : ℕ) (p q : ℤ) (found after_second after_first xs ys blocks : List Block) → q ≡ p
    → after_second ≡ take n (found ++ within_block q ys) → after_first ≡ take n (after_second ++ within_block q xs)
    → xs ++ ys ≡ blocks → after_first ≡ take n (found ++ within_block p blocks)
took_both n p q found after_second after_first xs ys blocks same second first both =
    first ∙ ap (λ l. take n (l ++ within_block q xs)) second ∙ take_on n (found ++ within_block q ys) (within_block q xs)
    ∙ ap (take n) (append_assoc found (within_block q ys) (within_block q xs))
    ∙ ap (λ l. take n (found ++ l)) (sym (around_two q xs ys) ∙ ap (within_block q) both ∙ ap (λ z. within_block z blocks) same)
