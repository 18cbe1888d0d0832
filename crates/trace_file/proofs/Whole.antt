-- Events one after the other, and what stands behind them.
use Rattle.std.proofs.Common.{◌≡◌, ℕ, ◌+◌, ◌-◌, ◌<◌, List, [], ◌∷◌, ◌++◌, length, drop, refl, sym, ap, ◌∙◌, subst, append_assoc, append-nil, length-append, arith}
use Rattle.std.proofs.Math.Seq.{drop-append_seam}
use Rattle.std.proofs.lemmas.List.{flat_map_more}
use Rattle.std.proofs.lemmas.Grind.{flat_map-append}
use Rattle.std.specs.List.{AllByRecursion}
use Rattle.leb_binary.specs.Shortest.{unsigned_bytes}
use Rattle.leb_binary.proofs.Lengths.{longer_unsigned}
use Rattle.hook_select.specs.declared.Event.{Event}
use Rattle.hook_select.specs.Events.{number_of}
use Rattle.hook_select.proofs.Events.{numbered}
use Rattle.trace_file.specs.Begins.{BeginsWithSpelling, NoneBegins}
use Rattle.trace_file.specs.Fields.{FitsNumber}
use Rattle.trace_file.specs.Files.{header, events_bytes, ending, IsTrace, IsNoTrace, IsWithinBound, TraceReading, HasRead, writing_of, with_event}
use Rattle.trace_file.specs.Rows.{fields_bytes, event_bytes, FitsEvent}
use Rattle.trace_file.proofs.Several.{behind, one_more, flat_more}
use Rattle.trace_file.proofs.Tables.{apart_event}

-- no event begins with the byte that ends them
pub not_ended : (e : Event) (r t : List ℕ) → event_bytes e ++ r ≡ 0 ∷ t → ⊥
not_ended e r t d = let h : number_of e ≡ 0 = cc in omega (arith, (numbered e).0)

-- events that some bytes begin with are the first of those that stand before an end
pub first_events : (xs ys : List Event) (r t : List ℕ) → AllByRecursion FitsEvent xs → AllByRecursion FitsEvent ys → events_bytes xs ++ r ≡ events_bytes ys ++ 0 ∷ t
    → (zs : List Event) × (ys ≡ xs ++ zs) × (r ≡ events_bytes zs ++ 0 ∷ t)
first_events [] ys r t f g d = (ys, refl, d)
first_events (x ∷ xs) [] r t f g d = absurd (not_ended x (events_bytes xs ++ r) t (sym (append_assoc (event_bytes x) (events_bytes xs) r) ∙ d))
first_events (x ∷ xs) (y ∷ ys) r t f g d =
    let d1 : event_bytes x ++ (events_bytes xs ++ r) ≡ event_bytes y ++ (events_bytes ys ++ 0 ∷ t) = sym (append_assoc (event_bytes x) (events_bytes xs) r) ∙ d ∙ append_assoc (event_bytes y) (events_bytes ys) (0 ∷ t) in
    let a = apart_event.apart x y (events_bytes xs ++ r) (events_bytes ys ++ 0 ∷ t) f.0 g.0 d1 in
    let i = first_events xs ys r t f.1 g.1 a.1 in
    (i.0, ap (λ l. y ∷ l) i.1 ∙ ap (λ v. v ∷ (xs ++ i.0)) (sym a.0), i.2)

-- where there is no byte, there is no event
pub no_tag : (bytes : List ℕ) → NoneBegins (λ (b : ℕ). b < 256) (λ b. b ∷ []) bytes → NoneBegins FitsEvent event_bytes bytes
no_tag bytes none rest e (f, d) = none (fields_bytes e ++ rest) (number_of e) ((numbered e).1, d)

-- what stands behind the header of a file
behind_header : (mid rest : List ℕ) → header ++ mid ≡ header ++ rest → mid ≡ rest
behind_header mid rest e = cc

-- a list with this file goes on with what is left
record GoesOn (left : List ℕ) (xs es : List Event) : Type 0 where
  more : List Event
  whole : es ≡ xs ++ more
  fit : AllByRecursion FitsEvent more
  follow : left ≡ events_bytes more ++ ending (length es)

goes_on : (r : TraceReading) (xs es : List Event) → HasRead xs r → IsTrace r.bytes es → GoesOn r.left xs es
goes_on r xs es t h =
    let d : events_bytes xs ++ r.left ≡ events_bytes es ++ ending (length es) = behind_header (events_bytes xs ++ r.left) (events_bytes es ++ ending (length es)) (sym t.spelled ∙ h.spelled) in
    let f = first_events xs es r.left (unsigned_bytes (length es)) t.fit h.fit d in
    record { more = f.0; whole = f.1; fit = behind FitsEvent xs f.0 (subst (AllByRecursion FitsEvent) f.1 h.fit); follow = f.2 }

-- those that were read are its first
pub first_of : (r : TraceReading) (xs es : List Event) → HasRead xs r → IsTrace r.bytes es → (rest : List Event) × (es ≡ xs ++ rest)
first_of r xs es t h = let on = goes_on r xs es t h in (on.more, on.whole)

-- an event more
pub read_one : (r : TraceReading) (rest : List ℕ) (xs : List Event) (x : Event) → HasRead xs r → BeginsWithSpelling FitsEvent event_bytes r.left rest x
    → HasRead (xs ++ x ∷ []) (record { bytes = r.bytes; count = r.count + 1; left = rest })
read_one r rest xs x t (f, d) = record {
  many = ap (λ n. n + 1) t.many ∙ sym (length-append xs (x ∷ []));
  fit = one_more FitsEvent xs x t.fit f;
  spelled = t.spelled ∙ ap (λ l. header ++ l) (ap (λ l. events_bytes xs ++ l) d ∙ flat_more event_bytes xs x rest);
}

-- an event takes a byte at least
pub shorter : (left rest : List ℕ) (x : Event) → BeginsWithSpelling FitsEvent event_bytes left rest x → length rest < length left
shorter left rest x (f, d) = omega (arith, ap length d, length-append (fields_bytes x) rest)

-- what stands behind as many bytes as the event takes
pub behind_one : (left rest back : List ℕ) (n : ℕ) (x : Event) → BeginsWithSpelling FitsEvent event_bytes left rest x → n ≡ length left - length rest → back ≡ drop n left → back ≡ rest
behind_one left rest back n x (f, d) many e =
    let m : n ≡ length (event_bytes x) = omega (arith, many, ap length d, length-append (event_bytes x) rest) in
    e ∙ ap (λ k. drop k left) m ∙ ap (drop (length (event_bytes x))) d ∙ drop-append_seam (event_bytes x) rest

-- where neither an event nor the end follows
pub none_more : (r : TraceReading) (xs : List Event) → HasRead xs r → NoneBegins FitsEvent event_bytes r.left → ((rest : List ℕ) → r.left ≡ 0 ∷ rest → ⊥) → IsNoTrace r.bytes
none_more r xs t none no_end es h = let g = goes_on r xs es t h in go g.more g.fit g.follow
  where
    go : (zs : List Event) → AllByRecursion FitsEvent zs → r.left ≡ events_bytes zs ++ ending (length es) → ⊥
    go [] f d = no_end (unsigned_bytes (length es)) d
    go (z ∷ zs) f d = none (events_bytes zs ++ ending (length es)) z (f.0, d ∙ append_assoc (event_bytes z) (events_bytes zs) (ending (length es)))

-- behind the end stands the number of the events
at_end : (r : TraceReading) (rest : List ℕ) (xs es : List Event) → HasRead xs r → r.left ≡ 0 ∷ rest → IsTrace r.bytes es → (es ≡ xs) × (rest ≡ unsigned_bytes (length xs))
at_end r rest xs es t e h = let g = goes_on r xs es t h in go g.more g.whole g.follow
  where
    go : (zs : List Event) → es ≡ xs ++ zs → r.left ≡ events_bytes zs ++ ending (length es) → (es ≡ xs) × (rest ≡ unsigned_bytes (length xs))
    go [] w d =
        let same : es ≡ xs = w ∙ append-nil xs in
        let t : 0 ∷ rest ≡ 0 ∷ unsigned_bytes (length es) = sym e ∙ d in
        let u : rest ≡ unsigned_bytes (length es) = cc in
        (same, u ∙ ap (λ l. unsigned_bytes (length l)) same)
    go (z ∷ zs) w d = absurd (not_ended z (events_bytes zs ++ ending (length es)) rest (sym (append_assoc (event_bytes z) (events_bytes zs) (ending (length es))) ∙ sym d ∙ e))

-- another number there, or none, and no list has the file
pub not_counted : (r : TraceReading) (rest : List ℕ) (xs : List Event) → HasRead xs r → r.left ≡ 0 ∷ rest → (FitsNumber r.count → rest ≡ unsigned_bytes r.count → ⊥) → IsNoTrace r.bytes
not_counted r rest xs t e none es h =
    let a = at_end r rest xs es t e h in
    none (subst FitsNumber (ap length a.0 ∙ sym t.many) h.few) (a.1 ∙ ap unsigned_bytes (sym t.many))

-- no two lists have one trace file
pub one_list : (bytes : List ℕ) (xs ys : List Event) → IsTrace bytes xs → IsTrace bytes ys → xs ≡ ys
one_list bytes xs ys h k =
    let r : TraceReading = record { bytes = bytes; count = length xs; left = ending (length xs) } in
    let t : HasRead xs r = record { many = refl; fit = h.fit; spelled = h.spelled } in
    sym (at_end r (unsigned_bytes (length xs)) xs ys t refl k).0

-- the writer of events goes on with one more
pub writes_on : (max : ℕ) (es : List Event) (e : Event) → with_event e (writing_of max es) ≡ writing_of max (es ++ e ∷ [])
writes_on max es e =
    let bytes : events_bytes es ++ event_bytes e ≡ events_bytes (es ++ e ∷ []) = flat_map_more event_bytes [] es e in
    let count : length es + 1 ≡ length (es ++ e ∷ []) = omega (arith, length-append es (e ∷ [])) in
    λ i. record { max = max; events = bytes i; count = count i }

-- where there is a file of events, there is one of the first of them
pub first_fit : (max : ℕ) (es more : List Event) → IsWithinBound (writing_of max (es ++ more)) → IsWithinBound (writing_of max es)
first_fit max es more (few, short) =
    let count = length-append es more in
    let bytes = ap length (flat_map-append event_bytes es more) ∙ length-append (events_bytes es) (events_bytes more) in
    let longer = longer_unsigned (length es) (length (es ++ more)) (omega (arith, count)) in
    let whole = length-append (events_bytes (es ++ more)) (ending (length (es ++ more))) in
    let first = length-append (events_bytes es) (ending (length es)) in
    (omega (arith, count), omega (arith, bytes, longer, whole, first))
