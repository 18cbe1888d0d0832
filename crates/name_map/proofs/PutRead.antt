-- Names that are put are read again.
use Rattle.std.proofs.Common.{◌≡◌, ℕ, ◌^◌, ◌<◌, ◌≤◌, inl, lit<, List, [], ◌∷◌, ◌++◌, length, map, filter, nat_lt, cond, Option, Some, None, codes, refl, sym, ap, ap₂, ◌∙◌, subst, append_assoc, append-nil, length-append, arith}
use Rattle.std.specs.Prelude.{All}
use Rattle.std.proofs.lemmas.Bool.{lt-ltb}
use Rattle.std.proofs.lemmas.List.Elements.{All-head, All-tail, All-weaker}
use Rattle.leb_binary.specs.Texts.{Text}
use Rattle.leb_binary.specs.Shortest.{unsigned_bytes}
use Rattle.module_ast.specs.Ascii.{ascii_text}
use Rattle.module_ast.specs.Binary.{AreItems, header, vec_bytes, sized_bytes, section_bytes, vec_section}
use Rattle.module_ast.proofs.Compose.{read_more, whole_some}
use Rattle.module_ast.proofs.Writers.{Writes, u32_spelled, back_short, three_short, counted_some, list_writes, name_writes}
use Rattle.name_map.specs.declared.Named.{Named}
use Rattle.name_map.specs.declared.Locals.{Locals}
use Rattle.name_map.specs.declared.Names.{Names}
use Rattle.name_map.specs.NameMaps.{Rises, IsRisingVec, IsNameEntry, IsNameMap, IsLocalsEntry, IsIndirectNameMap}
use Rattle.name_map.specs.Names.{no_names, known_names}
use Rattle.name_map.specs.Sections.{Chunk, chunk, IsChunk, content_of, IsModuleNameIn, AreEntriesIn, IsNameData, IsNameSection, AreNames}
use Rattle.name_map.specs.Written.{named_bytes, locals_bytes, module_name_bytes, names_bytes, custom_section_of}
use Rattle.name_map.specs.Laws.{AreProper, PutIsRead}
use Rattle.name_map.proofs.Chunks.{first_push}

-- ---- what is written is in the grammar

-- entries that fit, by rising index
abbrev FitsRising : {A : Type 0} → (A → Type 0) → (index : A → ℕ) → List A → Type 0
FitsRising P index xs = All P xs × Rises (map index xs)

rising_writes : {A : Type 0} (entry : List ℕ → A → Type 0) (f : A → List ℕ) (P : A → Type 0) (index : A → ℕ) → Writes entry f (λ x. x) P
    → Writes (IsRisingVec entry index) (vec_bytes f) (λ xs. xs) (FitsRising P index)
rising_writes entry f P index w = record {
  some = (list_writes entry f P w).some;
  spelled = λ xs h l. ((list_writes entry f P w).spelled xs h.0 l, h.1);
}

abbrev FitsNamed : Named → Type 0
FitsNamed n = n.index < 2 ^ 32

abbrev FitsMap : List Named → Type 0
FitsMap ns = FitsRising FitsNamed (λ n. n.index) ns

abbrev FitsLocals : Locals → Type 0
FitsLocals l = (l.func < 2 ^ 32) × FitsMap l.names

named_writes : Writes IsNameEntry named_bytes (λ n. n) FitsNamed
named_writes = record {
  some = λ n. counted_some n.index (sized_bytes n.name.bytes);
  spelled = λ n h l.
      (unsigned_bytes n.index, sized_bytes n.name.bytes, refl, u32_spelled n.index h, name_writes.spelled n.name tt (back_short (unsigned_bytes n.index) (sized_bytes n.name.bytes) l));
}

map_writes : Writes IsNameMap (vec_bytes named_bytes) (λ ns. ns) FitsMap
map_writes = rising_writes IsNameEntry named_bytes FitsNamed (λ n. n.index) named_writes

locals_writes : Writes IsLocalsEntry locals_bytes (λ l. l) FitsLocals
locals_writes = record {
  some = λ l. counted_some l.func (vec_bytes named_bytes l.names);
  spelled = λ l h few.
      (unsigned_bytes l.func, vec_bytes named_bytes l.names, refl, u32_spelled l.func h.0, map_writes.spelled l.names h.1 (back_short (unsigned_bytes l.func) (vec_bytes named_bytes l.names) few));
}

indirect_writes : Writes IsIndirectNameMap (vec_bytes locals_bytes) (λ ls. ls) (FitsRising FitsLocals (λ l. l.func))
indirect_writes = rising_writes IsLocalsEntry locals_bytes FitsLocals (λ l. l.func) locals_writes

-- ---- chunks

-- one item more
pub items_push : {A : Type 0} (item : List ℕ → A → Type 0) (bytes more : List ℕ) (xs : List A) (x : A) → AreItems item bytes xs → item more x → AreItems item (bytes ++ more) (xs ++ x ∷ [])
items_push item bytes more xs x items i =
    whole_some (AreItems item) (bytes ++ more) [] (xs ++ x ∷ []) (read_more item (bytes ++ more) more [] xs x (bytes, refl, items) (more, sym (append-nil more), i)) refl

chunks_push : (bytes : List ℕ) (cs : List Chunk) (id : ℕ) (content : List ℕ) → AreItems IsChunk bytes cs → id < 256 → length content < 2 ^ 32
    → AreItems IsChunk (bytes ++ section_bytes id content) (cs ++ chunk id content ∷ [])
chunks_push bytes cs id content items h few =
    items_push IsChunk bytes (section_bytes id content) cs (chunk id content) items
    (id ∷ [], sized_bytes content, refl, (refl, h), (unsigned_bytes (length content), content, refl, u32_spelled (length content) few, refl))

-- the content of a chunk is shorter than the chunk
content_few : (id : ℕ) (content : List ℕ) → length (section_bytes id content) < 2 ^ 32 → length content < 2 ^ 32
content_few id content few = omega (arith, length-append (unsigned_bytes (length content)) content)

-- the subsections of each part
abbrev module_chunks : Option Text → List Chunk
module_chunks None = []
module_chunks (Some t) = chunk 0 (sized_bytes t.bytes) ∷ []

abbrev vec_chunks : {A : Type 0} → (id : ℕ) → (A → List ℕ) → List A → List Chunk
vec_chunks id f [] = []
vec_chunks id f (x ∷ xs) = chunk id (vec_bytes f (x ∷ xs)) ∷ []

abbrev chunks : Option Text → List Named → List Locals → List Chunk
chunks m fs ls = (module_chunks m ++ vec_chunks 1 named_bytes fs) ++ vec_chunks 2 locals_bytes ls

module_items : (m : Option Text) → length (module_name_bytes m) < 2 ^ 32 → AreItems IsChunk (module_name_bytes m) (module_chunks m)
module_items None few = refl
module_items (Some t) few = chunks_push [] [] 0 (sized_bytes t.bytes) refl (omega arith) (content_few 0 (sized_bytes t.bytes) few)

vec_items : {A : Type 0} (bytes : List ℕ) (cs : List Chunk) (id : ℕ) (f : A → List ℕ) (xs : List A) → AreItems IsChunk bytes cs → id < 256 → length (vec_section id f xs) < 2 ^ 32
    → AreItems IsChunk (bytes ++ vec_section id f xs) (cs ++ vec_chunks id f xs)
vec_items bytes cs id f [] items h few = subst (λ b. AreItems IsChunk b (cs ++ [])) (sym (append-nil bytes)) (subst (AreItems IsChunk bytes) (sym (append-nil cs)) items)
vec_items bytes cs id f (x ∷ xs) items h few = chunks_push bytes cs id (vec_bytes f (x ∷ xs)) items h (content_few id (vec_bytes f (x ∷ xs)) few)

holds_module : (m : Option Text) (fs : List Named) (ls : List Locals) → length (module_name_bytes m) < 2 ^ 32 → IsModuleNameIn (content_of 0 (chunks m fs ls)) m
holds_module None [] [] few = refl
holds_module None (n ∷ ns) [] few = refl
holds_module None fs ls few = refl
holds_module (Some t) fs ls few = name_writes.spelled t tt (content_few 0 (sized_bytes t.bytes) few)

holds_functions : (m : Option Text) (fs : List Named) (ls : List Locals) → FitsMap fs → length (vec_section 1 named_bytes fs) < 2 ^ 32
    → AreEntriesIn IsNameMap (content_of 1 (chunks m fs ls)) fs
holds_functions None [] [] h few = refl
holds_functions (Some t) [] [] h few = refl
holds_functions m [] ls h few = refl
holds_functions None (n ∷ ns) ls h few = map_writes.spelled (n ∷ ns) h (content_few 1 (vec_bytes named_bytes (n ∷ ns)) few)
holds_functions (Some t) (n ∷ ns) ls h few = map_writes.spelled (n ∷ ns) h (content_few 1 (vec_bytes named_bytes (n ∷ ns)) few)

holds_locals : (m : Option Text) (fs : List Named) (ls : List Locals) → FitsRising FitsLocals (λ l. l.func) ls → length (vec_section 2 locals_bytes ls) < 2 ^ 32
    → AreEntriesIn IsIndirectNameMap (content_of 2 (chunks m fs ls)) ls
holds_locals None [] [] h few = refl
holds_locals (Some t) [] [] h few = refl
holds_locals m fs [] h few = refl
holds_locals None [] (l ∷ ls) h few = indirect_writes.spelled (l ∷ ls) h (content_few 2 (vec_bytes locals_bytes (l ∷ ls)) few)
holds_locals None (n ∷ ns) (l ∷ ls) h few = indirect_writes.spelled (l ∷ ls) h (content_few 2 (vec_bytes locals_bytes (l ∷ ls)) few)
holds_locals (Some t) [] (l ∷ ls) h few = indirect_writes.spelled (l ∷ ls) h (content_few 2 (vec_bytes locals_bytes (l ∷ ls)) few)
holds_locals (Some t) (n ∷ ns) (l ∷ ls) h few = indirect_writes.spelled (l ∷ ls) h (content_few 2 (vec_bytes locals_bytes (l ∷ ls)) few)

subsections_spelled : (names : Names) → FitsMap names.functions → FitsRising FitsLocals (λ l. l.func) names.locals → length (names_bytes names) < 2 ^ 32 → IsNameData (names_bytes names) names
subsections_spelled names f g few =
    let a = module_name_bytes names.module in
    let b = vec_section 1 named_bytes names.functions in
    let c = vec_section 2 locals_bytes names.locals in
    let short = three_short a b c few in (
      chunks names.module names.functions names.locals,
      vec_items (a ++ b) _ 2 locals_bytes names.locals (vec_items a _ 1 named_bytes names.functions (module_items names.module short.front) (omega arith) short.middle) (omega arith) short.back,
      holds_module names.module names.functions names.locals short.front,
      holds_functions names.module names.functions names.locals f short.middle,
      holds_locals names.module names.functions names.locals g short.back,
    )

-- ---- all of them are known

filter_all : {A : Type 0} (f : A → ℕ) (n : ℕ) (xs : List A) → All (λ x. f x < n) xs → xs ≡ filter (λ x. nat_lt (f x) n) xs
filter_all f n [] h = refl
filter_all f n (x ∷ xs) h =
    let kept = filter (λ y. nat_lt (f y) n) xs in
    ap (λ l. x ∷ l) (filter_all f n xs (All-tail (λ y. f y < n) x xs h)) ∙ sym (ap (λ b. cond b (x ∷ kept) kept) (lt-ltb (f x) n (All-head (λ y. f y < n) x xs h)))

all_known : (functions : ℕ) (names : Names) → AreProper functions names → names ≡ known_names functions names
all_known functions names p =
    ap₂ (λ fs ls. record { «module» = names.module; functions = fs; locals = ls })
    (filter_all (λ (n : Named). n.index) functions names.functions p.below)
    (filter_all (λ (l : Locals). l.func) functions names.locals p.owners_below)

fits_below : {A : Type 0} (f : A → ℕ) (n : ℕ) (xs : List A) → n ≤ 2 ^ 32 → All (λ x. f x < n) xs → All (λ x. f x < 2 ^ 32) xs
fits_below f n xs h p = All-weaker (λ x. f x < n) (λ x. f x < 2 ^ 32) (λ x k. omega (arith, h, k)) xs p

fits_functions : (functions : ℕ) (names : Names) → functions ≤ 2 ^ 32 → AreProper functions names → FitsMap names.functions
fits_functions functions names h p = (fits_below (λ (n : Named). n.index) functions names.functions h p.below, p.order)

fits_locals : (functions : ℕ) (names : Names) → functions ≤ 2 ^ 32 → AreProper functions names → FitsRising FitsLocals (λ l. l.func) names.locals
fits_locals functions names h p = (λ k d few. (fits_below (λ (l : Locals). l.func) functions names.locals h p.owners_below k d few, p.inner k d few), p.owner_order)

-- ---- the section behind a file

some_none : {x : ℕ} {xs : List ℕ} → x ∷ xs ≡ [] → ⊥
some_none h = cc

-- the text `name`
abbrev name_text : Text
name_text = ascii_text (codes "name") refl

name_before : (subs : List ℕ) → IsNameSection (chunk 0 (sized_bytes (codes "name") ++ subs)) subs
name_before subs = (refl, name_text, refl, (sized_bytes (codes "name"), refl, name_writes.spelled name_text tt (lit< tt)))

pub no_module : (m : Option Text) (fs : List Named) (ls : List Locals) → (module_name_bytes m ++ vec_section 1 named_bytes fs) ++ vec_section 2 locals_bytes ls ≡ []
    → record { «module» = m; functions = fs; locals = ls } ≡ no_names
no_module None [] [] e = refl
no_module m fs ls e = absurd (some_none e)

pub put_is_read : PutIsRead
put_is_read file functions names (rest, cs, is, items, none) many proper few = go (names_bytes names) refl
  where
    go : (bs : List ℕ) → names_bytes names ≡ bs → AreNames (file ++ custom_section_of bs) functions names
    go [] e = (rest, cs, None, append-nil file ∙ is, items, none, no_module names.module names.functions names.locals e)
    go (b ∷ bs) e =
        let content : List ℕ = sized_bytes (codes "name") ++ b ∷ bs in
        let short : length content < 2 ^ 32 = subst (λ k. length (sized_bytes (codes "name") ++ k) < 2 ^ 32) e few in
        let spelled = subsections_spelled names (fits_functions functions names many proper) (fits_locals functions names many proper)
        (back_short (sized_bytes (codes "name")) (names_bytes names) few) in (
          rest ++ section_bytes 0 content,
          cs ++ chunk 0 content ∷ [],
          Some (b ∷ bs),
          ap (λ k. k ++ section_bytes 0 content) is ∙ append_assoc header rest (section_bytes 0 content),
          chunks_push rest cs 0 content items (omega arith) short,
          first_push cs (chunk 0 content) None (Some (b ∷ bs)) none (name_before (b ∷ bs)),
          inl (names, subst (λ k. IsNameData k names) e spelled, all_known functions names proper),
        )
