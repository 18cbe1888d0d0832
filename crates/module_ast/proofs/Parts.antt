-- The parts of a file behind its header: for each kind of section the one section of its entries, or none.
use Rattle.std.proofs.Common.{◌≡◌, ℕ, ◌^◌, ◌<◌, ◌≤◌, ◌⊎◌, inl, inr, List, [], ◌∷◌, ◌++◌, length, refl, sym, ap, ◌∙◌, subst, append_assoc, append-nil, arith}
use Rattle.std.specs.Prelude.{map, max, All, Option, Some, None}
use Rattle.leb_binary.specs.Shortest.{unsigned_bytes}
use Rattle.module_ast.specs.Binary.Grammar as grammar
use Rattle.module_ast.specs.Binary.{AreItems, IsU32, IsVec, IsSized, Section, IsSection, id_of, AreOrdered, with_section, with_sections, start_section, vec_bytes, sized_bytes, vec_section, start_bytes, FitsIndex, FitsOption}
use Rattle.module_ast.proofs.Writers.{Writes, front_short, back_short, rest_short, vec_writes, sized_writes, index_writes}

-- A part: its place among the sections, its bytes, the sections that they are, what these set in a module, and how a
-- module looks where this is not set.
pub record Part : Type 0 where
  pub id : ℕ
  pub bytes : List ℕ
  pub sections : List Section
  pub set : grammar.ModuleNode → grammar.ModuleNode
  pub clear : grammar.ModuleNode → grammar.ModuleNode

pub record IsPart (p : Part) : Type 0 where
  pub spelled : length p.bytes < 2 ^ 32 → AreItems IsSection p.bytes p.sections
  pub ordered : (low : ℕ) (ss : List Section) → low < p.id → AreOrdered p.id ss → AreOrdered low (p.sections ++ ss)
  pub collected : (v : grammar.ModuleNode) (ss : List Section) → p.clear v ≡ v → with_sections v (p.sections ++ ss) ≡ with_sections (p.set v) ss

-- sections that may stand behind a later one
later : (low last : ℕ) (ss : List Section) → low ≤ last → AreOrdered last ss → AreOrdered low ss
later low last [] l h = tt
later low last (s ∷ ss) l h = (weaker (id_of s.0) h.0, later (max low (id_of s.0)) (max last (id_of s.0)) ss (omega arith) h.1)
  where
    weaker : (k : ℕ) → (k ≡ 0) ⊎ (last < k) → (k ≡ 0) ⊎ (low < k)
    weaker k (inl e) = inl e
    weaker k (inr e) = inr (omega arith)

-- a section of this id before them
earlier : (s : Section) (id low : ℕ) (ss : List Section) → id_of s.0 ≡ id → low < id → AreOrdered id ss → AreOrdered low (s ∷ ss)
earlier s id low ss e l h =
    let k : id ≡ max low (id_of s.0) = omega (arith, e) in
    (inr (omega (arith, e)), subst (λ n. AreOrdered n ss) k h)

-- one section by itself
one_section : (bytes : List ℕ) (s : Section) → IsSection bytes s → AreItems IsSection bytes (s ∷ [])
one_section bytes s h = (bytes, [], sym (append-nil bytes), h, refl)

module _ {A B : Type 0} (f : A → List ℕ) (view : A → B) (make : List B → Section) where
  -- the section of these entries, none where there are none
  abbrev pub entry_sections : List A → List Section
  entry_sections [] = []
  entry_sections (x ∷ xs) = make (map view (x ∷ xs)) ∷ []

  abbrev pub entries : (id : ℕ) → (List B → grammar.ModuleNode → grammar.ModuleNode) → List A → Part
  entries id set xs = record {
    id = id;
    bytes = vec_section id f xs;
    sections = entry_sections xs;
    set = set (map view xs);
    clear = set [];
  }

  module _ (item : List ℕ → B → Type 0) (P : A → Type 0) (w : Writes item f view P) (id : ℕ) (set : List B → grammar.ModuleNode → grammar.ModuleNode) where
    entries_spelled : ((bytes : List ℕ) (ys : List B) → IsSized (IsVec item) bytes ys → IsSection (id ∷ bytes) (make ys)) → (xs : List A) → All P xs → length (vec_section id f xs) < 2 ^ 32 → AreItems IsSection (vec_section id f xs) (entry_sections xs)
    entries_spelled s [] h l = refl
    entries_spelled s (x ∷ xs) h l =
        let content = sized_bytes (vec_bytes f (x ∷ xs)) in
        let v = sized_writes (IsVec item) (vec_bytes f) (map view) (All P) (vec_writes item f view P w) in
        one_section (id ∷ content) (make (map view (x ∷ xs))) (s content (map view (x ∷ xs)) (v.spelled (x ∷ xs) h (rest_short id content l)))

    entries_ordered : ((ys : List B) → id_of (make ys).0 ≡ id) → (xs : List A) (low : ℕ) (ss : List Section) → low < id → AreOrdered id ss → AreOrdered low (entry_sections xs ++ ss)
    entries_ordered e [] low ss l h = later low id ss (omega arith) h
    entries_ordered e (x ∷ xs) low ss l h = earlier (make (map view (x ∷ xs))) id low ss (e (map view (x ∷ xs))) l h

    entries_collected : ((ys : List B) (v : grammar.ModuleNode) → with_section (make ys) v ≡ set ys v) → (xs : List A) (v : grammar.ModuleNode) (ss : List Section) → set [] v ≡ v → with_sections v (entry_sections xs ++ ss) ≡ with_sections (set (map view xs) v) ss
    entries_collected e [] v ss h = ap (λ u. with_sections u ss) (sym h)
    entries_collected e (x ∷ xs) v ss h = ap (λ u. with_sections u ss) (e (map view (x ∷ xs)) v)

    pub entries_part : ((bytes : List ℕ) (ys : List B) → IsSized (IsVec item) bytes ys → IsSection (id ∷ bytes) (make ys)) → ((ys : List B) → id_of (make ys).0 ≡ id) → ((ys : List B) (v : grammar.ModuleNode) → with_section (make ys) v ≡ set ys v) → (xs : List A) → All P xs → IsPart (entries id set xs)
    entries_part s e c xs h = record { spelled = entries_spelled s xs h; ordered = entries_ordered e xs; collected = entries_collected c xs }

-- the start function
abbrev pub start_sections : Option ℕ → List Section
start_sections None = []
start_sections (Some x) = (start_section, x) ∷ []

abbrev pub start_of : Option ℕ → Part
start_of o = record {
  id = 8;
  bytes = start_bytes o;
  sections = start_sections o;
  set = λ v. record v { start = o };
  clear = λ v. record v { start = None };
}

pub start_part : (o : Option ℕ) → FitsOption o → IsPart (start_of o)
start_part None h = record {
  spelled = λ l. refl;
  ordered = λ low ss l k. later low 8 ss (omega arith) k;
  collected = λ v ss k. ap (λ u. with_sections u ss) (sym k);
}
start_part (Some x) h = record {
  spelled = λ l.
      let content = sized_bytes (unsigned_bytes x) in
      let w = sized_writes IsU32 unsigned_bytes (λ n. n) FitsIndex index_writes in
      one_section (8 ∷ content) (start_section, x) (content, refl, w.spelled x h (rest_short 8 content l));
  ordered = λ low ss l k. earlier (start_section, x) 8 low ss refl l k;
  collected = λ v ss k. refl;
}

-- parts one after another
abbrev pub all_bytes : List Part → List ℕ
all_bytes [] = []
all_bytes (p ∷ ps) = p.bytes ++ all_bytes ps

abbrev pub all_sections : List Part → List Section
all_sections [] = []
all_sections (p ∷ ps) = p.sections ++ all_sections ps

abbrev pub set_all : grammar.ModuleNode → List Part → grammar.ModuleNode
set_all v [] = v
set_all v (p ∷ ps) = set_all (p.set v) ps

-- the bytes of parts behind those in front
abbrev pub behind : List ℕ → List Part → List ℕ
behind front [] = front
behind front (p ∷ ps) = behind (front ++ p.bytes) ps

-- parts with rising ids, all above `low`
abbrev pub AreParts : (low : ℕ) → List Part → Type 0
AreParts low [] = Unit {0}
AreParts low (p ∷ ps) = (low < p.id) × IsPart p × AreParts p.id ps

-- none of them is set before its turn
abbrev pub AreClear : grammar.ModuleNode → List Part → Type 0
AreClear v [] = Unit {0}
AreClear v (p ∷ ps) = (p.clear v ≡ v) × AreClear (p.set v) ps

pub behind_front : (front : List ℕ) (ps : List Part) → behind front ps ≡ front ++ all_bytes ps
behind_front front [] = sym (append-nil front)
behind_front front (p ∷ ps) = behind_front (front ++ p.bytes) ps ∙ append_assoc front p.bytes (all_bytes ps)

items_append : {A : Type 0} (item : List ℕ → A → Type 0) (a b : List ℕ) (xs ys : List A) → AreItems item a xs → AreItems item b ys → AreItems item (a ++ b) (xs ++ ys)
items_append item a b [] ys h k = subst (λ l. AreItems item (l ++ b) ys) (sym h) k
items_append item a b (x ∷ xs) ys (f, r, e, p, q) k = (f, r ++ b, ap (λ l. l ++ b) e ∙ append_assoc f r b, p, items_append item r b xs ys q k)

pub all_spelled : (low : ℕ) (ps : List Part) → AreParts low ps → length (all_bytes ps) < 2 ^ 32 → AreItems IsSection (all_bytes ps) (all_sections ps)
all_spelled low [] h l = refl
all_spelled low (p ∷ ps) h l =
    items_append IsSection p.bytes (all_bytes ps) p.sections (all_sections ps) (h.1.spelled (front_short p.bytes (all_bytes ps) l)) (all_spelled p.id ps h.2 (back_short p.bytes (all_bytes ps) l))

pub all_ordered : (low : ℕ) (ps : List Part) → AreParts low ps → AreOrdered low (all_sections ps)
all_ordered low [] h = tt
all_ordered low (p ∷ ps) h = h.1.ordered low (all_sections ps) h.0 (all_ordered p.id ps h.2)

pub all_collected : (low : ℕ) (ps : List Part) → AreParts low ps → (v : grammar.ModuleNode) → AreClear v ps → with_sections v (all_sections ps) ≡ set_all v ps
all_collected low [] h v k = refl
all_collected low (p ∷ ps) h v k = h.1.collected v (all_sections ps) k.0 ∙ all_collected p.id ps h.2 (p.set v) k.1
