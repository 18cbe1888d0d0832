-- Files of modules are header and sections; bytes carry one value of names; and names in an output come back.
use Rattle.std.proofs.Common.{◌≡◌, ℕ, lit<, ◌<◌, inl, inr, List, [], ◌∷◌, map, filter_map, Option, Some, None, option_map, refl, sym, ap, ap₂, ◌∙◌, subst}
use Rattle.std.specs.List.{cons_option}
use Rattle.std.proofs.lemmas.List.{append_cancel_left}
use Rattle.leb_binary.specs.Texts.{Text}
use Rattle.leb_binary.specs.Leb.{IsName}
use Rattle.leb_binary.specs.Fronts.{OneFront}
use Rattle.leb_binary.proofs.Fronts.{one_name, front_one}
use Rattle.module_ast.specs.Binary.{AreItems, Kind, id_of, custom_section, Section, IsSection, header}
use Rattle.index_remap.specs.declared.Remap.{Remap}
use Rattle.index_remap.proofs.Mapped.{unmapped}
use Rattle.name_map.specs.declared.Named.{Named}
use Rattle.name_map.specs.declared.Locals.{Locals}
use Rattle.name_map.specs.declared.Names.{Names}
use Rattle.name_map.specs.NameMaps.{IsNameMap, IsIndirectNameMap}
use Rattle.name_map.specs.Names.{map_named, map_locals, unmap_named, unmap_locals, known_names}
use Rattle.name_map.specs.Sections.{Chunk, chunk, IsChunk, content_of, IsModuleNameIn, AreEntriesIn, IsNameData, IsNameSection, IsFirstNameSection, AreNamesIn}
use Rattle.name_map.specs.Laws.{ModulesAreFiles, NamesAreOne, NamesComeBack}
use Rattle.name_map.proofs.Forms.{one_map, one_indirect}
use Rattle.name_map.proofs.Chunks.{one_list}

-- ---- files

pub id_byte : (k : Kind) → id_of k < 256
id_byte custom_section = lit< tt
id_byte k = lit< tt

section_chunk : (bytes : List ℕ) (s : Section) → IsSection bytes s → (c : Chunk) × IsChunk bytes c
section_chunk bytes s (rest, e, (size, content, d, n, i)) =
    (chunk (id_of s.0) content, (id_of s.0 ∷ [], rest, e, (refl, id_byte s.0), (size, content, d, n, refl)))

sections_chunks : (bytes : List ℕ) (ss : List Section) → AreItems IsSection bytes ss → (cs : List Chunk) × AreItems IsChunk bytes cs
sections_chunks bytes [] e = ([], e)
sections_chunks bytes (s ∷ ss) (front, rest, e, i, more) =
    let c = section_chunk front s i in
    let cs = sections_chunks rest ss more in
    (c.0 ∷ cs.0, (front, rest, e, c.1, cs.1))

pub modules_are_files : ModulesAreFiles
modules_are_files bytes m g =
    let file = g.spelled in
    let cs = sections_chunks file.0 g.sections file.2 in
    (file.0, cs.0, file.1, cs.1)

-- ---- one value

whole_one : {A : Type 0} (item : List ℕ → A → Type 0) → OneFront item → (bytes : List ℕ) (m n : A) → item bytes m → item bytes n → m ≡ n
whole_one item o bytes m n p q = (o.one bytes bytes [] [] m n p q refl).value

one_entries : {A : Type 0} (name_map : List ℕ → List A → Type 0) → OneFront name_map → (o : Option (List ℕ)) (xs ys : List A)
    → AreEntriesIn name_map o xs → AreEntriesIn name_map o ys → xs ≡ ys
one_entries name_map one None xs ys p q = p ∙ sym q
one_entries name_map one (Some content) xs ys p q = whole_one name_map one content xs ys p q

one_module : (o : Option (List ℕ)) (m n : Option Text) → IsModuleNameIn o m → IsModuleNameIn o n → m ≡ n
one_module None m n p q = p ∙ sym q
one_module (Some content) None n p q = absurd p
one_module (Some content) (Some t) None p q = absurd q
one_module (Some content) (Some t) (Some u) p q = ap Some (whole_one IsName one_name content t u p q)

abbrev all_names : Option Text → List Named → List Locals → Names
all_names name functions locals = record { «module» = name; functions = functions; locals = locals }

one_data : (bytes : List ℕ) (m n : Names) → IsNameData bytes m → IsNameData bytes n → m ≡ n
one_data bytes m n (cs, items, a, b, c) (ds, others, d, e, f) =
    let same = one_list bytes ds cs others items in
    let name = one_module (content_of 0 cs) m.module n.module a (subst (λ l. IsModuleNameIn (content_of 0 l) n.module) same d) in
    let functions = one_entries IsNameMap one_map (content_of 1 cs) m.functions n.functions b (subst (λ l. AreEntriesIn IsNameMap (content_of 1 l) n.functions) same e) in
    let locals = one_entries IsIndirectNameMap one_indirect (content_of 2 cs) m.locals n.locals c (subst (λ l. AreEntriesIn IsIndirectNameMap (content_of 2 l) n.locals) same f) in
    ap (λ x. all_names x m.functions m.locals) name ∙ (ap (λ x. all_names n.module x m.locals) functions ∙ ap (λ x. all_names n.module n.functions x) locals)

one_behind : (c : Chunk) (a b : List ℕ) → IsNameSection c a → IsNameSection c b → a ≡ b
one_behind c a b (i, s, e, p) (j, t, d, q) = (front_one IsName one_name c.content a b s t p q).0

one_first : (cs : List Chunk) (a b : Option (List ℕ)) → IsFirstNameSection cs a → IsFirstNameSection cs b → a ≡ b
one_first [] a b p q = p ∙ sym q
one_first (x ∷ xs) a b (inl p) (inl q) = p.2 ∙ (ap Some (one_behind x p.0 q.0 p.1 q.1) ∙ sym q.2)
one_first (x ∷ xs) a b (inl p) (inr q) = absurd (q.0 p.0 p.1)
one_first (x ∷ xs) a b (inr p) (inl q) = absurd (p.0 q.0 q.1)
one_first (x ∷ xs) a b (inr p) (inr q) = one_first xs a b p.1 q.1

one_told : (o : Option (List ℕ)) (functions : ℕ) (m n : Names) → AreNamesIn o functions m → AreNamesIn o functions n → m ≡ n
one_told None functions m n p q = p ∙ sym q
one_told (Some subs) functions m n (inl p) (inl q) = p.2 ∙ (ap (known_names functions) (one_data subs p.0 q.0 p.1 q.1) ∙ sym q.2)
one_told (Some subs) functions m n (inl p) (inr q) = absurd (q.0 p.0 p.1)
one_told (Some subs) functions m n (inr p) (inl q) = absurd (p.0 q.0 q.1)
one_told (Some subs) functions m n (inr p) (inr q) = p.1 ∙ sym q.1

pub names_are_one : NamesAreOne
names_are_one bytes functions m n (rest, cs, o, e, items, first, told) (other, ds, p, d, more, second, again) =
    let same : rest ≡ other = append_cancel_left header rest other (sym e ∙ d) in
    let chunks = one_list rest cs ds items (subst (λ l. AreItems IsChunk l ds) (sym same) more) in
    let found = one_first cs o p first (subst (λ l. IsFirstNameSection l p) (sym chunks) second) in
    one_told o functions m n told (subst (λ x. AreNamesIn x functions n) (sym found) again)

-- ---- there and back

back_functions : (r : Remap) (ns : List Named) → filter_map (unmap_named r) (map (map_named r) ns) ≡ ns
back_functions r [] = refl
back_functions r (n ∷ ns) =
    ap₂ (λ (o : Option Named) (l : List Named). cons_option o l) (ap (option_map (λ (i : ℕ). record n { index = i })) (unmapped r n.index)) (back_functions r ns)

back_locals : (r : Remap) (ls : List Locals) → filter_map (unmap_locals r) (map (map_locals r) ls) ≡ ls
back_locals r [] = refl
back_locals r (l ∷ ls) =
    ap₂ (λ (o : Option Locals) (ms : List Locals). cons_option o ms) (ap (option_map (λ (f : ℕ). record l { func = f })) (unmapped r l.func)) (back_locals r ls)

pub names_come_back : NamesComeBack
names_come_back r names = ap₂ (all_names names.module) (back_functions r names.functions) (back_locals r names.locals)
