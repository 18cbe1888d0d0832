-- A section behind the file of a module, and files without custom sections.
use Rattle.std.proofs.Common.{◌≡◌, ◌≢◌, ℕ, ◌^◌, ◌<◌, max, inl, inr, List, [], ◌∷◌, ◌++◌, length, None, codes, refl, sym, ap, ◌∙◌, subst, append_assoc, arith}
use Rattle.leb_binary.specs.Texts.{Text}
use Rattle.leb_binary.specs.Shortest.{unsigned_bytes}
use Rattle.module_ast.specs.declared.module.Module.{Module}
use Rattle.module_ast.specs.Binary.{AreItems, id_of, custom_section, Section, IsSection, ModuleNode, with_section, with_sections, AreOrdered, header, sized_bytes, section_bytes, Gram}
use Rattle.module_ast.proofs.Writers.{u32_spelled, front_short, name_writes}
use Rattle.name_map.specs.Sections.{Chunk, chunk, IsChunk, IsFirstNameSection}
use Rattle.name_map.specs.Written.{names_bytes, custom_section_of}
use Rattle.name_map.specs.Laws.{FilesWithoutCustoms, PutKeepsModule, with_custom}
use Rattle.name_map.proofs.OneNames.{id_byte}
use Rattle.name_map.proofs.PutRead.{items_push, no_module}

-- ---- without custom sections

abbrev ArePlain : List Section → Type 0
ArePlain [] = Unit {0}
ArePlain (s ∷ ss) = (id_of s.0 ≢ 0) × ArePlain ss

no_push : {A : Type 0} (xs : List A) (x : A) → xs ++ x ∷ [] ≡ [] → ⊥
no_push [] x e = cc
no_push (y ∷ xs) x e = cc

not_custom : (s : Section) (n : ModuleNode) → (with_section s n).customs ≡ [] → (id_of s.0 ≢ 0) × (n.customs ≡ [])
not_custom (custom_section, x) n e = absurd (no_push n.customs x e)
not_custom (k, x) n e = (λ d. omega (arith, d), e)

plain_sections : (n : ModuleNode) (ss : List Section) → (with_sections n ss).customs ≡ [] → (n.customs ≡ []) × ArePlain ss
plain_sections n [] e = (e, tt)
plain_sections n (s ∷ ss) e =
    let rest = plain_sections (with_section s n) ss e in
    let first = not_custom s n rest.0 in
    (first.1, (first.0, rest.1))

plain_chunks : (bytes : List ℕ) (ss : List Section) → AreItems IsSection bytes ss → ArePlain ss → (cs : List Chunk) × AreItems IsChunk bytes cs × IsFirstNameSection cs None
plain_chunks bytes [] e h = ([], e, refl)
plain_chunks bytes (s ∷ ss) (front, rest, e, (behind, d, (size, content, c, n, i)), more) h =
    let cs = plain_chunks rest ss more h.1 in
    let first : IsChunk front (chunk (id_of s.0) content) = (id_of s.0 ∷ [], behind, d, (refl, id_byte s.0), (size, content, c, n, refl)) in
    (chunk (id_of s.0) content ∷ cs.0, (front, rest, e, first, cs.1), inr (λ subs is. h.0 is.0, cs.2))

pub files_without_customs : FilesWithoutCustoms
files_without_customs bytes m g none =
    let file = g.spelled in
    let plain = plain_sections _ g.sections (sym (ap (λ (n : ModuleNode). n.customs) g.collected) ∙ none) in
    let cs = plain_chunks file.0 g.sections file.2 plain.1 in
    (file.0, cs.0, file.1, cs.1, cs.2)

-- ---- one section more

ordered_push : (low : ℕ) (ss : List Section) (x : Text) → AreOrdered low ss → AreOrdered low (ss ++ (custom_section, x) ∷ [])
ordered_push low [] x h = (inl refl, tt)
ordered_push low (s ∷ ss) x h = (h.0, ordered_push (max low (id_of s.0)) ss x h.1)

sections_push : (n : ModuleNode) (ss : List Section) (s : Section) → with_sections n (ss ++ s ∷ []) ≡ with_section s (with_sections n ss)
sections_push n [] s = refl
sections_push n (t ∷ ss) s = sections_push (with_section t n) ss s

custom_spelled : (x : Text) (more : List ℕ) → length (sized_bytes x.bytes ++ more) < 2 ^ 32 → IsSection (section_bytes 0 (sized_bytes x.bytes ++ more)) (custom_section, x)
custom_spelled x more few =
    let content : List ℕ = sized_bytes x.bytes ++ more in (
      sized_bytes content,
      refl,
      (unsigned_bytes (length content), content, refl, u32_spelled (length content) few, (sized_bytes x.bytes, more, refl, name_writes.spelled x tt (front_short (sized_bytes x.bytes) more few))),
    )

with_name : (file : List ℕ) (m : Module) (x : Text) (more : List ℕ) → Gram file m → length (sized_bytes x.bytes ++ more) < 2 ^ 32
    → Gram (file ++ section_bytes 0 (sized_bytes x.bytes ++ more)) (with_custom x m)
with_name file m x more g few =
    let last : List ℕ = section_bytes 0 (sized_bytes x.bytes ++ more) in
    let (rest, is, items, ordered) = g.spelled in
    record {
      sections = g.sections ++ (custom_section, x) ∷ [];
      spelled = (
        rest ++ last,
        ap (λ k. k ++ last) is ∙ append_assoc header rest last,
        items_push IsSection rest last g.sections (custom_section, x) items (custom_spelled x more few),
        ordered_push 0 g.sections x ordered,
      );
      collected = ap (with_section (custom_section, x)) g.collected ∙ sym (sections_push _ g.sections (custom_section, x));
      bodies = g.bodies;
    }

pub put_keeps_module : PutKeepsModule
put_keeps_module file m names x name some g few = go (names_bytes names) refl
  where
    go : (bs : List ℕ) → names_bytes names ≡ bs → Gram (file ++ custom_section_of bs) (with_custom x m)
    go [] e = absurd (some (no_module names.module names.functions names.locals e))
    go (b ∷ bs) e =
        let short : length (sized_bytes x.bytes ++ b ∷ bs) < 2 ^ 32 =
        subst (λ k. length (sized_bytes k ++ b ∷ bs) < 2 ^ 32) (sym name) (subst (λ k. length (sized_bytes (codes "name") ++ k) < 2 ^ 32) e few) in
        subst (λ k. Gram (file ++ section_bytes 0 (sized_bytes k ++ b ∷ bs)) (with_custom x m)) name (with_name file m x (b ∷ bs) g short)
