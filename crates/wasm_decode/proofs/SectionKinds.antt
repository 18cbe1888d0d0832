-- Sections by their ids.
use Rattle.std.proofs.Common.{◌≡◌, ℕ, ◌<◌, ◌≤◌, ◌⊎◌, inl, inr, List, [], ◌∷◌, ◌++◌, refl, sym, ap, ◌∙◌, subst, arith}
use Rattle.std.specs.Prelude.{max}
use Rattle.leb_binary.specs.Leb.{IsFront}
use Rattle.leb_binary.specs.Reading.{IsByte}
use Rattle.module_ast.specs.Binary.{Kind, Content, Section, ModuleNode, IsContent, IsSized, IsSection, HasNext, AreOrdered, id_of, with_section, with_sections, module_of, empty_module}
use Rattle.code_decode.proofs.Items.{same_kind}
use Rattle.wasm_decode.specs.Files.{last_of}

-- where the content of one kind is none, so is that of any section of its id
pub wrong_content : (k : Kind) (content : List ℕ) (id : ℕ) → ((x : Content k) → IsContent k content x → ⊥) → id ≡ id_of k → (s : Section) → id ≡ id_of s.0 → IsContent s.0 content s.1 → ⊥
wrong_content k content id h e s i p =
    subst (λ j. (x : Content j) → IsContent j content x → ⊥) (same_kind k s.0 (sym e ∙ i)) h s.1 p

-- ---- one section more

pub last_more : (last : ℕ) (ss : List Section) (s : Section) → last_of last (ss ++ s ∷ []) ≡ max (last_of last ss) (id_of s.0)
last_more last [] s = refl
last_more last (t ∷ ts) s = last_more (max last (id_of t.0)) ts s

pub ordered_more : (last : ℕ) (ss : List Section) (s : Section) → AreOrdered last ss → (id_of s.0 ≡ 0) ⊎ (last_of last ss < id_of s.0) → AreOrdered last (ss ++ s ∷ [])
ordered_more last [] s o h = (h, tt)
ordered_more last (t ∷ ts) s o h = (o.0, ordered_more (max last (id_of t.0)) ts s o.1 h)

ordered_last : (last : ℕ) (ss : List Section) (s : Section) → AreOrdered last (ss ++ s ∷ []) → (id_of s.0 ≡ 0) ⊎ (last_of last ss < id_of s.0)
ordered_last last [] s o = o.0
ordered_last last (t ∷ ts) s o = ordered_last (max last (id_of t.0)) ts s o.1

sections_more : (m : ModuleNode) (ss : List Section) (s : Section) → with_sections m (ss ++ s ∷ []) ≡ with_section s (with_sections m ss)
sections_more m [] s = refl
sections_more m (t ∷ ts) s = sections_more (with_section t m) ts s

pub module_more : (ss : List Section) (s : Section) → module_of (ss ++ s ∷ []) ≡ with_section s (module_of ss)
module_more ss s = sections_more empty_module ss s

-- ---- a section at the front

pub section_front : (bytes mid rest : List ℕ) (id : ℕ) (s : Section) → IsFront IsByte bytes mid id → id ≡ id_of s.0 → IsFront (IsSized (IsContent s.0)) mid rest s.1 → IsFront IsSection bytes rest s
section_front bytes mid rest id s (f, e, (p, q)) h (inner, k, i) =
    (id_of s.0 ∷ inner, e ∙ ap (λ l. l ++ mid) p ∙ ap (λ v. v ∷ mid) h ∙ ap (λ l. id_of s.0 ∷ l) k, (inner, refl, i))

-- none follows: its id stands out of order
pub next_unordered : (before : List Section) (id : ℕ) (rest : List ℕ) → (id ≡ 0 → ⊥) → id ≤ last_of 0 before → HasNext before (id ∷ rest) → ⊥
next_unordered before id rest h l (front, after, s, e, (inner, k, i), o) =
    let w : id ∷ rest ≡ id_of s.0 ∷ (inner ++ after) = e ∙ ap (λ l. l ++ after) k in
    let w1 : id ≡ id_of s.0 = cc in
    elim (ordered_last 0 before s o) [
      | inl z ↦ h (w1 ∙ z)
      | inr g ↦ omega (arith, w1, g)
    ]

-- none follows: nothing stands behind its id
pub next_malformed : (before : List Section) (id : ℕ) (rest : List ℕ) → ((s : Section) (after : List ℕ) → id ≡ id_of s.0 → IsFront (IsSized (IsContent s.0)) rest after s.1 → ⊥) → HasNext before (id ∷ rest) → ⊥
next_malformed before id rest h (front, after, s, e, (inner, k, i), o) =
    let w : id ∷ rest ≡ id_of s.0 ∷ (inner ++ after) = e ∙ ap (λ l. l ++ after) k in
    let w1 : id ≡ id_of s.0 = cc in
    let w2 : rest ≡ inner ++ after = cc in
    h s after w1 (inner, w2, i)
