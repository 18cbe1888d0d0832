-- The header, and what stands behind it.
use Rattle.std.proofs.Common.{◌≡◌, ℕ, ◌<◌, List, [], ◌∷◌, ◌++◌, get_or, take, drop, suc, refl, sym, ap, ◌∙◌, subst, append_assoc}
use Rattle.std.proofs.lemmas.List.{take-append-drop}
use Rattle.leb_binary.specs.Leb.{IsFront, HasNoFront}
use Rattle.leb_binary.specs.Reading.{IsByte}
use Rattle.module_ast.specs.Binary.{AreItems, Section, IsSection, AreOrdered, ModuleNode, header, module_of, HasSections, HasBodies, IsModule, HasNext, FailsInSection}
use Rattle.wasm_decode.specs.Files.{AreBytes, FailsAt}

-- bytes, by their places
pub bytes_by : (bs : List ℕ) → ((i : ℕ) → get_or bs i 0 < 256) → AreBytes bs
bytes_by [] h = tt
bytes_by (b ∷ bs) h = (h 0, bytes_by bs (λ i. h (suc i)))

pub bytes_behind : (front rest : List ℕ) → AreBytes (front ++ rest) → AreBytes rest
bytes_behind [] rest h = h
bytes_behind (b ∷ front) rest h = bytes_behind front rest h.1

-- what an item leaves
pub bytes_left : {A : Type 0} (item : List ℕ → A → Type 0) (bytes rest : List ℕ) (x : A) → IsFront item bytes rest x → AreBytes bytes → AreBytes rest
bytes_left item bytes rest x (f, e, p) h = bytes_behind f rest (subst AreBytes e h)

-- where no byte follows, nothing is left
pub bytes_end : (bs : List ℕ) → AreBytes bs → HasNoFront IsByte bs → bs ≡ []
bytes_end [] h n = refl
bytes_end (b ∷ bs) h n = absurd (n bs b (b ∷ [], refl, (refl, h.0)))

-- what is left behind some places
drop_bytes : (n : ℕ) (bs : List ℕ) → AreBytes bs → AreBytes (drop n bs)
drop_bytes n bs h = bytes_behind (take n bs) (drop n bs) (subst AreBytes (sym (take-append-drop n bs)) h)

pub bytes_dropped : (n : ℕ) (bs rest : List ℕ) → rest ≡ drop n bs → AreBytes bs → AreBytes rest
bytes_dropped n bs rest e h = subst AreBytes (sym e) (drop_bytes n bs h)

-- ---- the answers of a decoder

-- reading stops at a section that does not follow
pub fails_at : (all left rest : List ℕ) (id : ℕ) (ss : List Section) → IsFront (AreItems IsSection) all left ss → AreOrdered 0 ss → IsFront IsByte left rest id → (HasNext ss (id ∷ rest) → ⊥) → FailsAt all id
fails_at all left rest id ss (good, e, p) o (f, d, (q, l)) h =
    (ss, good, rest, e ∙ ap (λ k. good ++ k) (d ∙ ap (λ k. k ++ rest) q), p, o, h)

pub fails_in_section : (bytes rest : List ℕ) (id : ℕ) → bytes ≡ header ++ rest → FailsAt rest id → FailsInSection bytes id
fails_in_section bytes rest id e (before, good, more, d, items, ordered, stuck) =
    (before, more, (good, e ∙ ap (λ l. header ++ l) d ∙ sym (append_assoc header good (id ∷ more)), items, ordered), stuck)

pub has_sections : (bytes rest : List ℕ) (ss : List Section) → bytes ≡ header ++ rest → AreItems IsSection rest ss → AreOrdered 0 ss → HasSections bytes ss
has_sections bytes rest ss e items ordered = (rest, e, items, ordered)

pub is_module : (bytes : List ℕ) (ss : List Section) (m : ModuleNode) → HasSections bytes ss → m ≡ module_of ss → HasBodies (module_of ss) → IsModule bytes m
is_module bytes ss m h e b = record { sections = ss; spelled = h; collected = e; bodies = subst HasBodies (sym e) b }
