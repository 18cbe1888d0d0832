-- A section of two runs of entries.
use Rattle.std.proofs.Common.{◌≡◌, ◌≢◌, ℕ, suc, ◌+◌, List, [], ◌∷◌, ◌++◌, length, refl, ap, sym, ◌∙◌, arith, append_assoc, length-append}
use Rattle.leb_binary.specs.Shortest.{unsigned_bytes}
use Rattle.module_ast.specs.Binary.{items_bytes, vec_bytes, vec_section, sized_bytes}

-- the entries of two runs
pub items_joined : {A : Type 0} (f : A → List ℕ) (xs ys : List A) → items_bytes f (xs ++ ys) ≡ items_bytes f xs ++ items_bytes f ys
items_joined f [] ys = refl
items_joined f (x ∷ xs) ys = ap (λ r. f x ++ r) (items_joined f xs ys) ∙ sym (append_assoc (f x) (items_bytes f xs) (items_bytes f ys))

-- what is written apart, with the number of all entries in front
abbrev pub runs_content : {A : Type 0} (f : A → List ℕ) (xs ys : List A) → List ℕ
runs_content f xs ys = unsigned_bytes (length xs + length ys) ++ (items_bytes f xs ++ items_bytes f ys)

content_is : {A : Type 0} (f : A → List ℕ) (xs ys : List A) → vec_bytes f (xs ++ ys) ≡ runs_content f xs ys
content_is f xs ys =
    ap (λ n. unsigned_bytes n ++ items_bytes f (xs ++ ys)) (length-append xs ys) ∙ ap (λ r. unsigned_bytes (length xs + length ys) ++ r) (items_joined f xs ys)

-- more than none
some : (n m : ℕ) → suc n + m ≡ 0 → ⊥
some n m h = omega arith

-- where no run has an entry there is no section
pub no_section : {A : Type 0} (id : ℕ) (f : A → List ℕ) (xs ys : List A) → length xs + length ys ≡ 0 → vec_section id f (xs ++ ys) ≡ []
no_section id f [] [] h = refl
no_section id f [] (y ∷ ys) h = absurd (some (length ys) 0 (omega (arith, h)))
no_section id f (x ∷ xs) ys h = absurd (some (length xs) (length ys) h)

-- else it has the entries of both
pub section_of_runs : {A : Type 0} (id : ℕ) (f : A → List ℕ) (xs ys : List A) → length xs + length ys ≢ 0
    → vec_section id f (xs ++ ys) ≡ id ∷ sized_bytes (runs_content f xs ys)
section_of_runs id f [] [] h = absurd (h refl)
section_of_runs id f [] (y ∷ ys) h = ap (λ c. id ∷ sized_bytes c) (content_is f [] (y ∷ ys))
section_of_runs id f (x ∷ xs) ys h = ap (λ c. id ∷ sized_bytes c) (content_is f (x ∷ xs) ys)

-- so what is written apart, behind an id and its size, is the section
pub section_written : {A : Type 0} (id : ℕ) (f : A → List ℕ) (xs ys : List A) (old mid new c0 c1 c2 : List ℕ) → length xs + length ys ≢ 0
    → c0 ≡ unsigned_bytes (length xs + length ys) → c1 ≡ c0 ++ items_bytes f xs → c2 ≡ c1 ++ items_bytes f ys
    → mid ≡ old ++ id ∷ [] → new ≡ mid ++ sized_bytes c2 → new ≡ old ++ vec_section id f (xs ++ ys)
section_written id f xs ys old mid new c0 c1 c2 some at_count at_first at_second at_id at_content =
    let count = unsigned_bytes (length xs + length ys) in
    let content : c2 ≡ runs_content f xs ys =
    at_second ∙ ap (λ c. c ++ items_bytes f ys) (at_first ∙ ap (λ c. c ++ items_bytes f xs) at_count) ∙ append_assoc count (items_bytes f xs) (items_bytes f ys) in
    at_content ∙ ap (λ c. mid ++ sized_bytes c) content ∙ ap (λ m. m ++ sized_bytes (runs_content f xs ys)) at_id
    ∙ append_assoc old (id ∷ []) (sized_bytes (runs_content f xs ys)) ∙ ap (λ s. old ++ s) (sym (section_of_runs id f xs ys some))
