-- A line's words, joined as they are written.
use Rattle.std.proofs.Common.{◌≡◌, ℕ, zero, suc, ◌-◌, ◌≤◌, List, [], ◌∷◌, ◌++◌, codes, decimal, append_assoc, refl, sym, ap, ◌∙◌, arith}
use Rattle.analyses.specs.declared.Kind.TheVariants.{Calls}
use Rattle.analyses.specs.declared.Row.{Row}
use Rattle.report.specs.Text.{line, callee_text, row_line}

pub four_words : (a b c d : List ℕ) →
    a ++ (codes " " ++ (b ++ (codes " " ++ (c ++ (codes " " ++ (d ++ codes "\n")))))) ≡ line (a ∷ b ∷ c ∷ d ∷ [])
four_words a b c d = simp append_assoc

pub five_words : (a b c d e : List ℕ) →
    a ++ (codes " " ++ (b ++ (codes " " ++ (c ++ (codes " " ++ (d ++ (codes " " ++ (e ++ codes "\n")))))))) ≡ line (a ∷ b ∷ c ∷ d ∷ e ∷ [])
five_words a b c d e = simp append_assoc

pub six_words : (a b c d e f : List ℕ) →
    a ++ (codes " " ++ (b ++ (codes " " ++ (c ++ (codes " " ++ (d ++ (codes " " ++ (e ++ (codes " " ++ (f ++ codes "\n")))))))))) ≡
    line (a ∷ b ∷ c ∷ d ∷ e ∷ f ∷ [])
six_words a b c d e f = simp append_assoc

-- one more than a callee stands for it
callee_is : (other callee : ℕ) → 1 ≤ other → callee ≡ other - 1 → callee_text other ≡ decimal callee
callee_is zero callee some e = absurd (omega arith)
callee_is (suc f) callee some e = ap decimal (omega arith)

callee_is_none : (other : ℕ) → (1 ≤ other → ⊥) → callee_text other ≡ codes "none"
callee_is_none zero none = refl
callee_is_none (suc f) none = absurd (none (omega arith))

pub callee_line : (r : Row) (callee : ℕ) → 1 ≤ r.other → callee ≡ r.other - 1 →
    codes "call" ++ (codes " " ++ (decimal r.func ++ (codes " " ++ (decimal callee ++ (codes " " ++ (decimal r.count ++ codes "\n")))))) ≡ row_line Calls r
callee_line r callee some e =
    four_words (codes "call") (decimal r.func) (decimal callee) (decimal r.count)
    ∙ ap (λ w. line (codes "call" ∷ decimal r.func ∷ w ∷ decimal r.count ∷ [])) (sym (callee_is r.other callee some e))

pub no_callee_line : (r : Row) → (1 ≤ r.other → ⊥) →
    codes "call" ++ (codes " " ++ (decimal r.func ++ (codes " " ++ (codes "none" ++ (codes " " ++ (decimal r.count ++ codes "\n")))))) ≡ row_line Calls r
no_callee_line r none =
    four_words (codes "call") (decimal r.func) (codes "none") (decimal r.count)
    ∙ ap (λ w. line (codes "call" ∷ decimal r.func ∷ w ∷ decimal r.count ∷ [])) (sym (callee_is_none r.other none))
