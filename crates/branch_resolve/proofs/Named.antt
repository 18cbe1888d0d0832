-- What labels name at a position: the places of a body stand at theirs, one after another.
use Rattle.std.proofs.Common.{◌≡◌, ℕ, zero, suc, ◌+◌, ◌≤◌, ℤ, pos, negsuc, List, [], ◌∷◌, ◌++◌, length, map, Option, Some, None, Bool, true, ◌&&◌, option_map, slice_get, Contains, refl, sym, ap, ◌∙◌, subst, add-one, arith}
use Rattle.std.proofs.lemmas.Option.{slice_get-get_or, slice_get_past, same_Some, none-some}
use Rattle.std.proofs.lemmas.List.{take-map, length-map}
use Rattle.std.proofs.lemmas.Int.{ints}
use Rattle.std.proofs.lemmas.List.Elements.{Contains-append_right}
use Rattle.module_ast.specs.Structure.{Tree, done, plain, block, loop, if_then, if_else}
use Rattle.module_ast.specs.Places.{Scope, Place, code_size, code_places, ends_live, at, closes, places, place_at, function_scope, block_scope, loop_scope, if_scope, then_scope, else_scope, goes_on, target_of, left_by}
use Rattle.branch_resolve.specs.Scopes.{block_of, end_of, blocks_around, target, ends, AroundAnswer, ReadAround}
use Rattle.branch_resolve.specs.declared.Block.{Block}

-- ---- positions

-- places at p, p + 1 and so on, up to before q
abbrev AreFrom : (p : ℕ) → List Place → (q : ℕ) → Type 0
AreFrom p [] q = p ≡ q
AreFrom p (x ∷ xs) q = (x.position ≡ pos p) × AreFrom (p + 1) xs q

both_from : (p r q : ℕ) (xs ys : List Place) → AreFrom p xs r → AreFrom r ys q → AreFrom p (xs ++ ys) q
both_from p r q [] ys e h = subst (λ n. AreFrom n ys q) (sym e) h
both_from p r q (x ∷ xs) ys (at, more) h = (at, both_from (p + 1) r q xs ys more h)

code_from : (scopes : List Scope) (live : Bool) (p q : ℕ) (k : Tree) → p + code_size k ≡ q → AreFrom p (code_places scopes live p k) q
code_from scopes live p q done e = omega (arith, e)
code_from scopes live p q (plain i k) e = (refl, code_from scopes (live && goes_on i) (p + 1) q k (omega (arith, e)))
code_from scopes live p q (block ty body k) e =
    let s = block_scope p body in (
      refl,
      both_from (p + 1) s.end q _ _ (code_from (s ∷ scopes) live (p + 1) s.end body (omega arith)) (refl, code_from scopes live (s.end + 1) q k (omega (arith, e))),
    )
code_from scopes live p q (loop ty body k) e =
    let s = loop_scope p body in (
      refl,
      both_from (p + 1) s.end q _ _ (code_from (s ∷ scopes) live (p + 1) s.end body (omega arith)) (refl, code_from scopes live (s.end + 1) q k (omega (arith, e))),
    )
code_from scopes live p q (if_then ty body k) e =
    let s = if_scope p body in (
      refl,
      both_from (p + 1) s.end q _ _ (code_from (s ∷ scopes) live (p + 1) s.end body (omega arith)) (refl, code_from scopes live (s.end + 1) q k (omega (arith, e))),
    )
code_from scopes live p q (if_else ty body other k) e =
    let s = then_scope p body other in
    let t = else_scope p body other in (
      refl,
      both_from (p + 1) s.end q _ _ (code_from (s ∷ scopes) live (p + 1) s.end body (omega arith))
          (refl, both_from (s.end + 1) t.end q _ _ (code_from (t ∷ scopes) live (s.end + 1) t.end other (omega arith)) (refl, code_from scopes live (t.end + 1) q k (omega (arith, e)))),
    )

stands_at : (p q i : ℕ) (xs : List Place) (x : Place) → AreFrom p xs q → slice_get xs i ≡ Some x → x.position ≡ pos (p + i)
stands_at p q i [] x h e = absurd (none-some x e)
stands_at p q zero (y ∷ xs) x h e = ap (λ (z : Place). z.position) (sym (same_Some y x e)) ∙ h.0 ∙ ap pos (omega arith)
stands_at p q (suc i) (y ∷ xs) x h e = stands_at (p + 1) q i xs x h.1 e ∙ ap pos (omega arith)

-- the places behind the entry
abbrev behind_entry : Tree → List Place
behind_entry code = let f = function_scope code in code_places (f ∷ []) true 0 code ++ at f.end (ends_live true code) (closes f) [] ∷ []

all_from : (code : Tree) → AreFrom 0 (behind_entry code) (code_size code + 1)
all_from code = let f = function_scope code in both_from 0 f.end (f.end + 1) _ _ (code_from (f ∷ []) true 0 f.end code (omega arith)) (refl, refl)

abbrev number_of : ℤ → ℕ
number_of (pos n) = n
number_of (negsuc n) = 0

-- a place of a body is the one at its position
found_at : (code : Tree) (p i : ℕ) (x : Place) → slice_get (places code) i ≡ Some x → x.position ≡ pos p → place_at code p ≡ Some x
found_at code p zero x e is = let clash : negsuc 0 ≡ pos p = ap (λ (y : Place). y.position) (same_Some _ x e) ∙ is in absurd (omega (arith, ints, clash))
found_at code p (suc i) x e is =
    let none : 0 + i ≡ i = omega arith in
    let same : p ≡ i = ap number_of (sym is ∙ stands_at 0 (code_size code + 1) i (behind_entry code) x (all_from code) e) ∙ none in
    ap (slice_get (places code)) (ap (λ n. n + 1) same ∙ add-one i) ∙ e

-- ---- labels

-- where the blocks lead is where their scopes do
same_target : (scopes : List Scope) (l : ℕ) → target (blocks_around scopes) l ≡ option_map pos (target_of scopes l)
same_target [] l = refl
same_target (s ∷ scopes) zero = refl
same_target (s ∷ scopes) (suc l) = same_target scopes l

from_pos : (o : Option ℕ) (z : ℤ) → option_map pos o ≡ Some z → (t : ℕ) × (z ≡ pos t) × (o ≡ Some t)
from_pos None z e = absurd (none-some z e)
from_pos (Some t) z e = (t, sym (same_Some (pos t) z e), refl)

past_end : (blocks : List Block) (l : ℕ) → target blocks l ≡ None → length blocks ≤ l
past_end [] l e = omega arith
past_end (b ∷ blocks) zero e = absurd (none-some b.target (sym e))
past_end (b ∷ blocks) (suc l) e = let h = past_end blocks l e in omega (arith, h)

pub around_answer : AroundAnswer
around_answer code p blocks (x, (k, within, here), is, around) l =
    let found : place_at code p ≡ Some x = found_at code p k x (slice_get-get_or (places code) k x within ∙ ap Some here) is in
    let same : target blocks l ≡ option_map pos (target_of x.scopes l) = ap (λ bs. target bs l) around ∙ same_target x.scopes l in
    let many : length blocks ≡ length x.scopes = ap length around ∙ length-map x.scopes block_of in
    record {
      leads = λ z. (
        λ e. let (t, to, at_x) = from_pos (target_of x.scopes l) z (sym same ∙ e) in (t, to, (x, found, at_x)),
        λ h. let (t, to, (y, found_y, at_y)) = h in
            same ∙ ap (λ (q : Place). option_map pos (target_of q.scopes l)) (same_Some x y (sym found ∙ found_y)) ∙ ap (option_map pos) at_y ∙ ap Some (sym to),
      );
      past = (past_end blocks l, λ h. ap (option_map (λ (b : Block). b.target)) (slice_get_past blocks l h));
      passes = λ h. (
        left_by x.scopes l,
        (x, found, omega (arith, h, many), refl),
        ap (λ bs. ends bs l) around ∙ ap (map end_of) (take-map block_of (l + 1) x.scopes),
      );
    }

pub read_around : ReadAround
read_around code before behind place is =
    (place, subst (λ ps. Contains ps place) (sym is) (Contains-append_right before (place ∷ behind) place (0, omega arith, refl)), refl, refl)
