-- The temporaries of live code are those of its places.
use Rattle.std.proofs.Common.{◌≡◌, ℕ, ◌+◌, List, [], ◌∷◌, ◌++◌, Bool, true, false, refl, ap, ap₂, ◌∙◌, append-nil, arith}
use Rattle.std.specs.List.{flat_map}
use Rattle.std.proofs.lemmas.Grind.{flat_map-append}
use Rattle.wasm_sem.specs.Types.{ValType, Hooks}
use Rattle.wasm_num.specs.declared.BlockKind.TheVariants as kinds
use Rattle.module_ast.specs.Lists.{when}
use Rattle.module_ast.specs.Places.{Scope, Place, at, alternates, closes, code_size, goes_on, ends_live, code_places, function_scope, block_scope, loop_scope, if_scope, then_scope, else_scope}
use Rattle.module_ast.specs.Structure.{Tree, done, plain, block, loop, if_then, if_else}
use Rattle.hook_mono.specs.Needed.{Site}
use Rattle.rewrite_needs.specs.Temporaries.{open_temps, close_temps, plain_temps, place_temps, body_temps, code_temps}

none_when : (b : Bool) → when b (let none : List (List ValType) = [] in none) ≡ []
none_when true = refl
none_when false = refl

module _ (hooks : Hooks) (s : Site) where
  -- the temporaries of places in order
  abbrev of_places : List Place → List (List ValType)
  of_places xs = flat_map (place_temps hooks s) xs

  -- of a part, its end and what stands behind it
  part_placed : (inner rest : List Place) (end : Place) (xs ys : List (List ValType)) → of_places inner ≡ xs → place_temps hooks s end ≡ [] → of_places rest ≡ ys
      → of_places (inner ++ end ∷ rest) ≡ xs ++ ys
  part_placed inner rest end xs ys a b c =
      flat_map-append (place_temps hooks s) inner (end ∷ rest) ∙ ap₂ (λ (l r : List (List ValType)). l ++ r) a (ap₂ (λ (l r : List (List ValType)). l ++ r) b c)

  -- dead code needs none
  none_placed : (ss : List Scope) (p : ℕ) (k : Tree) → of_places (code_places ss false p k) ≡ []
  none_placed ss p done = refl
  none_placed ss p (plain i k) = none_placed ss (p + 1) k
  none_placed ss p (block ty body k) =
      let b = block_scope p body in
      part_placed (code_places (b ∷ ss) false (p + 1) body) (code_places ss false (b.end + 1) k) (at b.end (ends_live false body) (closes b) ss) [] [] (none_placed (b ∷ ss) (p + 1) body) (none_when (ends_live false body)) (none_placed ss (b.end + 1) k)
  none_placed ss p (loop ty body k) =
      let b = loop_scope p body in
      part_placed (code_places (b ∷ ss) false (p + 1) body) (code_places ss false (b.end + 1) k) (at b.end (ends_live false body) (closes b) ss) [] [] (none_placed (b ∷ ss) (p + 1) body) (none_when (ends_live false body)) (none_placed ss (b.end + 1) k)
  none_placed ss p (if_then ty body k) =
      let b = if_scope p body in
      part_placed (code_places (b ∷ ss) false (p + 1) body) (code_places ss false (b.end + 1) k) (at b.end (ends_live false body) (closes b) ss) [] [] (none_placed (b ∷ ss) (p + 1) body) (none_when (ends_live false body)) (none_placed ss (b.end + 1) k)
  none_placed ss p (if_else ty body other k) =
      let a = then_scope p body other in
      let b = else_scope p body other in
      part_placed (code_places (a ∷ ss) false (p + 1) body) _ _ [] [] (none_placed (a ∷ ss) (p + 1) body) refl
      (part_placed (code_places (b ∷ ss) false (a.end + 1) other) (code_places ss false (b.end + 1) k) (at b.end (ends_live false other) (closes b) ss) [] [] (none_placed (b ∷ ss) (a.end + 1) other) (none_when (ends_live false other)) (none_placed ss (b.end + 1) k))

  behind : (b : Bool) (ss : List Scope) (p : ℕ) (k : Tree) → of_places (code_places ss true p k) ≡ code_temps hooks s p k → of_places (code_places ss b p k) ≡ when b (code_temps hooks s p k)
  behind true ss p k h = h
  behind false ss p k h = none_placed ss p k

  from : (ss : List Scope) (p q : ℕ) (k : Tree) → p ≡ q → of_places (code_places ss true p k) ≡ code_temps hooks s p k → of_places (code_places ss true p k) ≡ code_temps hooks s q k
  from ss p q k e h = h ∙ ap (λ n. code_temps hooks s n k) e

  -- live code needs what its places need
  live_placed : (ss : List Scope) (p : ℕ) (k : Tree) → of_places (code_places ss true p k) ≡ code_temps hooks s p k
  live_placed ss p done = refl
  live_placed ss p (plain i k) = ap (λ (l : List (List ValType)). plain_temps hooks s p i ++ l) (behind (goes_on i) ss (p + 1) k (live_placed ss (p + 1) k))
  live_placed ss p (block ty body k) =
      let b = block_scope p body in
      part_placed (code_places (b ∷ ss) true (p + 1) body) (code_places ss true (b.end + 1) k) (at b.end (ends_live true body) (closes b) ss) _ _ (live_placed (b ∷ ss) (p + 1) body) (none_when (ends_live true body))
      (from ss (b.end + 1) (p + code_size body + 2) k (omega arith) (live_placed ss (b.end + 1) k))
  live_placed ss p (loop ty body k) =
      let b = loop_scope p body in
      part_placed (code_places (b ∷ ss) true (p + 1) body) (code_places ss true (b.end + 1) k) (at b.end (ends_live true body) (closes b) ss) _ _ (live_placed (b ∷ ss) (p + 1) body) (none_when (ends_live true body))
      (from ss (b.end + 1) (p + code_size body + 2) k (omega arith) (live_placed ss (b.end + 1) k))
  live_placed ss p (if_then ty body k) =
      let b = if_scope p body in
      ap (λ (l : List (List ValType)). open_temps hooks kinds.If ++ l)
      (part_placed (code_places (b ∷ ss) true (p + 1) body) (code_places ss true (b.end + 1) k) (at b.end (ends_live true body) (closes b) ss) _ _ (live_placed (b ∷ ss) (p + 1) body) (none_when (ends_live true body))
      (from ss (b.end + 1) (p + code_size body + 2) k (omega arith) (live_placed ss (b.end + 1) k)))
  live_placed ss p (if_else ty body other k) =
      let a = then_scope p body other in
      let b = else_scope p body other in
      ap (λ (l : List (List ValType)). open_temps hooks kinds.If ++ l)
      (part_placed (code_places (a ∷ ss) true (p + 1) body) _ (at a.end true (alternates a b (ends_live true body)) ss) _ _ (live_placed (a ∷ ss) (p + 1) body) refl
      (part_placed (code_places (b ∷ ss) true (a.end + 1) other) (code_places ss true (b.end + 1) k) (at b.end (ends_live true other) (closes b) ss) _ _
      (from (b ∷ ss) (a.end + 1) (p + code_size body + 2) other (omega arith) (live_placed (b ∷ ss) (a.end + 1) other)) (none_when (ends_live true other))
      (from ss (b.end + 1) (p + code_size body + code_size other + 3) k (omega arith) (live_placed ss (b.end + 1) k))))

  -- a body needs those of its code, and those of its end where that is live
  pub body_placed : body_temps hooks s ≡ code_temps hooks s 0 s.body.code ++ when (ends_live true s.body.code) (close_temps hooks s kinds.Function)
  body_placed =
      let code = s.body.code in
      let f = function_scope code in
      let end = at f.end (ends_live true code) (closes f) [] in
      flat_map-append (place_temps hooks s) (code_places (f ∷ []) true 0 code) (end ∷ [])
      ∙ ap₂ (λ (l r : List (List ValType)). l ++ r) (live_placed (f ∷ []) 0 code) (append-nil (place_temps hooks s end))
