-- What a reader keeps of items that may be floating-point or nest too deep.
use Rattle.std.specs.Prelude.{◌≡◌, ℕ, List, [], ◌∷◌, map, Bool, true, false, Option, Some, None, cond, nat_lt}
use Rattle.module_ast.specs.Binary.{some_in}

-- A type of item: whether an item is floating-point, the program's value as a tree of the grammar, how deep its code
-- nests, and the value without its code.
pub record Form (T G : Type 0) : Type 0 where
  pub floats : G → Bool
  pub view : T → G
  pub nests : T → ℕ
  pub blank : T → T

-- an item, without its code if that nests deeper than the bound
abbrev pub draft_items : {T G : Type 0} → Form T G → (bound : ℕ) → T → T
draft_items f bound x = cond (nat_lt bound (f.nests x)) (f.blank x) x

-- the first number above a bound
abbrev pub first_above : (bound : ℕ) → List ℕ → Option ℕ
first_above bound [] = None
first_above bound (n ∷ ns) = cond (nat_lt bound n) (Some n) (first_above bound ns)

-- the first of what was found before and what is found now
abbrev pub first_of : Option ℕ → ℕ → Option ℕ
first_of None found = Some found
first_of (Some first) found = Some first

-- of items their values, or only that one has a floating-point node
abbrev pub ItemsStandFor : {T G : Type 0} → Form T G → (bound : ℕ) → (floats : Bool) → List T → (deep : Option ℕ) → List G → Type 0
ItemsStandFor f bound true xs deep gs = some_in f.floats gs ≡ true
ItemsStandFor {T} f bound false xs deep gs =
    (ys : List T) × (gs ≡ map f.view ys) × (xs ≡ map (draft_items f bound) ys) × (deep ≡ first_above bound (map f.nests ys))
