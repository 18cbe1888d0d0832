-- How many operands straight code has at once, whatever the types of the operands are.
use Rattle.std.proofs.Common.{◌≡◌, ℕ, ◌+◌, ◌-◌, ◌≤◌, ℤ, List, [], ◌∷◌, ◌++◌, length, length-drop, max, Bool, true, false, cond, refl, sym, ap, ◌∙◌, subst, arith}
use Rattle.std.proofs.lemmas.Bool.{cond_both}
use Rattle.wasm_sem.specs.Types.{ValType}
use Rattle.module_ast.specs.Lists.{when}
use Rattle.module_ast.specs.Places.{goes_on, operands_behind, code_height}
use Rattle.module_ast.specs.Structure.{Tree, Plain, plains, local_get, local_set, local_tee, i32_const}
use Rattle.module_ast.specs.Validation.{Context, push, Turns}
use Rattle.rewrite.proofs.Joined.{plains_joined}

-- with more pushed there are as many more
pub push_length : (xs ys : List ValType) → length (push xs ys) ≡ length xs + length ys
push_length [] ys = omega arith
push_length (x ∷ xs) ys = let h = push_length xs (x ∷ ys) in omega (arith, h)

-- a place, and what follows it if it is live
pub both_under : (a b high : ℕ) (goes : Bool) → a ≤ high → (goes ≡ true → b ≤ high) → max a (cond goes b 0) ≤ high
both_under a b high true h f = let k = f refl in omega (arith, h, k)
both_under a b high false h f = omega (arith, h)

-- and what follows it is not
one_under : (a b high : ℕ) (goes : Bool) → goes ≡ false → a ≤ high → max a (cond goes b 0) ≤ high
one_under a b high true e h = cc
one_under a b high false e h = omega (arith, h)

-- The code takes so many operands and leaves so many, and `most` is the most that it has on the way. So it is no higher
-- than what follows it, or than the operands below and these.
pub record Lifts (d : Context) (is : List Plain) (takes leaves most : ℕ) : Type 0 where
  pub on : (below base high : ℕ) (k : Tree) (o : List ValType) → length o ≡ takes + base → below + base + most ≤ high
      → ((u : List ValType) → length u ≡ leaves + base → code_height d below k u ≤ high) → code_height d below (plains is k) o ≤ high

module _ (d : Context) where
  -- no instruction
  pub no_lift : (n most : ℕ) → Lifts d [] n n most
  no_lift n most = record { on = λ below base high k o e l next. next o e }

  -- one that goes on
  pub one_lifts : (i : Plain) (takes leaves most : ℕ) → goes_on i ≡ true → takes ≤ most
      → ((o : List ValType) (base : ℕ) → length o ≡ takes + base → length (operands_behind d i o) ≡ leaves + base) → Lifts d (i ∷ []) takes leaves most
  one_lifts i takes leaves most goes few f = record {
    on = λ below base high k o e l next.
        both_under (below + length o) (code_height d below k (operands_behind d i o)) high (goes_on i) (omega (arith, e, l, few)) (λ g. next (operands_behind d i o) (f o base e));
  }

  -- one stretch, and then another
  pub lifts_then : (is js : List Plain) (a b e most : ℕ) → Lifts d is a b most → Lifts d js b e most → Lifts d (is ++ js) a e most
  lifts_then is js a b e most f g = record {
    on = λ below base high k o eq l next.
        subst (λ t. code_height d below t o ≤ high) (sym (plains_joined is js k)) (f.on below base high (plains js k) o eq l (λ u h. g.on below base high k u h l next));
  }

  -- over more operands, and with more room
  pub lifts_over : (x : ℕ) (is : List Plain) (a b m takes leaves most : ℕ) → takes ≡ x + a → leaves ≡ x + b → x + m ≤ most → Lifts d is a b m → Lifts d is takes leaves most
  lifts_over x is a b m takes leaves most ea eb em f = record {
    on = λ below base high k o e l next.
        f.on below (x + base) high k o (omega (arith, e, ea)) (omega (arith, l, em)) (λ u h. next u (omega (arith, h, eb)));
  }

  -- one or the other
  pub lifts_cond : (b : Bool) (is js : List Plain) (takes leaves most : ℕ) → (b ≡ true → Lifts d is takes leaves most) → (b ≡ false → Lifts d js takes leaves most) → Lifts d (cond b is js) takes leaves most
  lifts_cond b is js takes leaves most f g = cond_both b is js (λ is. Lifts d is takes leaves most) f g

  -- something or nothing
  pub lifts_when : (b : Bool) (is : List Plain) (n most : ℕ) → (b ≡ true → Lifts d is n n most) → Lifts d (when b is) n n most
  lifts_when true is n most f = f refl
  lifts_when false is n most f = no_lift n most

  -- a constant, and a local that is read, written, or written while its value stays
  pub const_lifts : (z : ℤ) (most : ℕ) → Lifts d (i32_const z ∷ []) 0 1 most
  const_lifts z most = one_lifts (i32_const z) 0 1 most refl (omega arith) (λ o base e. omega (arith, e))

  pub get_lifts : (x most : ℕ) → Lifts d (local_get x ∷ []) 0 1 most
  get_lifts x most = one_lifts (local_get x) 0 1 most refl (omega arith) (λ o base e. omega (arith, e))

  pub set_lifts : (x most : ℕ) → 1 ≤ most → Lifts d (local_set x ∷ []) 1 0 most
  set_lifts x most h = one_lifts (local_set x) 1 0 most refl h (λ o base e. omega (arith, e, length-drop 1 o))

  pub tee_lifts : (x most : ℕ) → 1 ≤ most → Lifts d (local_tee x ∷ []) 1 1 most
  tee_lifts x most h = one_lifts (local_tee x) 1 1 most refl h (λ o base e. e)

-- ---- at operands of these numbers

-- The code finds so many operands, and leaves so many if it goes on. It is no higher than what follows it, or than either
-- number and `rise`.
pub record Rises (d : Context) (is : List Plain) (goes : Bool) (before after rise : ℕ) : Type 0 where
  pub on : (below high : ℕ) (k : Tree) (o : List ValType) → length o ≡ before → below + before + rise ≤ high
      → (goes ≡ true → (below + after + rise ≤ high) × ((u : List ValType) → length u ≡ after → code_height d below k u ≤ high)) → code_height d below (plains is k) o ≤ high

module _ (d : Context) where
  -- code that goes on
  pub lifts_rise : (is : List Plain) (takes leaves a b : List ValType) (most rise : ℕ) → Lifts d is (length takes) (length leaves) most → most ≤ max (length takes) (length leaves) + rise
      → Turns takes leaves a b → Rises d is true (length a) (length b) rise
  lifts_rise is takes leaves a b most rise f few (under, ea, eb) =
      let base = length under in
      let na : length a ≡ length takes + base = ap length ea ∙ push_length takes under in
      let nb : length b ≡ length leaves + base = ap length eb ∙ push_length leaves under in
      record {
        on = λ below high k o e l next.
            let more = next refl in
            let room = more.0 in
            f.on below base high k o (e ∙ na) (omega (arith, l, room, few, na, nb)) (λ u h. more.1 u (h ∙ sym nb));
      }

  -- an instruction that does not go on
  pub stop_rises : (i : Plain) (before after rise : ℕ) → goes_on i ≡ false → Rises d (i ∷ []) false before after rise
  stop_rises i before after rise ends = record {
    on = λ below high k o e l next. one_under (below + length o) (code_height d below k (operands_behind d i o)) high (goes_on i) ends (omega (arith, e, l));
  }

  -- code that leaves what it finds, before other code
  pub before_rises : (is js : List Plain) (goes : Bool) (before after rise n : ℕ) → Lifts d is n n (n + rise) → n ≤ before → Rises d js goes before after rise → Rises d (is ++ js) goes before after rise
  before_rises is js goes before after rise n f few g = record {
    on = λ below high k o e l next.
        subst (λ t. code_height d below t o ≤ high) (sym (plains_joined is js k))
        (f.on below (before - n) high (plains js k) o (omega (arith, e, few)) (omega (arith, l, few)) (λ u h. g.on below high k u (omega (arith, h, few)) l next));
  }
