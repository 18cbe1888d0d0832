-- The innermost frame.
use Rattle.std.proofs.Common.{◌≡◌, ℕ, ◌+◌, ◌-◌, ◌≤◌, List, [], ◌∷◌, Option, length, take, drop, get_or, set, true, sym, ap, subst, ◌∙◌, arith}
use Rattle.std.specs.Prelude.{reverse}
use Rattle.ctrl_stack.specs.declared.frame.Frame.{Frame}
use Rattle.ctrl_stack.specs.Stack.{Stack, base_of, AreBasesOrdered, dead_frames, dead_from_here}
use Rattle.wasm_num.specs.declared.ValType.{ValType}
use Rattle.std.proofs.lemmas.List.{length-take-le}
use Rattle.ctrl_stack.proofs.Pops.{nested_base}
use Rattle.ctrl_stack.proofs.Lists.{reverse-take, reverse-last, reverse-set}

abbrev stack : List Frame → List (Option ValType) → Stack
stack fs xs = record { frames = fs; operands = xs }

abbrev with_dead : Frame → Frame
with_dead f = record f { dead = true }

pub reverse-dead : (fs : List Frame) (n : ℕ) (f d : Frame) → n + 1 ≡ length fs → f ≡ get_or fs n d → reverse (set fs n (record f { dead = true })) ≡ dead_frames (reverse fs)
reverse-dead fs n f d e h =
    reverse-set fs n (with_dead f) d e
    ∙ ap (λ (g : Frame). with_dead g ∷ reverse (take n fs)) h
    ∙ ap dead_frames (sym (reverse-last fs n d e))

pub base-reverse : (fs : List Frame) (n : ℕ) (d : Frame) → n + 1 ≡ length fs → base_of (reverse fs) ≡ (get_or fs n d).base
base-reverse fs n d e = ap base_of (reverse-last fs n d e)

pub nested_dead : (fs : List Frame) (n : ℕ) → AreBasesOrdered fs n → AreBasesOrdered (dead_frames fs) (base_of fs)
nested_dead [] n h = tt
nested_dead (f ∷ fs) n h = (omega arith, h.1)

-- the innermost frame f, at place n, is marked as dead, and the operands are cut to its base
module _ (fs : List Frame) (n : ℕ) (f : Frame) (ops new : List (Option ValType)) (e : n + 1 ≡ length fs) (h : f ≡ get_or fs n f) (cut : new ≡ take f.base ops) where
  base : f.base ≡ base_of (reverse fs)
  base = sym (base-reverse fs n f e ∙ ap (λ (g : Frame). g.base) (sym h))

  pub marked_nested : AreBasesOrdered (reverse fs) (length ops) → AreBasesOrdered (reverse (set fs n (record f { dead = true }))) (length new)
  marked_nested k =
      let low : base_of (reverse fs) ≤ length ops = nested_base (reverse fs) (length ops) k in
      let size : base_of (reverse fs) ≡ length new = sym (ap length cut ∙ length-take-le f.base ops (omega (arith, low, base)) ∙ base) in
      let P : List Frame → ℕ → Type 0 = λ gs m. AreBasesOrdered gs m in
      subst (λ m. P (reverse (set fs n (record f { dead = true }))) m) size
      (subst (λ gs. P gs (base_of (reverse fs))) (sym (reverse-dead fs n f f e h)) (nested_dead (reverse fs) (length ops) k))

  pub marked_view : ◌≡◌ {A = Stack} (record { frames = reverse (set fs n (record f { dead = true })); operands = reverse new }) (dead_from_here (record { frames = reverse fs; operands = reverse ops }))
  marked_view =
      let left : dead_frames (reverse fs) ≡ reverse (set fs n (record f { dead = true })) = sym (reverse-dead fs n f f e h) in
      let below : reverse new ≡ drop (length (reverse ops) - base_of (reverse fs)) (reverse ops) =
      ap reverse cut ∙ reverse-take f.base ops ∙ ap (λ m. drop (length (reverse ops) - m) (reverse ops)) base in
      ap (λ xs. stack xs (reverse new)) (sym left) ∙ ap (λ xs. stack (dead_frames (reverse fs)) xs) below
