-- Instructions that branch, on what the machine keeps.
use Rattle.std.proofs.Common.{◌≡◌, ◌≢◌, ℕ, zero, suc, ◌+◌, ◌-◌, List, [], ◌∷◌, ◌++◌, length, refl, sym, ap, subst, ◌∙◌, arith, length-append}
use Rattle.std.specs.Prelude.{slice_index_or}
use Rattle.wasm_sem.specs.Types.{Value, Instr}
use Rattle.wasm_num.specs.declared.Value.TheVariants.{I32, I64}
use Rattle.module_ast.specs.declared.code.Instr.TheVariants as instrs
use Rattle.module_ast.specs.Structure.{Tree, Plain, br_if, br_table}
use Rattle.wasm_sem.specs.Execution.{Instance, Label, Frame, Env, Next, branch, exit_label, reduce_plain, frame_behind}
use Rattle.run_stack.specs.Flat.{Flat, first_base, CanBranch, BranchesOut}
use Rattle.run_stack.specs.Kept.{under, low_of, spots_of, all_spots, Lies}
use Rattle.run_stack.specs.Comes.{IsUnstuck, LiesNext, IsMoving, next_of}
use Rattle.run_stack.proofs.Lying.{with_values, labels_are}
use Rattle.run_stack.proofs.Straights.{pushed, popped, popped_is}
use Rattle.run_stack.proofs.Jumps.{IsAtLabel, land_comes, can_jump, jump_comes}

module _ (s : Flat) (place : Tree) (inst : Instance) (e : Env) (fr : Frame) (below : List Frame) where
  abbrev here : Frame
  here = frame_behind fr fr.top.rest

  abbrev Moving : Instr → Type 0
  Moving i = IsMoving s place i inst e fr below

  abbrev jumps : List Value → ℕ → Next
  jumps o n = branch inst e here below o n here.top here.outer

  -- the innermost label, with these operands on top
  starts : (t : Flat) (o : List Value) → Lies s (fr ∷ below) → t ≡ with_values s (o ++ under fr below) → IsAtLabel t inst e here below o [] [] here.top here.outer
  starts t o lies h =
      subst (λ (t : Flat). IsAtLabel t inst e here below o [] [] here.top here.outer) (sym h) (record { values = refl; spots = lies.spots; bases = lies.bases })

  pub itself : Lies s (fr ∷ below) → s ≡ with_values s (fr.top.ops ++ under fr below)
  itself lies = ap (with_values s) lies.values

  from_zero : (n : ℕ) → 0 + n ≡ n
  from_zero n = omega arith

  can : (t : Flat) (o : List Value) (n : ℕ) → Lies s (fr ∷ below) → t ≡ with_values s (o ++ under fr below) → IsUnstuck (jumps o n) → CanBranch n t
  can t o n lies h r = subst (λ k. CanBranch k t) (from_zero n) (can_jump t inst e here below o n [] [] here.top here.outer (starts t o lies h) r)

  comes : (t u : Flat) (o : List Value) (n : ℕ) → Lies s (fr ∷ below) → t ≡ with_values s (o ++ under fr below) → IsUnstuck (jumps o n) → BranchesOut n t u → LiesNext inst e (jumps o n) u
  comes t u o n lies h r b = jump_comes t inst e here below o n [] [] here.top here.outer (starts t o lies h) u r (subst (λ k. BranchesOut k t u) (sym (from_zero n)) b)

  pub br_can : (n : ℕ) → Moving (instrs.Br n) → CanBranch n s
  br_can n m = can s fr.top.ops n m.lies (itself m.lies) m.ready

  pub br_comes : (n : ℕ) → Moving (instrs.Br n) → (u : Flat) → BranchesOut n s u → LiesNext inst e (next_of inst e fr below (instrs.Br n)) u
  br_comes n m u b = comes s u fr.top.ops n m.lies (itself m.lies) m.ready b

  -- return
  outermost : (n : ℕ) → Lies s (fr ∷ below) → n ≡ length s.spots - (first_base s.bases).labels → n - 1 ≡ length here.outer
  outermost n lies h =
      omega (arith, h, spots, count fr.outer, ap (λ bs. (first_base bs).labels) lies.bases)
    where
      count : (ls : List Label) → length (spots_of (low_of fr below) ls) ≡ length ls
      count [] = refl
      count (l ∷ ls) = omega (arith, count ls)

      spots : length s.spots ≡ 1 + length (spots_of (low_of fr below) fr.outer) + length (all_spots below)
      spots = ap length lies.spots ∙ length-append (spots_of (low_of fr below) (fr.top ∷ fr.outer)) (all_spots below) ∙ omega arith

  pub return_can : (n : ℕ) → n ≡ length s.spots - (first_base s.bases).labels → Moving instrs.Return → CanBranch (n - 1) s
  return_can n h m = subst (λ k. CanBranch k s) (sym (outermost n m.lies h)) (can s fr.top.ops (length here.outer) m.lies (itself m.lies) m.ready)

  pub return_comes : (n : ℕ) → n ≡ length s.spots - (first_base s.bases).labels → Moving instrs.Return → (u : Flat) → BranchesOut (n - 1) s u → LiesNext inst e (next_of inst e fr below instrs.Return) u
  return_comes n h m u b = comes s u fr.top.ops (length here.outer) m.lies (itself m.lies) m.ready (subst (λ k. BranchesOut k s u) (outermost n m.lies h) b)

  -- ---- with an operand

  abbrev plain_next : Plain → List Value → Next
  plain_next p o = reduce_plain inst e here below p o

  -- what asks for an `i32` finds one on top
  pub on_top : (Q : List Value → Type 0) → (Q [] → ⊥) → ((n : ℕ) (o : List Value) → Q (I64 n ∷ o) → ⊥) → (P : List Value → Type 0)
      → ((n : ℕ) (o : List Value) → fr.top.ops ≡ I32 n ∷ o → Q (I32 n ∷ o) → P (I32 n ∷ o)) → Q fr.top.ops → P fr.top.ops
  on_top Q none long P f r = go fr.top.ops refl r
    where
      go : (o : List Value) → fr.top.ops ≡ o → Q o → P o
      go [] k r = absurd (none r)
      go (I64 n ∷ o) k r = absurd (long n o r)
      go (I32 n ∷ o) k r = f n o k r

  on_number : (p : Plain) → (IsUnstuck (plain_next p []) → ⊥) → ((n : ℕ) (o : List Value) → IsUnstuck (plain_next p (I64 n ∷ o)) → ⊥) → (P : List Value → Type 0)
      → ((n : ℕ) (o : List Value) → fr.top.ops ≡ I32 n ∷ o → IsUnstuck (plain_next p (I32 n ∷ o)) → P (I32 n ∷ o)) → IsUnstuck (plain_next p fr.top.ops) → P fr.top.ops
  on_number p none long P f r = on_top (λ o. IsUnstuck (plain_next p o)) none long P f r

  abbrev number : Value → ℕ
  number (I32 n) = n
  number (I64 n) = n

  -- the operand has been taken
  pub record Taken (x : ℕ) (t : Flat) (n : ℕ) (o : List Value) : Type 0 where
    pub left : t ≡ with_values s (o ++ under fr below)
    pub is : x ≡ n

  pub takes : (x : ℕ) (t : Flat) (n : ℕ) (o : List Value) → Lies s (fr ∷ below) → s ≡ pushed (I32 x) t → fr.top.ops ≡ I32 n ∷ o → Taken x t n o
  takes x t n o lies h k =
      let top : s.values ≡ I32 n ∷ (o ++ under fr below) = lies.values ∙ ap (λ o. o ++ under fr below) k in
      record { left = popped s t (I32 x) (I32 n) (o ++ under fr below) h top; is = ap number (popped_is s t (I32 x) (I32 n) (o ++ under fr below) h top) }

  -- br_if
  taken_if : (n x k : ℕ) (o : List Value) → x ≡ k → x ≢ 0 → plain_next (br_if n) (I32 k ∷ o) ≡ jumps o n
  taken_if n x zero o e h = absurd (h e)
  taken_if n x (suc k) o e h = refl

  pub br_if_can : (n x : ℕ) (t : Flat) → x ≢ 0 → s ≡ pushed (I32 x) t → Moving (instrs.BrIf n) → CanBranch n t
  br_if_can n x t some h m = on_number (br_if n) (λ r. r) (λ k o r. r) (λ o. CanBranch n t) (λ k o q r.
      let z = takes x t k o m.lies h q in can t o n m.lies z.left (subst IsUnstuck (taken_if n x k o z.is some) r)) m.ready

  pub br_if_comes : (n x : ℕ) (t u : Flat) → x ≢ 0 → s ≡ pushed (I32 x) t → Moving (instrs.BrIf n) → BranchesOut n t u → LiesNext inst e (next_of inst e fr below (instrs.BrIf n)) u
  br_if_comes n x t u some h m b = on_number (br_if n) (λ r. r) (λ k o r. r) (λ o. LiesNext inst e (plain_next (br_if n) o) u) (λ k o q r.
      let z = takes x t k o m.lies h q in
      let is = taken_if n x k o z.is some in
      subst (λ c. LiesNext inst e c u) (sym is) (comes t u o n m.lies z.left (subst IsUnstuck is r) b)) m.ready

  -- br_table
  pub br_table_can : (ns : List ℕ) (n x : ℕ) (t : Flat) → s ≡ pushed (I32 x) t → Moving (instrs.BrTable ns n) → CanBranch (slice_index_or ns x n) t
  br_table_can ns n x t h m = on_number (br_table ns n) (λ r. r) (λ k o r. r) (λ o. CanBranch (slice_index_or ns x n) t) (λ k o q r.
      let z = takes x t k o m.lies h q in can t o (slice_index_or ns x n) m.lies z.left (subst (λ k. IsUnstuck (jumps o (slice_index_or ns k n))) (sym z.is) r)) m.ready

  pub br_table_comes : (ns : List ℕ) (n x : ℕ) (t u : Flat) → s ≡ pushed (I32 x) t → Moving (instrs.BrTable ns n) → BranchesOut (slice_index_or ns x n) t u → LiesNext inst e (next_of inst e fr below (instrs.BrTable ns n)) u
  br_table_comes ns n x t u h m b = on_number (br_table ns n) (λ r. r) (λ k o r. r) (λ o. LiesNext inst e (plain_next (br_table ns n) o) u) (λ k o q r.
      let z = takes x t k o m.lies h q in
      comes t u o (slice_index_or ns k n) m.lies z.left r (subst (λ k. BranchesOut (slice_index_or ns k n) t u) z.is b)) m.ready

-- ---- the end of a sequence

module _ (s : Flat) (inst : Instance) (e : Env) (fr : Frame) (below : List Frame) (lies : Lies s (fr ∷ below)) where
  abbrev own_labels : ℕ
  own_labels = length s.spots - (first_base s.bases).labels

  own_are : own_labels ≡ length fr.outer + 1
  own_are = labels_are s fr below lies

  start : IsAtLabel s inst e fr below fr.top.ops [] [] fr.top fr.outer
  start = record { values = lies.values; spots = lies.spots; bases = lies.bases }

  -- of the function's body
  pub end_can : own_labels ≡ 1 → IsUnstuck (exit_label inst e fr below fr.outer) → CanBranch 0 s
  end_can h r = go fr.outer refl r
    where
      go : (outer : List Label) → fr.outer ≡ outer → IsUnstuck (exit_label inst e fr below outer) → CanBranch 0 s
      go [] k r = subst (λ n. CanBranch n s) (from_zero s fr.top.rest inst e fr below 0) (can_jump s inst e fr below fr.top.ops 0 [] [] fr.top [] (subst (IsAtLabel s inst e fr below fr.top.ops [] [] fr.top) k start) r)
      go (l ∷ ls) k r = absurd (omega (arith, h, own_are, ap length k))

  pub end_comes : own_labels ≡ 1 → (u : Flat) → IsUnstuck (exit_label inst e fr below fr.outer) → BranchesOut 0 s u → LiesNext inst e (exit_label inst e fr below fr.outer) u
  end_comes h u r b = go fr.outer refl r
    where
      go : (outer : List Label) → fr.outer ≡ outer → IsUnstuck (exit_label inst e fr below outer) → LiesNext inst e (exit_label inst e fr below outer) u
      go [] k r = land_comes s inst e fr below fr.top.ops [] [] fr.top [] (subst (IsAtLabel s inst e fr below fr.top.ops [] [] fr.top) k start) u r b
      go (l ∷ ls) k r = absurd (omega (arith, h, own_are, ap length k))
