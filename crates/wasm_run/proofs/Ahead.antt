-- The values with which a step leaves the last frame, read before it.
use Rattle.std.proofs.Common.{◌≡◌, ℕ, zero, suc, ◌+◌, ◌<◌, ◌≤◌, List, [], ◌∷◌, ◌++◌, length, drop, slice_index_or, Option, Some, None, nat_lt, ltb-true, ltb-false, Bool, true, false, cond, ◌==◌, eqb-true, eq-eqb, refl, sym, ap, subst, ◌∙◌, arith, length-append}
use Rattle.std.proofs.lemmas.List.{length-drop}
use Rattle.std.proofs.lemmas.Option.{same_Some, none-some}
use Rattle.wasm_sem.specs.Types.{Value}
use Rattle.wasm_num.specs.declared.Value.TheVariants.{I32, I64}
use Rattle.module_ast.specs.Structure.{Tree, done, plain, Plain, br, br_if, br_table, return_, call, call_indirect}
use Rattle.module_ast.specs.Validation.{push}
use Rattle.wasm_sem.specs.Execution.{outermost, TraceItem, Instance, Label, Frame, Env, Configuration, configuration, Next, reduces, pop_values, branch_with, branch, exit_label, frame_behind, reduce_code, env_after, return_to}
use Rattle.wasm_sem.specs.declared.Answer.TheVariants.{Returned}
use Rattle.wasm_sem.proofs.Rules.{Jumps, lands, leaves, crosses, unfed, unheld, TakesBranch, by_br, by_br_if, by_table, by_return, StepRule, computes, halts, jumps, stays, calls, misses, opens, skips, falls, finishes, enters, rests, lacks, rule_of, by_index, by_slot, frame_before, frame_after}
use Rattle.run_stack.specs.Calls.{NextIsNoCall}
use Rattle.run_stack.specs.Comes.{IsUnstuck}
use Rattle.run_stack.specs.Below.{IsBelow}
use Rattle.run_stack.specs.Flat.{Spot, Flat, first_rest, lowest_arity, outermost_number}
use Rattle.run_stack.specs.Kept.{under, low_of, spots_of, all_spots, all_bases, Lies}
use Rattle.run_stack.specs.Leaving.{above_outermost, above_results, HasNumber, LeavesFrom, LeavesMany}
use Rattle.run_stack.proofs.Lying.{labels_are}
use Rattle.run_stack.proofs.Popped.{parts, pop_over}
use Rattle.run_stack.proofs.Popped.{popped_top}
use Rattle.wasm_sem.proofs.Runs.{pop_push}

-- ---- numbers

-- a branch to the outermost label
outermost_is : (n last a above : ℕ) → above_outermost n last a ≡ Some above → (n ≡ last) × (a ≡ above)
outermost_is n last a above h = go (n == last) refl h
  where
    go : (b : Bool) → (n == last) ≡ b → cond b (Some a) None ≡ Some above → (n ≡ last) × (a ≡ above)
    go true e h = (eqb-true n last e, same_Some a above h)
    go false e h = absurd (none-some above h)

is_outermost : (n last a : ℕ) → n ≡ last → above_outermost n last a ≡ Some a
is_outermost n last a h = ap (λ m. above_outermost m last a) h ∙ ap (λ b. cond b (Some a) None) (eq-eqb last last refl)

-- ---- what the next step finds

module _ (inst : Instance) (e : Env) (fr : Frame) (below : List Frame) where
  abbrev next_code : Tree → List Value → Next
  next_code k o = reduce_code inst e fr below k o

  -- a branch that needs a number finds it
  pub number_there : (k : Tree) (o : List Value) → IsUnstuck (next_code k o) → HasNumber k o
  number_there (plain (br_if n) k) [] r = absurd r
  number_there (plain (br_if n) k) (I64 x ∷ o) r = absurd r
  number_there (plain (br_if n) k) (I32 x ∷ o) r = (x, o, refl)
  number_there (plain (br_table ns n) k) [] r = absurd r
  number_there (plain (br_table ns n) k) (I64 x ∷ o) r = absurd r
  number_there (plain (br_table ns n) k) (I32 x ∷ o) r = (x, o, refl)
  number_there k o r = tt

  -- a branch to the outermost label returns what it takes
  branch_to : (g : Frame) (o : List Value) (n : ℕ) (t : Label) (outer : List Label) → n ≡ length outer → IsUnstuck (branch inst e g below o n t outer)
      → (p : List Value × List Value) × (pop_values (outermost t outer).arity o [] ≡ Some p) × (branch inst e g below o n t outer ≡ return_to inst e below p.0)
  branch_to g o zero t [] h r = go (pop_values t.arity o []) refl r
    where
      go : (p : Option (List Value × List Value)) → pop_values t.arity o [] ≡ p → IsUnstuck (branch_with inst e g below t [] p)
          → (p : List Value × List Value) × (pop_values t.arity o [] ≡ Some p) × (branch_with inst e g below t [] (pop_values t.arity o []) ≡ return_to inst e below p.0)
      go None k r = absurd r
      go (Some p) k r = (p, k, ap (branch_with inst e g below t []) k)
  branch_to g o zero t (l ∷ ls) h r = absurd (omega (arith, h))
  branch_to g o (suc n) t [] h r = absurd (omega (arith, h))
  branch_to g o (suc n) t (l ∷ ls) h r = branch_to g o n l ls (omega (arith, h)) r

  -- the outermost label of the frame behind an instruction
  same_last : (k : Tree) (ls : List Label) → (outermost (frame_behind fr k).top ls).arity ≡ (outermost fr.top ls).arity
  same_last k [] = refl
  same_last k (l ∷ ls) = refl

  abbrev last_arity : ℕ
  last_arity = (outermost fr.top fr.outer).arity

  -- a step that leaves the function returns the results
  pub record Returns (o : List Value) (above : ℕ) (next : Next) : Type 0 where
    pub results : List Value
    pub rest : List Value
    pub popped : pop_values last_arity (drop above o) [] ≡ Some (results, rest)
    pub is : next ≡ return_to inst e below results

  by_branch_to : (k : Tree) (o left : List Value) (n : ℕ) (above : ℕ) → left ≡ drop above o → n ≡ length fr.outer → IsUnstuck (branch inst e (frame_behind fr k) below left n (frame_behind fr k).top fr.outer)
      → Returns o above (branch inst e (frame_behind fr k) below left n (frame_behind fr k).top fr.outer)
  by_branch_to k o left n above q h r =
      let (p, popped, is) = branch_to (frame_behind fr k) left n (frame_behind fr k).top fr.outer h r in
      record { results = p.0; rest = p.1; popped = ap (λ o. pop_values last_arity o []) (sym q) ∙ ap (λ n. pop_values n left []) (sym (same_last k fr.outer)) ∙ popped; is = is }

  by_exit : (outer : List Label) → fr.outer ≡ outer → length outer ≡ 0 → IsUnstuck (exit_label inst e fr below outer) → Returns fr.top.ops 0 (exit_label inst e fr below outer)
  by_exit [] q h r =
      let (p, popped, is) = branch_to fr fr.top.ops 0 fr.top [] refl r in
      record { results = p.0; rest = p.1; popped = ap (λ ls. pop_values (outermost fr.top ls).arity fr.top.ops []) q ∙ popped; is = is }
  by_exit (l ∷ ls) q h r = absurd (omega (arith, h))

  pub step_returns : (k : Tree) (o : List Value) → fr.top.ops ≡ o → IsUnstuck (next_code k o) → (above : ℕ) → above_results k o (length fr.outer) ≡ Some above → Returns o above (next_code k o)
  step_returns done o q r above h =
      let z = outermost_is 0 (length fr.outer) 0 above h in
      subst (λ n. Returns o n (next_code done o)) z.1 (subst (λ o. Returns o 0 (next_code done o)) q (by_exit fr.outer refl (sym z.0) r))
  step_returns (plain (br n) k) o q r above h =
      let z = outermost_is n (length fr.outer) 0 above h in
      subst (λ a. Returns o a (next_code (plain (br n) k) o)) z.1 (by_branch_to k o o n 0 refl z.0 r)
  step_returns (plain (br_if n) k) [] q r above h = absurd (none-some above h)
  step_returns (plain (br_if n) k) (I64 x ∷ o) q r above h = absurd (none-some above h)
  step_returns (plain (br_if n) k) (I32 zero ∷ o) q r above h = absurd (none-some above h)
  step_returns (plain (br_if n) k) (I32 (suc x) ∷ o) q r above h =
      let z = outermost_is n (length fr.outer) 1 above h in
      subst (λ a. Returns (I32 (suc x) ∷ o) a (next_code (plain (br_if n) k) (I32 (suc x) ∷ o))) z.1 (by_branch_to k (I32 (suc x) ∷ o) o n 1 refl z.0 r)
  step_returns (plain (br_table ns n) k) [] q r above h = absurd (none-some above h)
  step_returns (plain (br_table ns n) k) (I64 x ∷ o) q r above h = absurd (none-some above h)
  step_returns (plain (br_table ns n) k) (I32 x ∷ o) q r above h =
      let z = outermost_is (slice_index_or ns x n) (length fr.outer) 1 above h in
      subst (λ a. Returns (I32 x ∷ o) a (next_code (plain (br_table ns n) k) (I32 x ∷ o))) z.1 (by_branch_to k (I32 x ∷ o) o (slice_index_or ns x n) 1 refl z.0 r)
  step_returns (plain return_ k) o q r above h =
      subst (λ a. Returns o a (next_code (plain return_ k) o)) (same_Some 0 above h) (by_branch_to k o o (length fr.outer) 0 refl refl r)
  step_returns k o q r above h = absurd (none-some above h)

  -- ---- what the last frame leaves

  pub record Leaves (k : Tree) (o : List Value) (x : Env) : Type 0 where
    pub above : ℕ
    pub leaves : above_results k o (length fr.outer) ≡ Some above
    pub last : below ≡ []
    pub results : List Value
    pub rest : List Value
    pub popped : pop_values last_arity (drop above o) [] ≡ Some (results, rest)
    pub is : x ≡ env_after inst e.phase e (Returned results)

  abbrev pub NextLeaves : Tree → List Value → Next → Type 0
  NextLeaves k o (reduces (configuration x [])) = Leaves k o x
  NextLeaves k o _ = Unit {0}

  returned : (k : Tree) (o left : List Value) (above : ℕ) (p : List Value × List Value) → left ≡ drop above o → above_results k o (length fr.outer) ≡ Some above → pop_values last_arity left [] ≡ Some p
      → NextLeaves k o (return_to inst e below p.0)
  returned k o left above p q h popped = go below refl
    where
      go : (b : List Frame) → below ≡ b → NextLeaves k o (return_to inst e b p.0)
      go [] z = record { above = above; leaves = h; last = z; results = p.0; rest = p.1; popped = ap (λ o. pop_values last_arity o []) (sym q) ∙ popped; is = refl }
      go (c ∷ cs) z = tt

  jump_leaves : (g : Frame) (k : Tree) (o left : List Value) (above : ℕ) → left ≡ drop above o → {n : ℕ} {t : Label} {outer : List Label} {is : List TraceItem} {next : Next} → Jumps inst e g below left n t outer is next
      → (n ≡ length outer → above_results k o (length fr.outer) ≡ Some above) → (outermost t outer).arity ≡ last_arity → NextLeaves k o next
  jump_leaves g k o left above q (lands t l ls p h) f same = tt
  jump_leaves g k o left above q (leaves t p h) f same = returned k o left above p q (f refl) (subst (λ n. pop_values n left [] ≡ Some p) same h)
  jump_leaves g k o left above q (crosses t j) f same = jump_leaves g k o left above q j (λ z. f (ap suc z)) same
  jump_leaves g k o left above q (unfed t outer) f same = tt
  jump_leaves g k o left above q (unheld t) f same = tt

module _ (inst : Instance) where
  abbrev IsLeaving : Configuration → Next → Type 0
  IsLeaving (configuration e []) next = Unit {0}
  IsLeaving (configuration e (fr ∷ below)) next = NextIsNoCall fr.top.rest → NextLeaves inst e fr below fr.top.rest fr.top.ops next

  by_branch : (e : Env) (fr : Frame) (below : List Frame) (i : Plain) (k : Tree) (o : List Value) (n : ℕ) (left : List Value) {is js : List TraceItem} {next : Next} → TakesBranch (frame_after fr k o) i o n left is
      → Jumps inst e (frame_after fr k o) below left n (frame_after fr k o).top fr.outer js next → NextLeaves inst e (frame_before fr (plain i k) o) below (plain i k) o next
  by_branch e fr below _ k _ _ _ (by_br n o) j =
      jump_leaves inst e (frame_before fr (plain (br n) k) o) below (frame_after fr k o) (plain (br n) k) o o 0 refl j (is_outermost n (length fr.outer) 0) (last_same fr.outer)
    where
      last_same : (ls : List Label) → (outermost (frame_after fr k o).top ls).arity ≡ (outermost (frame_before fr (plain (br n) k) o).top ls).arity
      last_same [] = refl
      last_same (l ∷ ls) = refl
  by_branch e fr below _ k _ _ _ (by_br_if n x o) j =
      jump_leaves inst e (frame_before fr (plain (br_if n) k) (I32 (suc x) ∷ o)) below (frame_after fr k (I32 (suc x) ∷ o)) (plain (br_if n) k) (I32 (suc x) ∷ o) o 1 refl j (is_outermost n (length fr.outer) 1) (last_same fr.outer)
    where
      last_same : (ls : List Label) → (outermost (frame_after fr k (I32 (suc x) ∷ o)).top ls).arity ≡ (outermost (frame_before fr (plain (br_if n) k) (I32 (suc x) ∷ o)).top ls).arity
      last_same [] = refl
      last_same (l ∷ ls) = refl
  by_branch e fr below _ k _ _ _ (by_table ns n x o) j =
      jump_leaves inst e (frame_before fr (plain (br_table ns n) k) (I32 x ∷ o)) below (frame_after fr k (I32 x ∷ o)) (plain (br_table ns n) k) (I32 x ∷ o) o 1 refl j (is_outermost (slice_index_or ns x n) (length fr.outer) 1) (last_same fr.outer)
    where
      last_same : (ls : List Label) → (outermost (frame_after fr k (I32 x ∷ o)).top ls).arity ≡ (outermost (frame_before fr (plain (br_table ns n) k) (I32 x ∷ o)).top ls).arity
      last_same [] = refl
      last_same (l ∷ ls) = refl
  by_branch e fr below _ k _ _ _ (by_return o) j =
      jump_leaves inst e (frame_before fr (plain return_ k) o) below (frame_after fr k o) (plain return_ k) o o 0 refl j (λ z. refl) (last_same fr.outer)
    where
      last_same : (ls : List Label) → (outermost (frame_after fr k o).top ls).arity ≡ (outermost (frame_before fr (plain return_ k) o).top ls).arity
      last_same [] = refl
      last_same (l ∷ ls) = refl

  by_rule : {c : Configuration} {is ts : List TraceItem} {next : Next} → StepRule inst c is ts next → IsLeaving c next
  by_rule (computes e fr below i k o new l left si sr q same) = λ no_call. tt
  by_rule (halts e fr below i k o t si sr q) = λ no_call. tt
  by_rule (jumps e fr below i k o n left b q j) = λ no_call. by_branch e fr below i k o n left b j
  by_rule (stays e fr below n k o) = λ no_call. tt
  by_rule (calls e fr below _ k _ f c args left ev (by_index n _ o p at h) q j) = λ no_call. absurd no_call
  by_rule (calls e fr below _ k _ f c args left ev (by_slot x i n ty _ o p tx h sl at same) q j) = λ no_call. absurd no_call
  by_rule (misses e fr below x i k o ty f p t tx h sl) = λ no_call. tt
  by_rule (opens e fr below whole o s cont ty inside body outside k left p h q e1) = λ no_call. tt
  by_rule (skips e fr below bt body k o) = λ no_call. tt
  by_rule (falls e fr below o l ls) = λ no_call. tt
  by_rule (finishes e fr below o p h) = λ no_call. returned inst e (record fr { top = record fr.top { ops = o; rest = done }; outer = [] }) below done o o 0 p refl refl h
  by_rule (enters e c callee h at j) = tt
  by_rule (rests e h) = tt
  by_rule (lacks (configuration e []) h) = tt
  by_rule (lacks (configuration e (fr ∷ below)) h) = λ no_call. tt

-- where a step that calls no function leaves the last frame, the results stand below what stands above them
pub step_leaves : (inst : Instance) (e : Env) (fr : Frame) (below : List Frame) → NextIsNoCall fr.top.rest → NextLeaves inst e fr below fr.top.rest fr.top.ops (reduce_code inst e fr below fr.top.rest fr.top.ops)
step_leaves inst e fr below no_call = by_rule inst (rule_of inst (configuration e (fr ∷ below))) no_call

-- ---- on what the machine keeps

-- what stands below the operands does not count
same_above : (k : Tree) (o xs : List Value) (last : ℕ) → HasNumber k o → above_results k (o ++ xs) last ≡ above_results k o last
same_above (plain (br_if n) k) o xs last (x, r, q) = subst (λ o. above_results (plain (br_if n) k) (o ++ xs) last ≡ above_results (plain (br_if n) k) o last) (sym q) refl
same_above (plain (br_table ns n) k) o xs last (x, r, q) = subst (λ o. above_results (plain (br_table ns n) k) (o ++ xs) last ≡ above_results (plain (br_table ns n) k) o last) (sym q) refl
same_above k o xs last h = refl

number_over : (k : Tree) (o xs : List Value) → HasNumber k o → HasNumber k (o ++ xs)
number_over (plain (br_if n) k) o xs (x, r, q) = (x, r ++ xs, ap (λ o. o ++ xs) q)
number_over (plain (br_table ns n) k) o xs (x, r, q) = (x, r ++ xs, ap (λ o. o ++ xs) q)
number_over k o xs h = tt

bases_count : (fs : List Frame) → length (all_bases fs) ≡ length fs
bases_count [] = refl
bases_count (fr ∷ below) = ap suc (bases_count below)

none_below : (fs : List Frame) → length fs ≡ 0 → fs ≡ []
none_below [] h = refl
none_below (fr ∷ fs) h = absurd (omega (arith, h))

lowest_is : (low : ℕ) (t : Label) (ls : List Label) → lowest_arity (spots_of low (t ∷ ls) ++ []) ≡ (outermost t ls).arity
lowest_is low t [] = refl
lowest_is low t (l ∷ ls) = lowest_is low l ls

-- so many values of those below the topmost
drop_over : (n : ℕ) (o xs : List Value) → n ≤ length o → drop n (o ++ xs) ≡ drop n o ++ xs
drop_over zero o xs h = refl
drop_over (suc n) [] xs h = absurd (omega (arith, h))
drop_over (suc n) (v ∷ o) xs h = drop_over n o xs (omega (arith, h))

module _ (f : Flat) (inst : Instance) (e : Env) (fr : Frame) (below : List Frame) (lies : Lies f (fr ∷ below)) (ready : IsUnstuck (reduce_code inst e fr below fr.top.rest fr.top.ops)) where
  number : HasNumber fr.top.rest fr.top.ops
  number = number_there inst e fr below fr.top.rest fr.top.ops ready

  pub has_number : HasNumber (first_rest f.spots) f.values
  has_number =
      subst (λ (ss : List Spot). HasNumber (first_rest ss) f.values) (sym lies.spots)
      (subst (HasNumber fr.top.rest) (sym lies.values) (number_over fr.top.rest fr.top.ops (under fr below) number))

  above_is : above_results (first_rest f.spots) f.values (outermost_number f) ≡ above_results fr.top.rest fr.top.ops (length fr.outer)
  above_is =
      let labels = labels_are f fr below lies in
      let last : outermost_number f ≡ length fr.outer = omega (arith, labels) in
      ap (λ (ss : List Spot). above_results (first_rest ss) f.values (outermost_number f)) lies.spots
      ∙ ap (λ vs. above_results fr.top.rest vs (outermost_number f)) lies.values
      ∙ ap (above_results fr.top.rest (fr.top.ops ++ under fr below)) last
      ∙ same_above fr.top.rest fr.top.ops (under fr below) (length fr.outer) number

  abbrev results_count : ℕ
  results_count = (outermost fr.top fr.outer).arity

  count_is : below ≡ [] → lowest_arity f.spots ≡ results_count
  count_is last = ap lowest_arity (lies.spots ∙ ap (λ (fs : List Frame). spots_of (low_of fr below) (fr.top ∷ fr.outer) ++ all_spots fs) last) ∙ lowest_is (low_of fr below) fr.top fr.outer

  only : length f.bases ≡ 1 → below ≡ []
  only one = none_below below (omega (arith, one, ap length lies.bases, bases_count below))

  -- it leaves the last frame with many values
  pub leaves_many : (above : ℕ) → LeavesFrom f above → LeavesMany above fr below
  leaves_many above h = let last = only h.last in record { last = last; many = subst (λ n. 4 < n) (count_is last) h.many; leaves = sym above_is ∙ h.leaves }

  -- which are there
  module _ (above : ℕ) (h : LeavesMany above fr below) where
    pub returned_so : Returns inst e fr below fr.top.ops above (reduce_code inst e fr below fr.top.rest fr.top.ops)
    returned_so = step_returns inst e fr below fr.top.rest fr.top.ops refl ready above h.leaves

    there : above + results_count ≤ length fr.top.ops
    there =
        let n = (popped_top results_count (drop above fr.top.ops) [] returned_so.results returned_so.rest returned_so.popped).0 in
        omega (arith, n, length-drop above fr.top.ops, h.many)

    pub results_there : above + lowest_arity f.spots ≤ length f.values
    results_there = omega (arith, there, count_is h.last, ap length lies.values, length-append fr.top.ops (under fr below))

    pub same_results : (vs : List Value) → IsBelow above (lowest_arity f.spots) vs f.values → vs ≡ returned_so.results
    same_results vs is_below =
        let left = drop (above + lowest_arity f.spots) f.values in
        let taken : drop above f.values ≡ drop above fr.top.ops ++ under fr below = ap (drop above) lies.values ∙ drop_over above fr.top.ops (under fr below) (omega (arith, there)) in
        let popped : Some (vs, left) ≡ Some (returned_so.results, returned_so.rest ++ under fr below) =
        sym (pop_push vs left) ∙ ap (λ n. pop_values n (push vs left) []) (is_below.size ∙ count_is h.last) ∙ ap (λ o. pop_values results_count o []) (sym is_below.are ∙ taken)
        ∙ pop_over results_count (drop above fr.top.ops) [] (under fr below) returned_so.results returned_so.rest returned_so.popped in
        ap (λ (p : List Value × List Value). p.0) (same_Some (vs, left) (returned_so.results, returned_so.rest ++ under fr below) popped)

    -- so the last frame has been left with them
    pub left_with : (vs : List Value) → IsBelow above (lowest_arity f.spots) vs f.values → reduce_code inst e fr below fr.top.rest fr.top.ops ≡ reduces (configuration (env_after inst e.phase e (Returned vs)) [])
    left_with vs is_below = returned_so.is ∙ ap (λ b. return_to inst e b returned_so.results) h.last ∙ ap (λ vs. return_to inst e [] vs) (sym (same_results vs is_below))

  -- where it does not, they are few
  pub results_few : (x : Env) (l : Leaves inst e fr below fr.top.rest fr.top.ops x) → ((above : ℕ) → LeavesFrom f above → ⊥) → length l.results ≤ 4
  results_few x l none = few (nat_lt 4 (length l.results)) refl
    where
      from : 4 < length l.results → LeavesFrom f l.above
      from many =
          let counted = (parts results_count (drop l.above fr.top.ops) [] l.results l.rest l.popped).count in
          record {
            last = ap length lies.bases ∙ ap suc (bases_count below ∙ ap length l.last);
            many = omega (arith, many, counted, count_is l.last);
            leaves = above_is ∙ l.leaves;
          }

      few : (b : Bool) → nat_lt 4 (length l.results) ≡ b → length l.results ≤ 4
      few true h = absurd (none l.above (from (ltb-true 4 (length l.results) h)))
      few false h = omega (arith, ltb-false 4 (length l.results) h)

-- it calls no function
pub no_call : (k : Tree) (o : List Value) (last above : ℕ) → above_results k o last ≡ Some above → NextIsNoCall k
no_call (plain (call f) k) o last above h = absurd (none-some above h)
no_call (plain (call_indirect x) k) o last above h = absurd (none-some above h)
no_call k o last above h = tt
