-- What the machine keeps behind an instruction on variables, memory and numbers.
use Rattle.std.proofs.Common.{◌≡◌, ◌≢◌, ℕ, ◌<◌, List, [], ◌∷◌, ◌++◌, length, Option, Some, None, refl, sym, ap, subst, ◌∙◌, arith}
use Rattle.std.specs.Prelude.{slice_get, slice_set}
use Rattle.std.proofs.lemmas.Option.{same_Some, slice_get_within}
use Rattle.wasm_sem.specs.Types.{Value, Instr, ValType, NumOp}
use Rattle.module_ast.specs.declared.code.Instr.TheVariants as instrs
use Rattle.module_ast.specs.Structure.{local_set, local_tee}
use Rattle.run_store.specs.Held.{Held}
use Rattle.wasm_sem.specs.Execution.{Store, Frame, Reduct, reduct, reduce_simple, reduce_num, after_num, after_set}
use Rattle.wasm_num.specs.Shapes.{num_operands}
use Rattle.wasm_num.specs.Numbers.{Num, gives, fails, ill_typed, binary}
use Rattle.wasm_num.specs.Calcs.{IsWellTyped, IsBinary}
use Rattle.run_stack.specs.Flat.{Flat, local_place, set_from_below}
use Rattle.run_stack.specs.Kept.{under, Lies}
use Rattle.run_stack.specs.Straight.{Moment, reduct_at, IsFound, HasValueRoom, held_of, IsMomentBefore, IsMomentBehind}
use Rattle.run_stack.proofs.Lying.{with_values, lies_with_ops, lies_with_local}

-- ---- values on top

abbrev others : {A : Type 0} → List A → List A
others [] = []
others (x ∷ xs) = xs

abbrev first_or : {A : Type 0} → A → List A → A
first_or d [] = d
first_or d (x ∷ xs) = x

abbrev pub pushed : Value → Flat → Flat
pushed v t = with_values t (v ∷ t.values)

-- what is left when a value has been taken
pub popped : (s t : Flat) (v w : Value) (vs : List Value) → s ≡ pushed v t → s.values ≡ w ∷ vs → t ≡ with_values s vs
popped s t v w vs h e = sym (ap (λ (s : Flat). with_values s (others s.values)) h) ∙ ap (λ vs. with_values s (others vs)) e

-- and which it was
pub popped_is : (s t : Flat) (v w : Value) (vs : List Value) → s ≡ pushed v t → s.values ≡ w ∷ vs → v ≡ w
popped_is s t v w vs h e = sym (ap (λ (s : Flat). first_or v s.values) h) ∙ ap (first_or v) e

-- where there is a value
abbrev pub IfGives : Num → Type 0 → Type 0
IfGives (gives v) P = P
IfGives (fails t) P = Unit {0}
IfGives ill_typed P = Unit {0}

-- ---- an instruction

module _ (s : Flat) (memory : Held) (globals : List Value) (x : Moment) where
  abbrev low : List Value
  low = under x.frame x.below

  abbrev Before : Instr → Type 0
  Before i = IsMomentBefore s memory globals i x

  -- the operands stand on top
  pub on_top : (i : Instr) → Before i → (o : List Value) → x.frame.top.ops ≡ o → s.values ≡ o ++ low
  on_top i b o e = b.lies.values ∙ ap (λ o. o ++ low) e

  -- it leaves these operands
  pub leaves : (i : Instr) (b : Before i) (st : Store) (o : List Value) (t : Flat) (m : Held) (g : List Value) → reduct_at x i ≡ reduct st x.frame.locals o → t ≡ with_values s (o ++ low) → m ≡ held_of x.limit st → g ≡ st.globals
      → IsMomentBehind x (reduct_at x i) None t m g
  leaves i b st o t m g e et em eg =
      subst (λ c. IsMomentBehind x c None t m g) (sym e) (subst (λ t. Lies t (record x.frame { top = record x.frame.top { ops = o } } ∷ x.below)) (sym et) (lies_with_ops s x.frame x.below o b.lies), em, eg)

  -- it sets a local, and leaves these operands
  pub sets : (i : Instr) (b : Before i) (n : ℕ) (v : Value) (o : List Value) (t : Flat) → reduct_at x i ≡ reduct x.store (slice_set x.frame.locals n v) o → n < length x.frame.locals → t ≡ with_values s (o ++ low)
      → IsMomentBehind x (reduct_at x i) None (set_from_below t (local_place t n) v) memory globals
  sets i b n v o t e h et =
      let fr : Frame = record x.frame { top = record x.frame.top { ops = o } } in
      let lies : Lies t (fr ∷ x.below) = subst (λ t. Lies t (fr ∷ x.below)) (sym et) (lies_with_ops s x.frame x.below o b.lies) in
      subst (λ c. IsMomentBehind x c None (set_from_below t (local_place t n) v) memory globals) (sym e) (lies_with_local t fr x.below lies n v h, b.memory_is, b.globals_are)

  -- a local that is set is there
  there : (n : ℕ) (l : List Value) (c : Reduct) → IsFound (after_set (slice_get l n) c) → (after_set (slice_get l n) c ≡ c) × (n < length l)
  there n l c h = go (slice_get l n) refl h
    where
      go : (o : Option Value) → slice_get l n ≡ o → IsFound (after_set o c) → (after_set o c ≡ c) × (n < length l)
      go None e h = absurd h
      go (Some v) e h = (refl, slice_get_within l n v e)

  -- local.set
  pub set_behind : (n : ℕ) → Before (instrs.LocalSet n) → (v : Value) (t u : Flat) → s ≡ pushed v t → u ≡ set_from_below t (local_place t n) v → IsMomentBehind x (reduct_at x (instrs.LocalSet n)) None u memory globals
  set_behind n b v t u h e = go x.frame.top.ops refl b.found
    where
      go : (o : List Value) → x.frame.top.ops ≡ o → IsFound (reduce_simple x.limit (local_set n) x.store x.frame.locals o) → IsMomentBehind x (reduct_at x (instrs.LocalSet n)) None u memory globals
      go [] k f = absurd f
      go (w ∷ o) k f =
          let is = on_top (instrs.LocalSet n) b (w ∷ o) k in
          let same = popped_is s t v w (o ++ low) h is in
          let at = there n x.frame.locals (reduct x.store (slice_set x.frame.locals n w) o) f in
          subst (λ u. IsMomentBehind x (reduct_at x (instrs.LocalSet n)) None u memory globals) (sym e)
          (sets (instrs.LocalSet n) b n v o t
          (ap (reduce_simple x.limit (local_set n) x.store x.frame.locals) k ∙ at.0 ∙ ap (λ w. reduct x.store (slice_set x.frame.locals n w) o) (sym same))
          at.1 (popped s t v w (o ++ low) h is))

  -- local.tee
  pub tee_behind : (n : ℕ) → Before (instrs.LocalTee n) → (v : Value) (u : Flat) → slice_get s.values 0 ≡ Some v → u ≡ set_from_below s (local_place s n) v → IsMomentBehind x (reduct_at x (instrs.LocalTee n)) None u memory globals
  tee_behind n b v u h e = go x.frame.top.ops refl b.found
    where
      go : (o : List Value) → x.frame.top.ops ≡ o → IsFound (reduce_simple x.limit (local_tee n) x.store x.frame.locals o) → IsMomentBehind x (reduct_at x (instrs.LocalTee n)) None u memory globals
      go [] k f = absurd f
      go (w ∷ o) k f =
          let is = on_top (instrs.LocalTee n) b (w ∷ o) k in
          let same : w ≡ v = same_Some w v (sym (ap (λ vs. slice_get vs 0) is) ∙ h) in
          let at = there n x.frame.locals (reduct x.store (slice_set x.frame.locals n w) (w ∷ o)) f in
          subst (λ u. IsMomentBehind x (reduct_at x (instrs.LocalTee n)) None u memory globals) (sym e)
          (sets (instrs.LocalTee n) b n v (w ∷ o) s
          (ap (reduce_simple x.limit (local_tee n) x.store x.frame.locals) k ∙ at.0 ∙ ap (λ u. reduct x.store (slice_set x.frame.locals n u) (w ∷ o)) same)
          at.1 (ap (with_values s) is))

  -- ---- number instructions on two operands

  pub record Two (op : NumOp) : Type 0 where
    pub first : Value
    pub second : Value
    pub rest : List Value
    pub are : x.frame.top.ops ≡ second ∷ first ∷ rest
    pub typed : IsBinary op first second
    pub comes : reduct_at x (instrs.Num op) ≡ after_num (binary op first second) x.store x.frame.locals rest

  pub two : (op : NumOp) → Before (instrs.Num op) → length (num_operands op) ≢ 1 → Two op
  two op b h = go (num_operands op) refl x.frame.top.ops refl b.found
    where
      well : (r : Num) (st : Store) (l o : List Value) → IsFound (after_num r st l o) → IsWellTyped r
      well (gives v) st l o f = tt
      well (fails t) st l o f = tt
      well ill_typed st l o f = f

      go : (ts : List ValType) → num_operands op ≡ ts → (o : List Value) → x.frame.top.ops ≡ o → IsFound (reduce_num ts op x.store x.frame.locals o) → Two op
      go [] e o k f = absurd f
      go (t ∷ []) e o k f = absurd (h (ap length e))
      go (t ∷ u ∷ []) e [] k f = absurd f
      go (t ∷ u ∷ []) e (c ∷ []) k f = absurd f
      go (t ∷ u ∷ []) e (c ∷ a ∷ o) k f = record {
        first = a;
        second = c;
        rest = o;
        are = k;
        typed = well (binary op a c) x.store x.frame.locals o f;
        comes = ap (λ ts. reduce_num ts op x.store x.frame.locals x.frame.top.ops) e ∙ ap (reduce_num (t ∷ u ∷ []) op x.store x.frame.locals) k;
      }
      go (t ∷ u ∷ w ∷ ts) e o k f = absurd f

  -- both have been taken
  pub record Taken (op : NumOp) (v w : Value) (u : Flat) : Type 0 where
    pub typed : IsBinary op w v
    pub room : IfGives (binary op w v) (length u.values < u.value_room)

  pub taken : (op : NumOp) → Before (instrs.Num op) → length (num_operands op) ≢ 1 → (v w : Value) (t u : Flat) → s ≡ pushed v t → t ≡ pushed w u → Taken op v w u
  taken op b h v w t u e k =
      let z = two op b h in
      let is = on_top (instrs.Num op) b (z.second ∷ z.first ∷ z.rest) z.are in
      let one = popped s t v z.second (z.first ∷ (z.rest ++ low)) e is in
      let v_is = popped_is s t v z.second (z.first ∷ (z.rest ++ low)) e is in
      let inner : t.values ≡ z.first ∷ (z.rest ++ low) = ap (λ (t : Flat). t.values) one in
      let w_is = popped_is t u w z.first (z.rest ++ low) k inner in
      let left : u ≡ with_values s (z.rest ++ low) = popped t u w z.first (z.rest ++ low) k inner ∙ ap (λ (t : Flat). with_values t (z.rest ++ low)) one in
      let enough : HasValueRoom x s.value_room (after_num (binary op z.first z.second) x.store x.frame.locals z.rest) = subst (HasValueRoom x s.value_room) z.comes b.room in
      record {
        typed = subst (λ a. IsBinary op a v) (sym w_is) (subst (λ c. IsBinary op z.first c) (sym v_is) z.typed);
        room = subst (λ a. IfGives (binary op a v) (length u.values < u.value_room)) (sym w_is) (subst (λ c. IfGives (binary op z.first c) (length u.values < u.value_room)) (sym v_is)
            (subst (λ (u : Flat). IfGives (binary op z.first z.second) (length u.values < u.value_room)) (sym left) (given (binary op z.first z.second) z.rest enough)));
      }
    where
      given : (r : Num) (o : List Value) → HasValueRoom x s.value_room (after_num r x.store x.frame.locals o) → IfGives r (length (o ++ low) < s.value_room)
      given (gives v) o h = omega (arith, h)
      given (fails t) o h = tt
      given ill_typed o h = tt
