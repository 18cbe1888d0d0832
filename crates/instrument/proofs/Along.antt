-- The stores on the way of a run: those before and behind a stretch are all that it passes, if it writes at most once.
use Rattle.std.proofs.Common.{◌≡◌, ◌⊎◌, inl, inr, ℕ, zero, suc, ◌+◌, ◌<◌, ◌≤◌, List, [], ◌∷◌, ◌++◌, length, Option, Some, None, Bool, true, false, cond, nat_lt, slice_get, refl, sym, ap, subst, ◌∙◌, arith, zero-add, suc-add}
use Rattle.wasm_sem.specs.Types.{ValType, NumOp, Value, FuncType}
use Rattle.wasm_num.specs.declared.Value.TheVariants.{I32}
use Rattle.wasm_num.specs.Shapes.{num_operands}
use Rattle.wasm_num.specs.Numbers.{Num, gives, fails, ill_typed, unary, binary}
use Rattle.module_ast.specs.Memory.{load_value}
use Rattle.module_ast.specs.Structure.{plains, Tree, done, plain, Plain, nop, br, br_if, br_table, return_, call, call_indirect, drop_, select, local_get, local_set, local_tee, global_get, global_set, load, store, memory_size, memory_grow, i32_const, i64_const, num}
use Rattle.module_ast.specs.Places.{Scope}
use Rattle.wasm_sem.specs.declared.Answer.{Answer}
use Rattle.wasm_sem.specs.declared.Answer.TheVariants.{Returned, Trapped}
use Rattle.wasm_sem.specs.declared.Trap.{Trap}
use Rattle.wasm_sem.specs.declared.Trap.TheVariants.{Depth}
use Rattle.wasm_sem.specs.Execution.{Store, Callee, host, hook, own, Instance, Cont, Label, Frame, Phase, Configuration, configuration, Reduct, reduct, trapped_by, not_simple, selected_value, after_num, after_get, after_set, after_load, reduce_num, reduce_simple, pop_values, Env, Next, reduces, traps, starting, calling, over, env_after, return_to, enter, step, after_step, run, TraceItem, told_items}
use Rattle.wasm_sem.proofs.Straight.{comes_run, Result, with_items, chain, of_calc, hooked, of_callee, one, straight, some_is, none_some, there, straight_runs}
use Rattle.wasm_sem.proofs.Rules.{frame_before, frame_after, Invokes, begins, too_deep, replies, hears, Jumps, lands, leaves, crosses, unfed, unheld, StepRule, computes, halts, jumps, stays, calls, misses, opens, skips, falls, finishes, enters, rests, lacks, rule_of}
use Rattle.instrument.specs.Same.{env_in}
use Rattle.instrument.proofs.Touches.{touch_of, touches, touch_next}

-- the store beside the frames
abbrev pub store_in : Configuration → Store
store_in c = (env_in c).store

-- one of two stores
abbrev pub Either : (before after st : Store) → Type 0
Either before after st = (st ≡ before) ⊎ (st ≡ after)

module _ (inst : Instance) where
  -- on so many steps from here the store is one of the two
  abbrev pub Along : (before after : Store) → ℕ → Configuration → Type 0
  Along before after zero c = Unit {0}
  Along before after (suc n) c = Either before after (store_in c) × Along before after n (after_step inst c (step inst c))

  -- among other two
  pub along_wider : (a b a1 b1 : Store) → ((st : Store) → Either a b st → Either a1 b1 st) → (n : ℕ) (c : Configuration) → Along a b n c → Along a1 b1 n c
  along_wider a b a1 b1 f zero c h = tt
  along_wider a b a1 b1 f (suc n) c h = (f (store_in c) h.0, along_wider a b a1 b1 f n (after_step inst c (step inst c)) h.1)

  -- one stretch, and then another
  pub along_then : (a b : Store) (n k : ℕ) (c : Configuration) → Along a b n c → Along a b k (run inst n c) → Along a b (n + k) c
  along_then a b zero k c h g = subst (λ j. Along a b j c) (sym (zero-add k)) g
  along_then a b (suc n) k c h g = subst (λ j. Along a b j c) (sym (suc-add n k)) (h.0, along_then a b n k (after_step inst c (step inst c)) h.1 g)

  -- at each of the steps
  pub along_at : (a b : Store) (n j : ℕ) (c : Configuration) → j < n → Along a b n c → Either a b (store_in (run inst j c))
  along_at a b zero j c less h = absurd (omega (arith, less))
  along_at a b (suc n) zero c less h = h.0
  along_at a b (suc n) (suc j) c less h = along_at a b n j (after_step inst c (step inst c)) (omega (arith, less)) h.1

-- ---- instructions that leave the store

-- the store that an instruction comes to, if it comes to any
abbrev Leaves : Store → Reduct → Type 0
Leaves st (reduct st1 l o) = st1 ≡ st
Leaves st x = Unit {0}

module _ (st : Store) (l : List Value) where
  gets_leave : (x : Option Value) (o : List Value) → Leaves st (after_get x st l o)
  gets_leave None o = tt
  gets_leave (Some v) o = refl

  sets_leave : (x : Option Value) (l1 o : List Value) → Leaves st (after_set x (reduct st l1 o))
  sets_leave None l1 o = tt
  sets_leave (Some v) l1 o = refl

  loads_leave : (x : Option Value) (o : List Value) → Leaves st (after_load x st l o)
  loads_leave None o = tt
  loads_leave (Some v) o = refl

  results_leave : (x : Num) (o : List Value) → Leaves st (after_num x st l o)
  results_leave (gives v) o = refl
  results_leave (fails t) o = tt
  results_leave ill_typed o = tt

  numbers_leave : (ts : List ValType) (op : NumOp) (o : List Value) → Leaves st (reduce_num ts op st l o)
  numbers_leave (t ∷ []) op (a ∷ o) = results_leave (unary op a) o
  numbers_leave (t ∷ u ∷ []) op (b ∷ a ∷ o) = results_leave (binary op a b) o
  numbers_leave _ op _ = tt

  -- one that does not count leaves it
  pub simple_leaves : (limit : ℕ) (i : Plain) (o : List Value) → touch_of i ≡ 0 → Leaves st (reduce_simple limit i st l o)
  simple_leaves limit nop o e = refl
  simple_leaves limit drop_ (v ∷ o) e = refl
  simple_leaves limit select (I32 c ∷ b ∷ a ∷ o) e = gets_leave (selected_value a b c) o
  simple_leaves limit (local_get x) o e = gets_leave (slice_get l x) o
  simple_leaves limit (local_set x) (v ∷ o) e = sets_leave (slice_get l x) _ o
  simple_leaves limit (local_tee x) (v ∷ o) e = sets_leave (slice_get l x) _ (v ∷ o)
  simple_leaves limit (global_get x) o e = gets_leave (slice_get st.globals x) o
  simple_leaves limit (global_set x) o e = absurd (cc)
  simple_leaves limit (load op m) (I32 a ∷ o) e = loads_leave (load_value op (a + m.offset) st.memory) o
  simple_leaves limit (store op m) o e = absurd (cc)
  simple_leaves limit memory_size o e = refl
  simple_leaves limit memory_grow o e = absurd (cc)
  simple_leaves limit (i32_const z) o e = refl
  simple_leaves limit (i64_const z) o e = refl
  simple_leaves limit (num op) o e = numbers_leave (num_operands op) op o
  simple_leaves limit _ _ e = tt

-- ---- straight code

-- the store of a result
abbrev ResultLeaves : Store → Result → Type 0
ResultLeaves st None = Unit {0}
ResultLeaves st (Some r) = r.0 ≡ st

calc_leaves : (st : Store) (x : Reduct) → Leaves st x → ResultLeaves st (of_calc x)
calc_leaves st (reduct st1 l o) h = h
calc_leaves st (trapped_by t) h = tt
calc_leaves st not_simple h = tt

hook_leaves : (f : ℕ) (ty : FuncType) (st : Store) (l : List Value) (p : Option (List Value × List Value)) → ResultLeaves st (hooked f ty st l p)
hook_leaves f ty st l None = tt
hook_leaves f ty st l (Some p) = refl

callee_leaves : (f : ℕ) (c : Option Callee) (st : Store) (l o : List Value) → ResultLeaves st (of_callee f c st l o)
callee_leaves f None st l o = tt
callee_leaves f (Some (host ty)) st l o = tt
callee_leaves f (Some (own ty locals code)) st l o = tt
callee_leaves f (Some (hook ty)) st l o = hook_leaves f ty st l (pop_values (length ty.params) o [])

one_leaves : (inst : Instance) (i : Plain) (st : Store) (l o : List Value) → touch_of i ≡ 0 → ResultLeaves st (one inst i st l o)
one_leaves inst (call f) st l o e = callee_leaves f (slice_get inst.funcs f) st l o
one_leaves inst (br n) st l o e = tt
one_leaves inst (br_if n) st l o e = tt
one_leaves inst (br_table ns n) st l o e = tt
one_leaves inst return_ st l o e = tt
one_leaves inst (call_indirect x) st l o e = tt
one_leaves inst i st l o e = calc_leaves st (reduce_simple inst.limit i st l o) (simple_leaves st l inst.limit i o e)

module _ (inst : Instance) where
  -- code of which nothing counts leaves it
  straight_leaves : (is : List Plain) (st : Store) (l o : List Value) → touches is ≡ 0 → ResultLeaves st (straight inst is st l o)
  straight_leaves [] st l o e = refl
  straight_leaves (i ∷ is) st l o e =
      go (λ st1 l1 o1. straight_leaves is st1 l1 o1 (omega (arith, e))) (one inst i st l o) (one_leaves inst i st l o (omega (arith, e)))
    where
      further : (h : List TraceItem) (st1 : Store) → st1 ≡ st → (y : Result) → ResultLeaves st1 y → ResultLeaves st (with_items h y)
      further h st1 same None k = tt
      further h st1 same (Some u) k = k ∙ same

      go : ((st1 : Store) (l1 o1 : List Value) → ResultLeaves st1 (straight inst is st1 l1 o1)) → (x : Result) → ResultLeaves st x → ResultLeaves st (chain x (straight inst is))
      go ih None h = tt
      go ih (Some r) h = further r.3 r.0 h (straight inst is r.0 r.1 r.2) (ih r.0 r.1 r.2)

  module _ (ph : Phase) (sd : Option Answer) (as_ : List Answer) (f : ℕ) (sc : Scope) (ar : ℕ) (ct : Cont) (outer : List Label) (below : List Frame) where
    -- the run before this code
    abbrev before : ℕ → ℕ → Store → List Value → List Value → Tree → Configuration
    before pend at st l o k = there inst ph sd as_ f sc ar ct outer below pend at st l o k

    -- code that writes at most once passes only the stores before and behind it
    pub straight_along : (is : List Plain) (pend at : ℕ) (st : Store) (l o : List Value) (k : Tree) (t : Store × List Value × List Value × List TraceItem) → touches is ≤ 1 → straight inst is st l o ≡ Some t
        → Along inst st t.0 (length is) (before pend at st l o (plains is k))
    straight_along [] pend at st l o k t few e = tt
    straight_along (i ∷ is) pend at st l o k t few e =
        go (λ pend1 at1 st1 l1 o1 u. straight_along is pend1 at1 st1 l1 o1 k u (omega (arith, few))) (one inst i st l o) refl (one_leaves inst i st l o) e
      where
        -- where the first instruction leads
        led : (r : Store × List Value × List Value × List TraceItem) → one inst i st l o ≡ Some r → (pend1 at1 : ℕ) × (after_step inst (before pend at st l o (plains (i ∷ is) k)) (step inst (before pend at st l o (plains (i ∷ is) k))) ≡ before pend1 at1 r.0 r.1 r.2 (plains is k))
        led r h =
            let x = straight_runs inst ph sd as_ f sc ar ct outer below (i ∷ []) pend at st l o (plains is k) (r.0, r.1, r.2, r.3 ++ []) (ap (λ y. chain y (straight inst [])) h) in
            (x.pend, x.at, comes_run inst x.comes)

        rest : (r : Store × List Value × List Value × List TraceItem) → one inst i st l o ≡ Some r → (n : ℕ) → touch_of i ≡ n → (touch_of i ≡ 0 → r.0 ≡ st)
            → ((pend1 at1 : ℕ) (st1 : Store) (l1 o1 : List Value) (u : Store × List Value × List Value × List TraceItem) → straight inst is st1 l1 o1 ≡ Some u → Along inst st1 u.0 (length is) (before pend1 at1 st1 l1 o1 (plains is k)))
            → (u : Store × List Value × List Value × List TraceItem) → straight inst is r.0 r.1 r.2 ≡ Some u → (touches is ≡ 0 → u.0 ≡ r.0)
            → Along inst st u.0 (suc (length is)) (before pend at st l o (plains (i ∷ is) k))
        rest r h zero none stays_put ih u e1 quiet =
            let x = led r h in
            let later = ih x.0 x.1 r.0 r.1 r.2 u e1 in
            (inl refl, subst (λ c. Along inst st u.0 (length is) c) (sym x.2) (subst (λ s. Along inst s u.0 (length is) (before x.0 x.1 r.0 r.1 r.2 (plains is k))) (stays_put none) later))
        rest r h (suc n) some stays_put ih u e1 quiet =
            let x = led r h in
            let same : u.0 ≡ r.0 = quiet (omega (arith, few, some)) in
            let later = ih x.0 x.1 r.0 r.1 r.2 u e1 in
            let wider : (s : Store) → Either r.0 u.0 s → Either st u.0 s = λ s e. elim e as (λ e. Either st u.0 s) [ inl a ↦ inr (a ∙ sym same) | inr b ↦ inr b ] in
            (inl refl, subst (λ c. Along inst st u.0 (length is) c) (sym x.2) (along_wider inst r.0 u.0 st u.0 wider (length is) (before x.0 x.1 r.0 r.1 r.2 (plains is k)) later))

        go : ((pend1 at1 : ℕ) (st1 : Store) (l1 o1 : List Value) (u : Store × List Value × List Value × List TraceItem) → straight inst is st1 l1 o1 ≡ Some u → Along inst st1 u.0 (length is) (before pend1 at1 st1 l1 o1 (plains is k)))
            → (x : Result) → one inst i st l o ≡ x → (touch_of i ≡ 0 → ResultLeaves st x) → chain x (straight inst is) ≡ Some t → Along inst st t.0 (suc (length is)) (before pend at st l o (plains (i ∷ is) k))
        go ih None e1 stays_put e2 = absurd (none_some e2)
        go ih (Some r) e1 stays_put e2 = found (straight inst is r.0 r.1 r.2) refl e2
          where
            found : (y : Result) → straight inst is r.0 r.1 r.2 ≡ y → with_items r.3 y ≡ Some t → Along inst st t.0 (suc (length is)) (before pend at st l o (plains (i ∷ is) k))
            found None e3 e4 = absurd (none_some e4)
            found (Some u) e3 e4 =
                let end : u.0 ≡ t.0 = ap (λ (t : Store × List Value × List Value × List TraceItem). t.0) (some_is e4) in
                subst (λ s. Along inst st s (suc (length is)) (before pend at st l o (plains (i ∷ is) k))) end
                (rest r e1 (touch_of i) refl stays_put ih u e3 (λ none. subst (ResultLeaves r.0) e3 (straight_leaves is r.0 r.1 r.2 none)))

-- ---- one step

-- of what comes next in the innermost frame
abbrev pub touch_at : Configuration → ℕ
touch_at (configuration e []) = 0
touch_at (configuration e (fr ∷ below)) = touch_next fr.top.rest

-- an answer is noted beside the store
pub answer_store : (inst : Instance) (ph : Phase) (e : Env) (a : Answer) → (env_after inst ph e a).store ≡ e.store
answer_store inst starting e a = refl
answer_store inst (calling n) e a = refl
answer_store inst over e a = refl

-- a trap leaves the store
pub trap_store : (inst : Instance) (c : Configuration) (t : Trap) → store_in (after_step inst c (traps t)) ≡ store_in c
trap_store inst (configuration e fs) t = answer_store inst e.phase e (Trapped t)

-- values go to the caller
pub return_store : (inst : Instance) (c : Configuration) (e : Env) (below : List Frame) (vs : List Value) → store_in (after_step inst c (return_to inst e below vs)) ≡ e.store
return_store inst c e [] vs = answer_store inst e.phase e (Returned vs)
return_store inst c e (fr ∷ below) vs = refl

-- a function is entered, or is too deep
pub enter_store : (inst : Instance) (c : Configuration) (e : Env) (below : List Frame) (fr : Frame) → store_in c ≡ e.store → store_in (after_step inst c (enter inst e below fr)) ≡ e.store
enter_store inst c e below fr same = go (nat_lt (length below) inst.depth)
  where
    go : (b : Bool) → store_in (after_step inst c (cond b (reduces (configuration e (fr ∷ below))) (traps Depth))) ≡ e.store
    go true = refl
    go false = trap_store inst c Depth ∙ same

module _ (inst : Instance) where
  pub jump_stays : (c : Configuration) (e : Env) (fr : Frame) (below : List Frame) (o : List Value) {n : ℕ} {t : Label} {outer : List Label} {is : List TraceItem} {next : Next}
      → store_in c ≡ e.store → Jumps inst e fr below o n t outer is next → store_in (after_step inst c next) ≡ e.store
  jump_stays c e fr below o same (lands t l ls p h) = refl
  jump_stays c e fr below o same (leaves t p h) = return_store inst c e below p.0
  jump_stays c e fr below o same (crosses t j) = jump_stays c e fr below o same j
  jump_stays (configuration e1 fs) e fr below o same (unfed t outer) = same
  jump_stays (configuration e1 fs) e fr below o same (unheld t) = same

  none_told : {i : TraceItem} {is : List TraceItem} → (i ∷ is) ≡ [] → ⊥
  none_told e = cc

  invoke_stays : (c : Configuration) (e : Env) (below : List Frame) (f : ℕ) (args : List Value) {callee : Callee} {is ts : List TraceItem} {next : Next}
      → store_in c ≡ e.store → Invokes inst e below f args callee is ts next → ts ≡ [] → store_in (after_step inst c next) ≡ e.store
  invoke_stays c e below f args same (begins ty locals code h) quiet = refl
  invoke_stays c e below f args same (too_deep ty locals code deep) quiet = trap_store inst c Depth ∙ same
  invoke_stays c e below f args same (replies ty) quiet = absurd (none_told quiet)
  invoke_stays c e below f args same (hears ty) quiet = absurd (none_told quiet)

  rule_stays : {c : Configuration} {is ts : List TraceItem} {next : Next} → StepRule inst c is ts next → ts ≡ [] → touch_at c ≡ 0 → store_in (after_step inst c next) ≡ store_in c
  rule_stays (computes e fr below i k o new l left si sr q same) quiet none = subst (Leaves e.store) sr (simple_leaves e.store fr.locals inst.limit i o none)
  rule_stays (jumps e fr below i k o n left b q j) quiet none = jump_stays (configuration e (frame_before fr (plain i k) o ∷ below)) e (frame_after fr k o) below left refl j
  rule_stays (stays e fr below n k o) quiet none = refl
  rule_stays (calls e fr below i k o f c args left ev h q j) quiet none = invoke_stays (configuration e (frame_before fr (plain i k) o ∷ below)) e (frame_after fr k left ∷ below) f args refl j quiet
  rule_stays (opens e fr below whole o s cont ty inside body outside k left p h q e1) quiet none = refl
  rule_stays (skips e fr below bt body k o) quiet none = refl
  rule_stays (falls e fr below o l ls) quiet none = refl
  rule_stays (finishes e fr below o p h) quiet none = return_store inst (configuration e (record fr { top = record fr.top { ops = o; rest = done }; outer = [] } ∷ below)) e below p.0
  rule_stays (enters e c callee h at j) quiet none = absurd (none_told quiet)
  rule_stays (halts e fr below i k o t si sr q) quiet none = answer_store inst e.phase e (Trapped t)
  rule_stays (misses e fr below x i k o ty f p t tx h sl) quiet none = answer_store inst e.phase e (Trapped t)
  rule_stays (rests e h) quiet none = refl
  rule_stays (lacks (configuration e frames) h) quiet none = refl

  -- a step that tells nothing and writes nothing leaves the store
  pub step_stays : (c : Configuration) → told_items inst c ≡ [] → touch_at c ≡ 0 → store_in (after_step inst c (step inst c)) ≡ store_in c
  step_stays c quiet none = rule_stays (rule_of inst c) quiet none
