-- The run of a made module comes to its end.
use Rattle.std.proofs.Common.{◌≡◌, ◌∙◌, ℕ, zero, suc, ◌+◌, ◌-◌, ◌*◌, ◌%◌, ◌^◌, ◌<◌, ◌≤◌, List, [], ◌∷◌, ◌++◌, length, map, drop, replicate, pos, Some, None, slice_get, inl, inr, refl, ap, subst, arith}
use Rattle.std.specs.List.{AllByRecursion, range_with_len}
use Rattle.std.specs.Prelude.{option_map}
use Rattle.std.proofs.lemmas.Bool.{cases_lt}
use Rattle.std.proofs.lemmas.List.{length-replicate}
use Rattle.std.proofs.lemmas.List.FromFn.{get_or-range_with_len, length-range_with_len, length-map-range_with_len}
use Rattle.std.proofs.lemmas.Option.{slice_get-get_or, slice_get-map}
use Rattle.wasm_num.specs.declared.ValType.TheVariants as types
use Rattle.wasm_num.specs.declared.Value.TheVariants.{I32}
use Rattle.wasm_sem.specs.Types.{FuncType, Body}
use Rattle.module_ast.specs.Memory.{overlay}
use Rattle.module_ast.specs.Places.{function_scope}
use Rattle.module_ast.specs.Structure.{Tree, done}
use Rattle.module_ast.specs.Validation.{declared_locals}
use Rattle.module_ast.proofs.Indexed.{get_before, get_first, get_second}
use Rattle.wasm_sem.specs.Execution.{Callee, host, own, own_callee, own_callees, entry_with, Env, Instance, instance, Entry, Store, Frame, Configuration, configuration, calling, run, opening_configuration, opening_store}
use Rattle.wasm_sem.specs.Machine as machine
use Rattle.wasm_sem.specs.Store.{modulo}
use Rattle.wasm_sem.proofs.Runs.{run_add}
use Rattle.wasm_sem.proofs.SoundCallees.{has_at}
use Rattle.module_gen.specs.Bodies.{bodies, body_drawn, param_type, type_index}
use Rattle.module_gen.specs.Draws.{stepped}
use Rattle.module_gen.specs.Made.{func_types, functions, main_body, made, type_indices}
use Rattle.module_gen.proofs.MadeLists.{bodies_count, func_at, index_last, indices_small, same_type, type_at, unary_type}
use Rattle.made_runs.proofs.Pieces as pieces
use Rattle.made_runs.proofs.Pieces.{Moment, IsHome, value}
use Rattle.made_runs.specs.Runs.{main_script, ended, MainReturns, MadeModulesEnd}

-- ---- lists

-- the function of an index has its type and the code of its body
own_at : (types : List FuncType) (xs : List ℕ) (bs : List Body) (i x : ℕ) (ty : FuncType) (b : Body) → AllByRecursion (λ n. n < length types) xs
    → slice_get xs i ≡ Some x → slice_get types x ≡ Some ty → slice_get bs i ≡ Some b
    → slice_get (own_callees types xs bs) i ≡ Some (own ty (declared_locals b.groups) b.code)
own_at types [] bs i x ty b all at_x at_ty at_b = cc
own_at types (y ∷ xs) [] i x ty b all at_x at_ty at_b = cc
own_at types (y ∷ xs) (c ∷ bs) zero x ty b all at_x at_ty at_b =
    let same : y ≡ x = cc in
    let one : c ≡ b = cc in
    let there : slice_get types y ≡ Some ty = ap (slice_get types) same ∙ at_ty in
    ap (λ o. slice_get (own_callee o c ++ own_callees types xs bs) 0) there ∙ ap (λ (d : Body). Some (own ty (declared_locals d.groups) d.code)) one
own_at types (y ∷ xs) (c ∷ bs) (suc i) x ty b all at_x at_ty at_b =
    let t = has_at types y all.0 in
    ap (λ o. slice_get (own_callee o c ++ own_callees types xs bs) (suc i)) t.at ∙ own_at types xs bs i x ty b all.1 at_x at_ty at_b

-- a body is drawn from the state behind those before it
body_there : (n x i : ℕ) → i < n → slice_get (bodies n x).made i ≡ Some (body_drawn (i + 1) (bodies i x).state).made
body_there zero x i h = absurd (omega (arith, h))
body_there (suc n) x i h =
    let before = bodies n x in
    let last = (body_drawn (n + 1) before.state).made in
    elim (cases_lt i n) [
      | inl l ↦ get_first before.made (last ∷ []) i (body_drawn (i + 1) (bodies i x).state).made (body_there n x i l)
      | inr g ↦
          let e : n ≡ i = omega (arith, g, h) in
          let long : i ≡ length before.made + 0 = omega (arith, e, bodies_count n x) in
          ap (slice_get (before.made ++ last ∷ [])) long ∙ get_second before.made (last ∷ []) 0 ∙ ap (λ k. Some (body_drawn (k + 1) (bodies k x).state).made) e
    ]

main_there : (n x : ℕ) (b : Body) → slice_get ((bodies n x).made ++ b ∷ []) n ≡ Some b
main_there n x b =
    let long : n ≡ length (bodies n x).made + 0 = omega (arith, bodies_count n x) in
    ap (slice_get ((bodies n x).made ++ b ∷ [])) long ∙ get_second (bodies n x).made (b ∷ []) 0

row_there : (n i : ℕ) → i < n → slice_get (map (λ (f : ℕ). Some f) (range_with_len 1 n)) i ≡ Some (Some (i + 1))
row_there n i h =
    let long = length-range_with_len 1 n in
    let e : 1 + i ≡ i + 1 = omega arith in
    slice_get-map (λ (f : ℕ). Some f) (range_with_len 1 n) i
    ∙ ap (option_map (λ (f : ℕ). Some f)) (slice_get-get_or (range_with_len 1 n) i 0 (omega (arith, long, h)) ∙ ap Some (get_or-range_with_len 1 n i 0 h ∙ e))

module _ (number : ℕ) where
  abbrev count : ℕ
  count = functions number

  abbrev x : ℕ
  x = stepped number

  abbrev drawn : List Body
  drawn = (bodies count x).made

  abbrev others : List Callee
  others = own_callees func_types (type_indices count) (drawn ++ main_body count ∷ [])

  abbrev seed : ℕ → ℕ
  seed zero = 0
  seed (suc i) = (bodies i x).state

  few_functions : count < 5000
  few_functions = omega arith

  codes_are : (f : ℕ) → 1 ≤ f → f ≤ count
      → slice_get (host (record { params = types.I32 ∷ []; results = [] }) ∷ others) f
      ≡ Some (own (unary_type (param_type f)) (types.I32 ∷ types.I64 ∷ []) (body_drawn f (seed f)).made.code)
  codes_are zero some within = absurd (omega (arith, some))
  codes_are (suc i) some within =
      let next : i + 1 ≡ suc i = omega arith in
      let b = (body_drawn (i + 1) (bodies i x).state).made in
      let at_b : slice_get (drawn ++ main_body count ∷ []) i ≡ Some b =
      get_first drawn (main_body count ∷ []) i b (body_there count x i (omega (arith, within))) in
      own_at func_types (type_indices count) (drawn ++ main_body count ∷ []) i (type_index (param_type (suc i))) (unary_type (param_type (suc i))) b (indices_small count)
      (func_at count (suc i) some within) (type_at (param_type (suc i))) at_b
      ∙ ap (λ f. Some (own (unary_type (param_type (suc i))) (types.I32 ∷ types.I64 ∷ []) (body_drawn f (bodies i x).state).made.code)) next

  main_code : slice_get (host (record { params = types.I32 ∷ []; results = [] }) ∷ others) (count + 1)
      ≡ Some (own (unary_type types.I32) [] (main_body count).code)
  main_code =
      let next : count + 1 ≡ suc count = omega arith in
      ap (slice_get (host (record { params = types.I32 ∷ []; results = [] }) ∷ others)) next
      ∙ own_at func_types (type_indices count) (drawn ++ main_body count ∷ []) count 1 (unary_type types.I32) (main_body count) (indices_small count)
      (index_last count) refl (main_there count x (main_body count))

  -- ---- what a run begins with

  overlay_front : {A : Type 0} (new xs : List A) (i : ℕ) → i < length new → slice_get (overlay 0 new xs) i ≡ slice_get new i
  overlay_front new [] i l = get_before new (drop (0 + length new) []) i l
  overlay_front new (y ∷ ys) i l = get_before new (drop (0 + length new) (y ∷ ys)) i l

  module _ (steps : ℕ) where
    abbrev linked : Instance
    linked = instance (made number) (main_script number steps)

    abbrev opened : Store
    opened = opening_store (made number) (main_script number steps)

    slots_are : (f : ℕ) → 3 ≤ f → f ≤ count → slice_get opened.slots (f - 3) ≡ Some (Some (f - 2))
    slots_are f three within =
        let row = map (λ (g : ℕ). Some g) (range_with_len 1 count) in
        let long : length row ≡ count = length-map-range_with_len (λ (g : ℕ). Some g) 1 count in
        let next : f - 3 + 1 ≡ f - 2 = omega (arith, three) in
        overlay_front row (replicate count None) (f - 3) (omega (arith, long, three, within)) ∙ row_there count (f - 3) (omega (arith, three, within))
        ∙ ap (λ g. Some (Some g)) next

    -- the call of `main`
    abbrev argument : ℕ
    argument = modulo (pos (number % 2 ^ 32)) (2 ^ 32)

    abbrev main_entry : Entry
    main_entry = record { func = count + 1; args = I32 argument ∷ [] }

    calls_are : linked.calls ≡ Some main_entry ∷ []
    calls_are = ap (λ o. entry_with (pos (number % 2 ^ 32) ∷ []) (count + 1) o ∷ []) main_code

    abbrev simple : Instance
    simple = pieces.inst others linked.hooked linked.limit (Some main_entry ∷ []) opened.slots (calling 0) None []

    linked_is : linked ≡ simple
    linked_is = ap (λ calls. pieces.inst others linked.hooked linked.limit calls opened.slots (calling 0) None []) calls_are

    abbrev env : Moment → Env
    env m = pieces.env others linked.hooked linked.limit (Some main_entry ∷ []) opened.slots (calling 0) None [] m

    -- the frame of `main`, and as it waits
    abbrev main_tree : Tree
    main_tree = (main_body count).code

    abbrev main_frame : (pending at : ℕ) → Tree → Frame
    main_frame pending at rest = record {
      func = count + 1;
      locals = I32 argument ∷ [];
      pending = pending;
      top = record { scope = function_scope main_tree; arity = 1; cont = machine.behind; ops = []; at = at; rest = rest };
      outer = [];
    }

    abbrev last : ℕ
    last = count - 1 + count % 2

    enters : (m : Moment) → run simple 1 (configuration (env m) []) ≡ configuration (env m) (main_frame 0 0 main_tree ∷ [])
    enters m = rw main_code refl

    last_type : param_type last ≡ types.I32
    last_type = let odd : last % 2 ≡ 1 % 2 = omega arith in same_type last 1 odd

    last_code : slice_get simple.funcs last ≡ Some (own (unary_type types.I32) (types.I32 ∷ types.I64 ∷ []) (body_drawn last (seed last)).made.code)
    last_code =
        subst (λ t. slice_get simple.funcs last ≡ Some (own (unary_type t) (types.I32 ∷ types.I64 ∷ []) (body_drawn last (seed last)).made.code)) last_type
        (codes_are last (omega arith) (omega arith))

    abbrev called : Moment → Configuration
    called m =
        pieces.entered others linked.hooked linked.limit (Some main_entry ∷ []) opened.slots (calling 0) None [] last types.I32 (body_drawn last (seed last)).made.code m argument
        (main_frame 1 2 done) []

    calls : (m : Moment) → run simple 2 (configuration (env m) (main_frame 0 0 main_tree ∷ [])) ≡ called m
    calls m = rw last_code refl

    returns : (m : Moment) → IsHome m
        → pieces.Returns others linked.hooked linked.limit (Some main_entry ∷ []) opened.slots (calling 0) None [] (1300 * last) (called m) types.I32 (main_frame 1 2 done) []
    returns m home =
        pieces.functions_return others linked.hooked linked.limit (Some main_entry ∷ []) opened.slots (calling 0) None [] count seed few_functions codes_are slots_are last last
        (omega arith) (omega arith) (omega arith) types.I32 last_type m home argument (main_frame 1 2 done) [] (omega arith)

    ends : (m : Moment) (r : ℕ)
        → run simple 1 (pieces.returned others linked.hooked linked.limit (Some main_entry ∷ []) opened.slots (calling 0) None [] types.I32 m r (main_frame 1 2 done) [])
        ≡ ended r (env m).store
    ends m r = refl

    abbrev opening : Moment
    opening = record { memory = opened.memory; global = 0; hosts = 0; param = 0; short = 0; long = 0; pending = 0; at = 0 }

    opens_home : IsHome opening
    opens_home = length-replicate {A = ℕ} 65536 0

    main_returns : MainReturns number steps
    main_returns =
        let r = returns opening opens_home in
        record {
          count = 1 + (2 + (r.count + 1));
          few = omega (arith, r.few);
          value = r.result;
          store = (env r.after).store;
          is =
              ap (λ i. run i (1 + (2 + (r.count + 1))) (opening_configuration (made number) (main_script number steps))) linked_is
              ∙ run_add simple 1 (2 + (r.count + 1)) (configuration (env opening) []) ∙ ap (run simple (2 + (r.count + 1))) (enters opening)
              ∙ run_add simple 2 (r.count + 1) (configuration (env opening) (main_frame 0 0 main_tree ∷ [])) ∙ ap (run simple (r.count + 1)) (calls opening)
              ∙ run_add simple r.count 1 (called opening) ∙ ap (run simple 1) r.is ∙ ends r.after r.result;
        }

pub made_modules_end : MadeModulesEnd
made_modules_end number steps = main_returns number steps
