-- What stands in the output for a live instruction has few operands more at once than stand before or behind the instruction.
use Rattle.std.proofs.Common.{◌≡◌, ℕ, ◌+◌, ◌*◌, ◌≤◌, pos, List, [], ◌∷◌, ◌++◌, length, length-append, length-take, length-drop, take, drop, max, leb-true, Some, true, false, cond, refl, sym, ap, ◌∙◌, subst, arith, slice_get, flat_map}
use Rattle.std.specs.List.{AllByRecursion}
use Rattle.wasm_sem.specs.Types.{ValType, NumOp, FuncType, HookKey}
use Rattle.wasm_num.specs.declared.ValType.TheVariants.{I32, I64}
use Rattle.wasm_num.specs.Shapes.{num_operands, num_result}
use Rattle.module_ast.specs.declared.ops.VarOp.TheVariants.{Get, Set, Tee}
use Rattle.module_ast.specs.Validation.{load_type, store_type, Context, push, Turns, TypesPlain}
use Rattle.module_ast.specs.Places.{mark_at, func_type_or, type_by, type_of_callee, indirect_type, type_of_local, type_of_global, turned_operands, operands_behind, Scope, goes_on, left_by}
use Rattle.module_ast.specs.Structure.{Plain, unreachable, nop, br, br_if, br_table, return_, call, call_indirect, drop_, select, local_get, local_set, local_tee, global_get, global_set, load, store, memory_size, memory_grow, i32_const, i64_const, num}
use Rattle.module_ast.proofs.Each.{all_at}
use Rattle.hook_select.specs.declared.GroupName.TheVariants as groups
use Rattle.hook_mono.specs.declared.HookKey.TheVariants as keys
use Rattle.hook_mono.specs.Needed.{plain_keys}
use Rattle.hook_mono.specs.Words.{value_types, word_types}
use Rattle.i64_split.specs.declared.Temp.{Temp}
use Rattle.i64_split.specs.Split.{temps, temps_from, words_by, words_code, sets}
use Rattle.index_remap.specs.Remap.{map_index}
use Rattle.rewrite.specs.Setting.{Setting, remap, wants, constant, low_word, high_word, tell, tells, tell_ends}
use Rattle.rewrite.specs.Templates.{keep_code, tee_code, kept_code, tell_before, tell_values, tell_results, target_code, post_code, call_code, indirect_code, template}
use Rattle.rewrite.proofs.TypedPlains.{labelled}
use Rattle.rewrite.proofs.TypedCopied.{Widens}
use Rattle.rewrite.proofs.TypedHooks.{MayTell}
use Rattle.rewrite.proofs.TemplateLengths.{temps_length}
use Rattle.rewrite.proofs.WatchedCode.{watch_code, small}
use Rattle.rewrite.proofs.Heights.{push_length, Lifts, no_lift, one_lifts, lifts_then, lifts_over, lifts_cond, const_lifts, get_lifts, set_lifts, Rises, lifts_rise, stop_rises, before_rises}
use Rattle.rewrite.proofs.HeightsTold.{words_in, words_few, sets_lift, keep_lifts, tee_lift, word_lifts, values_lift, two_lift, global_lifts, tell_lifts, tells_lift, told_lifts, ends_lift, saved_lifts, before_lifts, results_lift}

-- a type whose values can be told with so many operands more
abbrev pub IsTold : (rise : ℕ) → FuncType → Type 0
IsTold rise t = (2 * length t.params + 4 ≤ rise) × (2 * length t.results + 4 ≤ rise)

-- so can those of each type, the results, and those of each operation
pub record HasRise (c : Context) (rise : ℕ) : Type 0 where
  pub types : AllByRecursion (IsTold rise) c.types
  pub results : 2 * length c.results + 4 ≤ rise
  pub some : 8 ≤ rise

module _ (w : Setting) (d : Context) where
  -- ---- an instruction that is watched

  -- with its operands and its result in temporaries
  kept_lifts : (i : Plain) (n kept leaves most : ℕ) (us : List Temp) → length us ≡ n + kept → kept ≤ leaves → Lifts d (i ∷ []) n leaves most → n ≤ most → leaves ≤ most → Lifts d (kept_code n i us) n leaves most
  kept_lifts i n kept leaves most us count few f low high =
      let ins = take n us in
      let outs = drop n us in
      let size : length ins ≡ n = omega (arith, length-take n us, count) in
      lifts_then d (keep_code ins) (i ∷ tee_code outs) n n leaves most
      (lifts_over d 0 (keep_code ins) (length ins) (length ins) n n n most (omega (arith, size)) (omega (arith, size)) (omega (arith, low)) (keep_lifts d ins n (omega (arith, size))))
      (lifts_then d (i ∷ []) (tee_code outs) n leaves leaves most f (tee_lift d outs leaves most (omega (arith, length-drop n us, count, few)) high))

  -- where its hook is called, and where it stands alone
  watch_lifts : (p : ℕ) (key : HookKey) (firsts types : List ValType) (first : List Plain) (code : List Temp → List Plain) (i : Plain) (takes leaves most : ℕ)
      → flat_map word_types (value_types key) ≡ firsts ++ flat_map word_types types → MayTell w d key → Lifts d first 0 (length firsts) (length firsts) → Lifts d (i ∷ []) takes leaves most
      → ((us : List Temp) → length us ≡ length types → Lifts d (code us) takes leaves most) → leaves + length firsts + 2 * length types + 3 ≤ most
      → Lifts d (watch_code w p key first code types i) takes leaves most
  watch_lifts p key firsts types first code i takes leaves most e h f g c room =
      let us = temps w.pool types in
      let args = first ++ words_code us in
      let n = length firsts + words_in types in
      let m = length firsts + 2 * length types + 1 in
      let words : words_in (value_types key) ≡ n = ap length e ∙ length-append firsts (flat_map word_types types) in
      lifts_cond d (wants w key) (code us ++ tell w (pos p) key args) (i ∷ []) takes leaves most
      (λ on. lifts_then d (code us) (tell w (pos p) key args) takes leaves leaves most (c us (temps_length w.pool types))
      (lifts_over d leaves (tell w (pos p) key args) 0 0 (m + 2) leaves leaves most (omega arith) (omega arith) (omega (arith, room))
      (tell_lifts w d (pos p) key args n m (h.hooked on) words (omega (arith, words_few types)) (values_lift d w.pool 0 0 (length firsts) first types f))))
      (λ off. g)

  module _ (rise : ℕ) where
    -- one that takes and leaves these, of which its operands and some of its results are told
    kept_rises : {a b : List ValType} (p : ℕ) (key : HookKey) (firsts : List ValType) (first : List Plain) (takes leaves kept : List ValType) (i : Plain)
        → flat_map word_types (value_types key) ≡ firsts ++ flat_map word_types (takes ++ kept) → length kept ≤ length leaves → Lifts d first 0 (length firsts) (length firsts)
        → goes_on i ≡ true → ((o : List ValType) (base : ℕ) → length o ≡ length takes + base → length (operands_behind d i o) ≡ length leaves + base)
        → MayTell w d key → length leaves + length firsts + 2 * (length takes + length kept) + 3 ≤ max (length takes) (length leaves) + rise → Turns takes leaves a b
        → Rises d (watch_code w p key first (kept_code (length takes) i) (takes ++ kept) i) true (length a) (length b) rise
    kept_rises {a} {b} p key firsts first takes leaves kept i e few f goes behind h room u =
        let n = length takes in
        let most = max n (length leaves) + rise in
        let count : length (takes ++ kept) ≡ n + length kept = length-append takes kept in
        let g = one_lifts d i n (length leaves) most goes (omega arith) behind in
        lifts_rise d (watch_code w p key first (kept_code n i) (takes ++ kept) i) takes leaves a b most rise
        (watch_lifts p key firsts (takes ++ kept) first (kept_code n i) i n (length leaves) most e h f g
        (λ us size. kept_lifts i n (length kept) (length leaves) most us (size ∙ count) few g (omega arith) (omega arith)) (omega (arith, room, count))) (omega arith) u

    -- one that goes on, before its hook call
    behind_rises : {a b : List ValType} (p : ℕ) (key : HookKey) (args : List Plain) (n m : ℕ) (takes leaves : List ValType) (i : Plain)
        → goes_on i ≡ true → ((o : List ValType) (base : ℕ) → length o ≡ length takes + base → length (operands_behind d i o) ≡ length leaves + base)
        → MayTell w d key → words_in (value_types key) ≡ n → n ≤ m → Lifts d args 0 n m → m + 2 ≤ rise → Turns takes leaves a b → Rises d (i ∷ tells w (pos p) key args) true (length a) (length b) rise
    behind_rises {a} {b} p key args n m takes leaves i goes behind h count few f room u =
        let t = length takes in
        let l = length leaves in
        let most = max t l + rise in
        let told = tells w (pos p) key args in
        lifts_rise d (i ∷ told) takes leaves a b most rise
        (lifts_then d (i ∷ []) told t l l most (one_lifts d i t l most goes (omega arith) behind)
        (lifts_over d l told 0 0 (m + 2) l l most (omega arith) (omega arith) (omega (arith, room)) (tells_lift w d (pos p) key args n m h count few f))) (omega arith) u

    -- a variable and its value
    variable_lifts : (x : ℕ) (t : ValType) (get : Plain) → Lifts d (get ∷ []) 0 1 0 → Lifts d (constant x ∷ words_by get t) 0 (1 + length (word_types t)) 4
    variable_lifts x t get f =
        lifts_then d (constant x ∷ []) (words_by get t) 0 1 (1 + length (word_types t)) 4 (const_lifts d _ 4)
        (lifts_over d 1 (words_by get t) 0 (length (word_types t)) 3 1 (1 + length (word_types t)) 4 (omega arith) (omega arith) (omega arith) (word_lifts d get t f))

    variable_words : (t : ValType) → words_in (I32 ∷ t ∷ []) ≡ 1 + length (word_types t)
    variable_words I32 = refl
    variable_words I64 = refl

    -- an instruction on a variable
    variable_rises : {a b : List ValType} (p : ℕ) (key : HookKey) (x : ℕ) (t : ValType) (get : Plain) (takes leaves : List ValType) (i : Plain)
        → flat_map word_types (value_types key) ≡ flat_map word_types (I32 ∷ t ∷ []) → Lifts d (get ∷ []) 0 1 0
        → goes_on i ≡ true → ((o : List ValType) (base : ℕ) → length o ≡ length takes + base → length (operands_behind d i o) ≡ length leaves + base)
        → MayTell w d key → 8 ≤ rise → Turns takes leaves a b → Rises d (i ∷ tells w (pos p) key (constant x ∷ words_by get t)) true (length a) (length b) rise
    variable_rises {a} {b} p key x t get takes leaves i e f goes behind h room u =
        behind_rises p key (constant x ∷ words_by get t) (1 + length (word_types t)) 4 takes leaves i goes behind h (ap length e ∙ variable_words t) (few t) (variable_lifts x t get f) (omega (arith, room)) u
      where
        few : (t : ValType) → 1 + length (word_types t) ≤ 4
        few I32 = omega arith
        few I64 = omega arith

-- ---- calls

-- a call of a function of this type
call_behind : (t : FuncType) (n : ℕ) (o : List ValType) (base : ℕ) → length o ≡ n + base → length (turned_operands n t.results o) ≡ length t.results + base
call_behind t n o base e = omega (arith, e, push_length t.results (drop n o), length-drop n o)

module _ (w : Setting) (d : Context) (widens : Widens (remap w) w.site.context d) (rise : ℕ) where
  -- the results of a call are told
  post_lifts : (p : ℕ) (ts : List ValType) (most : ℕ) → MayTell w d (keys.CallPost ts) → wants w (keys.CallPost ts) ≡ true → 3 * length ts + 3 ≤ most → Lifts d (post_code w p ts) (length ts) (length ts) most
  post_lifts p ts most h on room = saved_lifts w d 0 0 (pos p) (keys.CallPost ts) [] ts [] most refl (no_lift d 0 0) (h.hooked on) (omega (arith, room))

  -- a call, with its arguments and its results told
  call_rises : (p f x : ℕ) (t : FuncType) (a b : List ValType) → slice_get w.site.context.funcs f ≡ Some x → slice_get w.site.context.types x ≡ Some t
      → MayTell w d (keys.CallPre t.params) → MayTell w d (keys.CallPost t.results) → IsTold rise t → Turns t.params t.results a b → Rises d (call_code w p f t) true (length a) (length b) rise
  call_rises p f x t a b e1 e2 pre post few u =
      let made = call (map_index (remap w) f) in
      let n = length t.params in
      let l = length t.results in
      let most = max n l + rise in
      let is : type_of_callee d (map_index (remap w) f) ≡ t = ap (type_by d) (widens.funcs f x e1) ∙ ap func_type_or (widens.types x t e2) in
      let calls : Lifts d (made ∷ []) n l most =
      one_lifts d made n l most refl (omega arith)
      (λ o base e. subst (λ (z : FuncType). length (turned_operands (length z.params) z.results o) ≡ l + base) (sym is) (call_behind t n o base e)) in
      let told = tell_values w (pos p) (keys.CallPre t.params) (constant f ∷ []) (temps w.pool t.params) in
      lifts_rise d (call_code w p f t) t.params t.results a b most rise
      (lifts_cond d (wants w (keys.CallPre t.params)) (told ++ (made ∷ post_code w p t.results)) (made ∷ []) n l most
      (λ on. lifts_then d told (made ∷ post_code w p t.results) n n l most
      (saved_lifts w d 0 0 (pos p) (keys.CallPre t.params) (I32 ∷ []) t.params (constant f ∷ []) most refl (const_lifts d _ 1) (pre.hooked on) (omega (arith, few.0)))
      (lifts_then d (made ∷ []) (post_code w p t.results) n l l most calls (post_lifts p t.results most post on (omega (arith, few.1)))))
      (λ off. calls)) (omega arith) u

  -- an indirect call
  indirect_rises : (p ty : ℕ) (t : FuncType) (a b : List ValType) → slice_get d.types ty ≡ Some t → MayTell w d (keys.IndirectPre t.params) → MayTell w d (keys.CallPost t.results)
      → IsTold rise t → Turns (t.params ++ I32 ∷ []) t.results a b
      → Rises d (cond (wants w (keys.IndirectPre t.params)) (indirect_code w p ty t (temps w.pool (I32 ∷ t.params))) (call_indirect ty ∷ [])) true (length a) (length b) rise
  indirect_rises p ty t a b at pre post few u =
      let n = length t.params in
      let l = length t.results in
      let most = max (n + 1) l + rise in
      let count : length (t.params ++ I32 ∷ []) ≡ n + 1 = length-append t.params (I32 ∷ []) in
      let key = keys.IndirectPre t.params in
      let slot : Temp = record { ty = I32; local = w.pool.base + 0 } in
      let args = temps_from w.pool 1 0 t.params in
      let first = constant ty ∷ local_get slot.local ∷ [] in
      let told = tell_values w (pos p) key first args in
      let last = call_indirect ty ∷ post_code w p t.results in
      let code = indirect_code w p ty t (temps w.pool (I32 ∷ t.params)) in
      let is : indirect_type d ty ≡ t = ap func_type_or at in
      let calls : Lifts d (call_indirect ty ∷ []) (n + 1) l most =
      one_lifts d (call_indirect ty) (n + 1) l most refl (omega arith)
      (λ o base e. subst (λ (z : FuncType). length (turned_operands (length z.params + 1) z.results o) ≡ l + base) (sym is) (call_behind t (n + 1) o base e)) in
      let firsts : Lifts d first 0 2 2 =
      lifts_then d (constant ty ∷ []) (local_get slot.local ∷ []) 0 1 2 2 (const_lifts d _ 2)
      (lifts_over d 1 (local_get slot.local ∷ []) 0 1 0 1 2 2 (omega arith) (omega arith) (omega arith) (get_lifts d slot.local 0)) in
      let f : wants w key ≡ true → Lifts d code (n + 1) l most =
      λ on. lifts_then d (local_set slot.local ∷ []) (told ++ (local_get slot.local ∷ last)) (n + 1) n l most
      (lifts_over d n (local_set slot.local ∷ []) 1 0 1 (n + 1) n most (omega arith) (omega arith) (omega arith) (set_lifts d slot.local 1 (omega arith)))
      (lifts_then d told (local_get slot.local ∷ last) n n l most
      (saved_lifts w d 1 0 (pos p) key (I32 ∷ I32 ∷ []) t.params first most refl firsts (pre.hooked on) (omega (arith, few.0)))
      (lifts_then d (local_get slot.local ∷ []) last n (n + 1) l most
      (lifts_over d n (local_get slot.local ∷ []) 0 1 0 n (n + 1) most (omega arith) (omega arith) (omega arith) (get_lifts d slot.local 0))
      (lifts_then d (call_indirect ty ∷ []) (post_code w p t.results) (n + 1) l l most calls (post_lifts p t.results most post on (omega (arith, few.1)))))) in
      lifts_rise d (cond (wants w key) code (call_indirect ty ∷ [])) (t.params ++ I32 ∷ []) t.results a b most rise
      (lifts_over d 0 (cond (wants w key) code (call_indirect ty ∷ [])) (n + 1) l most (length (t.params ++ I32 ∷ [])) l most (omega (arith, count)) (omega arith) (omega arith)
      (lifts_cond d (wants w key) code (call_indirect ty ∷ []) (n + 1) l most f (λ off. calls))) (omega (arith, count)) u

  -- ---- every instruction

  -- the type of a callee, and of an indirect call
  type_told : HasRise w.site.context rise → (x : ℕ) (t : FuncType) → slice_get w.site.context.types x ≡ Some t → IsTold rise t
  type_told room x t e = all_at (IsTold rise) w.site.context.types x t room.types e

  -- more than two operands no operation has
  num_room : (op : NumOp) → length (num_operands op ++ num_result op ∷ []) ≤ 3 → 8 ≤ rise → 1 + 0 + 2 * (length (num_operands op) + 1) + 3 ≤ max (length (num_operands op)) 1 + rise
  num_room op few room = omega (arith, few, room, length-append (num_operands op) (num_result op ∷ []))

  -- the template of an instruction
  pub template_rises : HasRise w.site.context rise → (labels : List (List ValType)) (scopes : List Scope) (p : ℕ) (i : Plain) (a b : List ValType) → TypesPlain (labelled w.site.context labels) i a b
      → AllByRecursion (MayTell w d) (plain_keys w.site scopes p i) → Rises d (template w scopes p i) (goes_on i) (length a) (length b) rise
  template_rises room labels scopes p unreachable a b h k =
      let is = tells w (pos p) (keys.Plain groups.Unreachable) [] in
      before_rises d is (unreachable ∷ []) false (length a) (length b) rise 0
      (lifts_over d 0 is 0 0 2 0 0 (0 + rise) (omega arith) (omega arith) (omega (arith, room.some)) (told_lifts w d (pos p) (keys.Plain groups.Unreachable) refl k.0)) (omega arith) (stop_rises d unreachable _ _ rise refl)
  template_rises room labels scopes p nop a b h k =
      let is = tells w (pos p) (keys.Plain groups.Nop) [] in
      lifts_rise d (is ++ nop ∷ []) [] [] a b 2 rise
      (lifts_then d is (nop ∷ []) 0 0 0 2 (told_lifts w d (pos p) (keys.Plain groups.Nop) refl k.0) (one_lifts d nop 0 0 2 refl (omega arith) (λ o base e. e))) (omega (arith, room.some)) h
  template_rises room labels scopes p (br l) a b h k =
      let args = constant l ∷ target_code scopes l ∷ [] in
      let is = tells w (pos p) (keys.Plain groups.Br) args in
      let ends = tell_ends w (left_by scopes l) in
      before_rises d is (ends ++ br l ∷ []) false (length a) (length b) rise 0
      (lifts_over d 0 is 0 0 4 0 0 (0 + rise) (omega arith) (omega arith) (omega (arith, room.some)) (tells_lift w d (pos p) (keys.Plain groups.Br) args 2 2 k.0 refl (omega arith) (two_lift d _ _))) (omega arith)
      (before_rises d ends (br l ∷ []) false (length a) (length b) rise 0
      (lifts_over d 0 ends 0 0 3 0 0 (0 + rise) (omega arith) (omega arith) (omega (arith, room.some)) (ends_lift w d (left_by scopes l) k.1)) (omega arith) (stop_rises d (br l) _ _ rise refl))
  template_rises room labels scopes p (br_if l) a b (ts, e, (below, q, r)) k =
      let na : length a ≡ length (ts ++ I32 ∷ []) + length below = ap length q ∙ push_length (ts ++ I32 ∷ []) below in
      let nb : length b ≡ length ts + length below = ap length r ∙ push_length ts below in
      record {
        on = λ under high t o size fits next. let more = next refl in
            (one_lifts d (br_if l) 1 0 1 refl (omega arith) (λ o base e. omega (arith, e, length-drop 1 o))).on under (length ts + length below) high t o
            (omega (arith, size, na, length-append ts (I32 ∷ []))) (omega (arith, fits, room.some, na, length-append ts (I32 ∷ []))) (λ u h. more.1 u (omega (arith, h, nb)));
      }
  template_rises room labels scopes p (br_table ls l) a b (ts, below, e1, e2, e3) k =
      let is = tell_before w p (keys.Plain groups.BrTable) in
      let size : length a ≡ length (I32 ∷ push ts below) = ap length e3 in
      before_rises d is (br_table ls l ∷ []) false (length a) (length b) rise 1
      (lifts_over d 0 is 1 1 6 1 1 (1 + rise) (omega arith) (omega arith) (omega (arith, room.some)) (before_lifts w d p (keys.Plain groups.BrTable) refl k.0)) (omega (arith, size)) (stop_rises d (br_table ls l) _ _ rise refl)
  template_rises room labels scopes p return_ a b (below, e) k =
      let rs = w.site.context.results in
      let n = length rs in
      let is = tell_results w (pos p) in
      let ends = tell_ends w scopes in
      let size : length a ≡ n + length below = ap length e ∙ push_length rs below in
      before_rises d is (ends ++ return_ ∷ []) false (length a) (length b) rise n
      (lifts_over d 0 is n n (3 * n + 3) n n (n + rise) (omega arith) (omega arith) (omega (arith, room.results)) (results_lift w d (pos p) k.0)) (omega (arith, size))
      (before_rises d ends (return_ ∷ []) false (length a) (length b) rise 0
      (lifts_over d 0 ends 0 0 3 0 0 (0 + rise) (omega arith) (omega arith) (omega (arith, room.some)) (ends_lift w d scopes k.1)) (omega arith) (stop_rises d return_ _ _ rise refl))
  template_rises room labels scopes p (call g) a b (x, t, e1, e2, u) k =
      let is : t ≡ type_of_callee w.site.context g = sym (ap (type_by w.site.context) e1 ∙ ap func_type_or e2) in
      let ct = type_of_callee w.site.context g in
      let e3 : slice_get w.site.context.types x ≡ Some ct = e2 ∙ ap (λ t. Some t) is in
      call_rises p g x ct a b e1 e3 k.0 k.1.0 (type_told room x ct e3) (subst (λ (t : FuncType). Turns t.params t.results a b) is u)
  template_rises room labels scopes p (call_indirect ty) a b (t, n, e, u) k =
      let is : t ≡ indirect_type w.site.context ty = sym (ap func_type_or e) in
      let ct = indirect_type w.site.context ty in
      let e3 : slice_get w.site.context.types ty ≡ Some ct = e ∙ ap (λ t. Some t) is in
      indirect_rises p ty ct a b (widens.types ty ct e3) k.0 k.1.0 (type_told room ty ct e3) (subst (λ (t : FuncType). Turns (t.params ++ I32 ∷ []) t.results a b) is u)
  template_rises room labels scopes p drop_ a b (t, u) k =
      let ty = mark_at w.site.marks p in
      let one : Lifts d (drop_ ∷ []) 1 0 6 = one_lifts d drop_ 1 0 6 refl (omega arith) (λ o base e. omega (arith, e, length-drop 1 o)) in
      lifts_rise d (template w scopes p drop_) (t ∷ []) [] a b 6 rise
      (watch_lifts w d p (keys.Drop ty) [] (ty ∷ []) [] sets drop_ 1 0 6 refl k.0 (no_lift d 0 0) one
      (λ us size. lifts_over d 0 (sets us) (length us) 0 1 1 0 6 (omega (arith, size)) (omega arith) (omega arith) (sets_lift d us 1 (omega (arith, size)))) (omega arith)) (omega (arith, room.some)) u
  template_rises room labels scopes p select a b (t, u) k =
      let ty = mark_at w.site.marks p in
      let one : Lifts d (select ∷ []) 3 1 11 = one_lifts d select 3 1 11 refl (omega arith) (λ o base e. omega (arith, e, length-drop 2 o)) in
      lifts_rise d (template w scopes p select) (t ∷ t ∷ I32 ∷ []) (t ∷ []) a b 11 rise
      (watch_lifts w d p (keys.Select ty) [] (ty ∷ ty ∷ I32 ∷ []) [] (kept_code 3 select) select 3 1 11 refl k.0 (no_lift d 0 0) one
      (λ us size. kept_lifts w d select 3 0 1 11 us size (omega arith) one (omega arith) (omega arith)) (omega arith)) (omega (arith, room.some)) u
  template_rises room labels scopes p (local_get x) a b (t, e, u) k =
      variable_rises w d rise p (keys.Local Get (type_of_local w.site.context x)) x (type_of_local w.site.context x) (local_get x) [] (t ∷ []) (local_get x) refl (get_lifts d x 0) refl (λ o base e. omega (arith, e)) k.0 room.some u
  template_rises room labels scopes p (local_set x) a b (t, e, u) k =
      variable_rises w d rise p (keys.Local Set (type_of_local w.site.context x)) x (type_of_local w.site.context x) (local_get x) (t ∷ []) [] (local_set x) refl (get_lifts d x 0) refl (λ o base e. omega (arith, e, length-drop 1 o)) k.0 room.some u
  template_rises room labels scopes p (local_tee x) a b (t, e, u) k =
      variable_rises w d rise p (keys.Local Tee (type_of_local w.site.context x)) x (type_of_local w.site.context x) (local_get x) (t ∷ []) (t ∷ []) (local_tee x) refl (get_lifts d x 0) refl (λ o base e. e) k.0 room.some u
  template_rises room labels scopes p (global_get x) a b (g, e, u) k =
      variable_rises w d rise p (keys.Global Get (type_of_global w.site.context x)) x (type_of_global w.site.context x) (global_get x) [] (g.ty ∷ []) (global_get x) refl (global_lifts d x) refl (λ o base e. omega (arith, e)) k.0 room.some u
  template_rises room labels scopes p (global_set x) a b (g, e, m, u) k =
      variable_rises w d rise p (keys.Global Set (type_of_global w.site.context x)) x (type_of_global w.site.context x) (global_get x) (g.ty ∷ []) [] (global_set x) refl (global_lifts d x) refl (λ o base e. omega (arith, e, length-drop 1 o)) k.0 room.some u
  template_rises room labels scopes p (load op o) a b h k =
      kept_rises w d rise p (keys.Load op) (I32 ∷ []) (constant o.offset ∷ []) (I32 ∷ []) (load_type op ∷ []) (load_type op ∷ []) (load op o) refl (omega arith) (const_lifts d _ 1) refl
      (λ o base e. omega (arith, e, length-drop 1 o)) k.0 (omega (arith, room.some)) h.1
  template_rises room labels scopes p (store op o) a b h k =
      kept_rises w d rise p (keys.Store op) (I32 ∷ []) (constant o.offset ∷ []) (I32 ∷ store_type op ∷ []) [] [] (store op o) refl (omega arith) (const_lifts d _ 1) refl
      (λ o base e. omega (arith, e, length-drop 2 o)) k.0 (omega (arith, room.some)) h.1
  template_rises room labels scopes p memory_size a b h k =
      kept_rises w d rise p (keys.Plain groups.MemorySize) [] [] [] (I32 ∷ []) (I32 ∷ []) memory_size refl (omega arith) (no_lift d 0 0) refl (λ o base e. omega (arith, e)) k.0 (omega (arith, room.some)) h.1
  template_rises room labels scopes p memory_grow a b h k =
      kept_rises w d rise p (keys.Plain groups.MemoryGrow) [] [] (I32 ∷ []) (I32 ∷ []) (I32 ∷ []) memory_grow refl (omega arith) (no_lift d 0 0) refl (λ o base e. e) k.0 (omega (arith, room.some)) h.1
  template_rises room labels scopes p (i32_const z) a b h k =
      behind_rises w d rise p (keys.Const I32) (i32_const z ∷ []) 1 1 [] (I32 ∷ []) (i32_const z) refl (λ o base e. omega (arith, e)) k.0 refl (omega arith) (const_lifts d z 1) (omega (arith, room.some)) h
  template_rises room labels scopes p (i64_const z) a b h k =
      behind_rises w d rise p (keys.Const I64) (low_word z ∷ high_word z ∷ []) 2 2 [] (I64 ∷ []) (i64_const z) refl (λ o base e. omega (arith, e)) k.0 refl (omega arith) (two_lift d _ _) (omega (arith, room.some)) h
  template_rises room labels scopes p (num op) a b h k =
      kept_rises w d rise p (keys.Num op) [] [] (num_operands op) (num_result op ∷ []) (num_result op ∷ []) (num op) refl (omega arith) (no_lift d 0 0) refl
      (λ o base e. omega (arith, e, length-drop (length (num_operands op)) o)) k.0 (num_room op (leb-true _ 3 (small w.site p (num op))) room.some) h
