-- How many operands the code of temporaries and of hook calls has at once.
use Rattle.std.proofs.Common.{◌≡◌, ℕ, ◌+◌, ◌-◌, ◌*◌, ◌≤◌, ℤ, pos, List, [], ◌∷◌, ◌++◌, length, length-append, length-drop, refl, sym, ap, ◌∙◌, subst, arith, flat_map}
use Rattle.std.specs.List.{AllByRecursion}
use Rattle.wasm_sem.specs.Types.{ValType, BlockKind, FuncType, HookKey}
use Rattle.wasm_num.specs.declared.ValType.TheVariants.{I32, I64}
use Rattle.wasm_num.specs.declared.NumOp.TheVariants.{I32WrapI64, I64ShrU}
use Rattle.module_ast.specs.Places.{Scope, func_type_or, type_by, type_of_callee, turned_operands}
use Rattle.module_ast.specs.Structure.{Plain, call, local_get, local_set, local_tee, global_get, i32_const, i64_const, num}
use Rattle.module_ast.specs.Validation.{Context}
use Rattle.hook_mono.specs.declared.HookKey.TheVariants as keys
use Rattle.hook_mono.specs.Needed.{end_keys}
use Rattle.hook_mono.specs.Words.{value_types, word_types, hook_params, hook_type}
use Rattle.i64_split.specs.declared.Pool.{Pool}
use Rattle.i64_split.specs.declared.Temp.{Temp}
use Rattle.i64_split.specs.Split.{temps_from, temps, words_by, word_code, words_code, sets, gets, save_code}
use Rattle.rewrite.specs.Setting.{Setting, wants, hook_index, constant, tell, tells, tell_end, tell_ends}
use Rattle.rewrite.specs.Templates.{keep_code, tee_code, tell_before, tell_values, tell_results, tell_begin}
use Rattle.rewrite.proofs.TypedHooks.{IsHooked, MayTell}
use Rattle.rewrite.proofs.TemplateLengths.{from_length}
use Rattle.rewrite.proofs.Heights.{Lifts, no_lift, one_lifts, lifts_then, lifts_over, lifts_when, const_lifts, get_lifts, set_lifts, tee_lifts}

-- words that values of these types have
abbrev pub words_in : List ValType → ℕ
words_in ts = length (flat_map word_types ts)

pub words_few : (ts : List ValType) → words_in ts ≤ 2 * length ts
words_few [] = omega arith
words_few (I32 ∷ ts) = omega (arith, words_few ts)
words_few (I64 ∷ ts) = omega (arith, words_few ts)

module _ (d : Context) where
  -- two numbers, and a global
  pub two_lift : (y z : ℤ) → Lifts d (i32_const y ∷ i32_const z ∷ []) 0 2 2
  two_lift y z =
      lifts_then d (i32_const y ∷ []) (i32_const z ∷ []) 0 1 2 2 (const_lifts d y 2)
      (lifts_over d 1 (i32_const z ∷ []) 0 1 0 1 2 2 (omega arith) (omega arith) (omega arith) (const_lifts d z 0))

  pub global_lifts : (x : ℕ) → Lifts d (global_get x ∷ []) 0 1 0
  global_lifts x = one_lifts d (global_get x) 0 1 0 refl (omega arith) (λ o base e. omega (arith, e))

  -- ---- temporaries

  -- operands into temporaries, and back
  pub sets_lift : (us : List Temp) (most : ℕ) → length us ≤ most → Lifts d (sets us) (length us) 0 most
  sets_lift [] most few = no_lift d 0 most
  sets_lift (u ∷ us) most few =
      lifts_then d (sets us) (local_set u.local ∷ []) (length (u ∷ us)) 1 0 most
      (lifts_over d 1 (sets us) (length us) 0 (length us) (length (u ∷ us)) 1 most (omega arith) (omega arith) (omega (arith, few)) (sets_lift us (length us) (omega arith)))
      (set_lifts d u.local most (omega (arith, few)))

  pub gets_lift : (us : List Temp) (most : ℕ) → length us ≤ most → Lifts d (gets us) 0 (length us) most
  gets_lift [] most few = no_lift d 0 most
  gets_lift (u ∷ us) most few =
      lifts_then d (local_get u.local ∷ []) (gets us) 0 1 (length (u ∷ us)) most (get_lifts d u.local most)
      (lifts_over d 1 (gets us) 0 (length us) (length us) 1 (length (u ∷ us)) most (omega arith) (omega arith) (omega (arith, few)) (gets_lift us (length us) (omega arith)))

  pub save_lifts : (us : List Temp) (most : ℕ) → length us ≤ most → Lifts d (save_code us) (length us) (length us) most
  save_lifts us most few = lifts_then d (sets us) (gets us) (length us) 0 (length us) most (sets_lift us most few) (gets_lift us most few)

  -- operands that stay, and are in temporaries
  pub keep_lifts : (us : List Temp) (most : ℕ) → length us ≤ most → Lifts d (keep_code us) (length us) (length us) most
  keep_lifts [] most few = no_lift d 0 most
  keep_lifts (u ∷ us) most few =
      let n = length (u ∷ us) in
      lifts_then d (sets us) (local_tee u.local ∷ gets us) n 1 n most
      (lifts_over d 1 (sets us) (length us) 0 (length us) n 1 most (omega arith) (omega arith) (omega (arith, few)) (sets_lift us (length us) (omega arith)))
      (lifts_then d (local_tee u.local ∷ []) (gets us) 1 1 n most (tee_lifts d u.local most (omega (arith, few)))
      (lifts_over d 1 (gets us) 0 (length us) (length us) 1 n most (omega arith) (omega arith) (omega (arith, few)) (gets_lift us (length us) (omega arith))))

  -- one operand or none that stays, and is in a temporary
  pub tee_lift : (us : List Temp) (n most : ℕ) → length us ≤ n → n ≤ most → Lifts d (tee_code us) n n most
  tee_lift [] n most few room = no_lift d n most
  tee_lift (u ∷ []) n most few room = lifts_over d (n - 1) (local_tee u.local ∷ []) 1 1 1 n n most (omega (arith, few)) (omega (arith, few)) (omega (arith, few, room)) (tee_lifts d u.local 1 (omega arith))
  tee_lift (u ∷ v ∷ us) n most few room = no_lift d n most

  -- ---- words

  -- the two words of an i64 that an instruction pushes
  split_lifts : (get : Plain) → Lifts d (get ∷ []) 0 1 0 → Lifts d (words_by get I64) 0 2 3
  split_lifts get h =
      let got : (x : ℕ) → x ≤ 3 → Lifts d (get ∷ []) x (x + 1) 3 = λ x few. lifts_over d x (get ∷ []) 0 1 0 x (x + 1) 3 (omega arith) (omega arith) (omega (arith, few)) h in
      let wrap : (x : ℕ) → x + 1 ≤ 3 → Lifts d (num I32WrapI64 ∷ []) (x + 1) (x + 1) 3 =
      λ x few. one_lifts d (num I32WrapI64) (x + 1) (x + 1) 3 refl few (λ o base e. omega (arith, e, length-drop 1 o)) in
      let shift : Lifts d (num I64ShrU ∷ []) 3 2 3 = one_lifts d (num I64ShrU) 3 2 3 refl (omega arith) (λ o base e. omega (arith, e, length-drop 2 o)) in
      let places : Lifts d (i64_const (pos 32) ∷ []) 2 3 3 = one_lifts d (i64_const (pos 32)) 2 3 3 refl (omega arith) (λ o base e. omega (arith, e)) in
      lifts_then d (get ∷ []) (num I32WrapI64 ∷ get ∷ i64_const (pos 32) ∷ num I64ShrU ∷ num I32WrapI64 ∷ []) 0 1 2 3 (got 0 (omega arith))
      (lifts_then d (num I32WrapI64 ∷ []) (get ∷ i64_const (pos 32) ∷ num I64ShrU ∷ num I32WrapI64 ∷ []) 1 1 2 3 (wrap 0 (omega arith))
      (lifts_then d (get ∷ []) (i64_const (pos 32) ∷ num I64ShrU ∷ num I32WrapI64 ∷ []) 1 2 2 3 (got 1 (omega arith))
      (lifts_then d (i64_const (pos 32) ∷ []) (num I64ShrU ∷ num I32WrapI64 ∷ []) 2 3 2 3 places
      (lifts_then d (num I64ShrU ∷ []) (num I32WrapI64 ∷ []) 3 2 2 3 shift (wrap 1 (omega arith))))))

  -- of any value
  pub word_lifts : (get : Plain) (t : ValType) → Lifts d (get ∷ []) 0 1 0 → Lifts d (words_by get t) 0 (length (word_types t)) 3
  word_lifts get I32 h = lifts_over d 0 (get ∷ []) 0 1 0 0 1 3 (omega arith) (omega arith) (omega arith) h
  word_lifts get I64 h = split_lifts get h

  -- those of temporaries of these types
  pub words_from : (pool : Pool) (i l : ℕ) (ts : List ValType) → Lifts d (words_code (temps_from pool i l ts)) 0 (words_in ts) (2 * length ts + 1)
  words_from pool i l [] = no_lift d 0 1
  words_from pool i l (I32 ∷ ts) =
      let us = temps_from pool (i + 1) l ts in
      let most = 2 * length (I32 ∷ ts) + 1 in
      lifts_then d (local_get (pool.base + i) ∷ []) (words_code us) 0 1 (words_in (I32 ∷ ts)) most (get_lifts d (pool.base + i) most)
      (lifts_over d 1 (words_code us) 0 (words_in ts) (2 * length ts + 1) 1 (words_in (I32 ∷ ts)) most (omega arith) (omega arith) (omega arith) (words_from pool (i + 1) l ts))
  words_from pool i l (I64 ∷ ts) =
      let us = temps_from pool i (l + 1) ts in
      let most = 2 * length (I64 ∷ ts) + 1 in
      let x = pool.base + pool.ints + l in
      lifts_then d (word_code I64 x) (words_code us) 0 2 (words_in (I64 ∷ ts)) most
      (lifts_over d 0 (word_code I64 x) 0 2 3 0 2 most (omega arith) (omega arith) (omega arith) (split_lifts (local_get x) (get_lifts d x 0)))
      (lifts_over d 2 (words_code us) 0 (words_in ts) (2 * length ts + 1) 2 (words_in (I64 ∷ ts)) most (omega arith) (omega arith) (omega arith) (words_from pool i (l + 1) ts))

  -- words behind the first
  pub values_lift : (pool : Pool) (i l n : ℕ) (first : List Plain) (ts : List ValType) → Lifts d first 0 n n → Lifts d (first ++ words_code (temps_from pool i l ts)) 0 (n + words_in ts) (n + 2 * length ts + 1)
  values_lift pool i l n first ts f =
      let us = temps_from pool i l ts in
      let most = n + 2 * length ts + 1 in
      lifts_then d first (words_code us) 0 n (n + words_in ts) most (lifts_over d 0 first 0 n n 0 n most (omega arith) (omega arith) (omega arith) f)
      (lifts_over d n (words_code us) 0 (words_in ts) (2 * length ts + 1) n (n + words_in ts) most (omega arith) (omega arith) (omega arith) (words_from pool i l ts))

-- ---- hook calls

module _ (w : Setting) (d : Context) where
  -- the call itself takes the parameters
  call_lifts : (key : HookKey) (n most : ℕ) → IsHooked w d key → length (hook_params key) ≡ n → n ≤ most → Lifts d (call (hook_index w key) ∷ []) n 0 most
  call_lifts key n most h count room =
      let is : type_of_callee d (hook_index w key) ≡ hook_type key = ap (type_by d) h.func ∙ ap func_type_or h.type in
      one_lifts d (call (hook_index w key)) n 0 most refl room
      (λ o base e. subst (λ (t : FuncType). length (turned_operands (length t.params) t.results o) ≡ 0 + base) (sym is) (omega (arith, e, count, length-drop (length (hook_params key)) o)))

  -- with the function, the position and its values
  pub tell_lifts : (p : ℤ) (key : HookKey) (args : List Plain) (n most : ℕ) → IsHooked w d key → words_in (value_types key) ≡ n → n ≤ most → Lifts d args 0 n most → Lifts d (tell w p key args) 0 0 (most + 2)
  tell_lifts p key args n most h count room f =
      let last = call (hook_index w key) ∷ [] in
      let all = args ++ last in
      lifts_then d (constant w.site.func ∷ []) (i32_const p ∷ all) 0 1 0 (most + 2) (const_lifts d _ (most + 2))
      (lifts_then d (i32_const p ∷ []) all 1 2 0 (most + 2) (lifts_over d 1 (i32_const p ∷ []) 0 1 0 1 2 (most + 2) (omega arith) (omega arith) (omega arith) (const_lifts d p 0))
      (lifts_then d args last 2 (n + 2) 0 (most + 2) (lifts_over d 2 args 0 n most 2 (n + 2) (most + 2) (omega arith) (omega arith) (omega arith) f)
      (call_lifts key (n + 2) (most + 2) h (omega (arith, count)) (omega (arith, room)))))

  -- where it is selected
  pub tells_lift : (p : ℤ) (key : HookKey) (args : List Plain) (n most : ℕ) → MayTell w d key → words_in (value_types key) ≡ n → n ≤ most → Lifts d args 0 n most → Lifts d (tells w p key args) 0 0 (most + 2)
  tells_lift p key args n most h count room f = lifts_when d (wants w key) (tell w p key args) 0 (most + 2) (λ on. tell_lifts p key args n most (h.hooked on) count room f)

  -- a hook with no values
  pub told_lifts : (p : ℤ) (key : HookKey) → value_types key ≡ [] → MayTell w d key → Lifts d (tells w p key []) 0 0 2
  told_lifts p key e h = tells_lift p key [] 0 0 h (ap words_in e) (omega arith) (no_lift d 0 0)

  -- a part begins, and ends
  pub begin_lifts : (p : ℤ) (kind : BlockKind) → MayTell w d (keys.Begin kind) → Lifts d (tell_begin w p kind) 0 0 2
  begin_lifts p kind h = told_lifts p (keys.Begin kind) refl h

  pub end_lifts : (s : Scope) → MayTell w d (keys.End s.kind) → Lifts d (tell_end w s) 0 0 3
  end_lifts s h = tells_lift (pos s.end) (keys.End s.kind) (i32_const s.begin ∷ []) 1 1 h refl (omega arith) (const_lifts d _ 1)

  pub ends_lift : (ss : List Scope) → AllByRecursion (MayTell w d) (end_keys ss) → Lifts d (tell_ends w ss) 0 0 3
  ends_lift [] h = no_lift d 0 3
  ends_lift (s ∷ ss) h = lifts_then d (tell_end w s) (tell_ends w ss) 0 0 0 3 (end_lifts s h.0) (ends_lift ss h.1)

  -- values of these types are told behind the first, and stay
  pub saved_lifts : (i l : ℕ) (p : ℤ) (key : HookKey) (firsts ts : List ValType) (first : List Plain) (most : ℕ) → flat_map word_types (value_types key) ≡ firsts ++ flat_map word_types ts
      → Lifts d first 0 (length firsts) (length firsts) → IsHooked w d key → length firsts + 3 * length ts + 3 ≤ most → Lifts d (tell_values w p key first (temps_from w.pool i l ts)) (length ts) (length ts) most
  saved_lifts i l p key firsts ts first most e f h room =
      let us = temps_from w.pool i l ts in
      let n = length ts in
      let args = first ++ words_code us in
      let count : length us ≡ n = from_length w.pool i l ts in
      let words : words_in (value_types key) ≡ length firsts + words_in ts = ap length e ∙ length-append firsts (flat_map word_types ts) in
      let told = tell_lifts p key args (length firsts + words_in ts) (length firsts + 2 * n + 1) h words (omega (arith, words_few ts)) (values_lift d w.pool i l (length firsts) first ts f) in
      lifts_then d (save_code us) (tell w p key args) n n n most
      (lifts_over d 0 (save_code us) (length us) (length us) n n n most (omega (arith, count)) (omega (arith, count)) (omega (arith, room)) (save_lifts d us n (omega (arith, count))))
      (lifts_over d n (tell w p key args) 0 0 (length firsts + 2 * n + 1 + 2) n n most (omega arith) (omega arith) (omega (arith, room)) told)

  -- the condition or index on top
  pub before_lifts : (p : ℕ) (key : HookKey) → flat_map word_types (value_types key) ≡ I32 ∷ [] → MayTell w d key → Lifts d (tell_before w p key) 1 1 6
  before_lifts p key e h =
      let us = temps w.pool (I32 ∷ []) in
      lifts_when d (wants w key) (tee_code us ++ tell w (pos p) key (words_code us)) 1 6
      (λ on. lifts_then d (tee_code us) (tell w (pos p) key (words_code us)) 1 1 1 6 (tee_lift d us 1 6 (omega arith) (omega arith))
      (lifts_over d 1 (tell w (pos p) key (words_code us)) 0 0 5 1 1 6 (omega arith) (omega arith) (omega arith)
      (tell_lifts (pos p) key (words_code us) 1 3 (h.hooked on) (ap length e) (omega arith) (words_from d w.pool 0 0 (I32 ∷ [])))))

  -- the results
  pub results_lift : (p : ℤ) → MayTell w d (keys.Return w.site.context.results) → Lifts d (tell_results w p) (length w.site.context.results) (length w.site.context.results) (3 * length w.site.context.results + 3)
  results_lift p h =
      let ts = w.site.context.results in
      lifts_when d (wants w (keys.Return ts)) (tell_values w p (keys.Return ts) [] (temps w.pool ts)) (length ts) (3 * length ts + 3)
      (λ on. saved_lifts 0 0 p (keys.Return ts) [] ts [] (3 * length ts + 3) refl (no_lift d 0 0) (h.hooked on) (omega arith))
