-- How many bytes a live instruction has at most in the output, against its own ones.
--     most_template      of its template, which for a br_if is itself
--     most_instr      as it stands in live code, a br_if too
use Rattle.std.proofs.Common.{ℕ, ◌+◌, ◌-◌, ◌*◌, ◌^◌, ◌<◌, ◌≤◌, pos, List, [], ◌∷◌, ◌++◌, length, length-append, take, drop, leb-true, Option, Some, None, IfSome, Bool, true, false, cond, unwrap_or, ap, slice_get, arith}
use Rattle.std.proofs.lemmas.Bool.{cond_both}
use Rattle.std.proofs.lemmas.List.{take-append-drop}
use Rattle.std.specs.Prelude.{◌/◌, ◌%◌}
use Rattle.std.specs.Int.{w64, cast_unsigned}
use Rattle.wasm_sem.specs.Types.{ValType, FuncType, HookKey}
use Rattle.wasm_num.specs.declared.ValType.TheVariants.{I32}
use Rattle.module_ast.specs.declared.code.BlockType.TheVariants.{Empty}
use Rattle.module_ast.specs.Binary.{plain_bytes}
use Rattle.module_ast.specs.Validation.{Context, longest_file}
use Rattle.module_ast.specs.Places.{type_of_callee, indirect_type, type_by, Scope, left_by, target_of}
use Rattle.module_ast.specs.Structure.{plains, done, plain, if_then, Plain, br, br_if, br_table, return_, call, call_indirect, local_get, local_tee, global_get, i32_const}
use Rattle.hook_select.specs.declared.GroupName.TheVariants as groups
use Rattle.hook_select.specs.Groups.{has}
use Rattle.hook_mono.specs.declared.HookKey.TheVariants as keys
use Rattle.i64_split.specs.declared.Temp.{Temp}
use Rattle.i64_split.specs.Split.{temps, words_by, word_code, words_code, sets, gets}
use Rattle.index_remap.specs.Remap.{map_index}
use Rattle.rewrite_needs.specs.Temporaries.{watches_br_if}
use Rattle.rewrite_needs.specs.Watching.{watch}
use Rattle.rewrite_needs.specs.declared.watching.Telling.{Telling}
use Rattle.rewrite_needs.specs.declared.watching.Telling.TheVariants.{Before, Int, Long, Local, Global, Dropped, Kept}
use Rattle.rewrite_needs.specs.declared.watching.Watch.{Watch}
use Rattle.rewrite.specs.Setting.{Setting, remap, wants, constant, low_word, high_word, tell, tells, tell_ends}
use Rattle.rewrite.specs.Templates.{keep_code, kept_code, tee_code, target_code, told_code, tell_before, tell_values, tell_results, post_code, call_code, indirect_code, branch_code, template_by, template}
use Rattle.rewrite.specs.Rewrite.{if_taken, br_if_before, instr_code}
use Rattle.rewrite.specs.Sizes.{plains_length, IsNarrow}
use Rattle.rewrite.proofs.CodeBytes.{code_length, plains_append, plains_before, plain_before, block_length}
use Rattle.rewrite.proofs.Elements.{all_cut, all_types}
use Rattle.rewrite.proofs.ShortNumbers.{constant_short, mapped_short, IsNear, AreNear, near_short, temps_near}
use Rattle.rewrite.proofs.MostTold.{HasShort, ArePlaced, most_word, most_words, most_sets, most_gets, most_tee, most_tell, most_tells, most_ends, most_left, most_saved, most_values, one_near, most_before, most_results}
use Rattle.rewrite.proofs.TemplateLengths.{temps_length}
use Rattle.rewrite.proofs.WatchedCode.{watch_code, IsSmall, small}

-- ---- code round an instruction

most_keep : (ts : List Temp) → AreNear ts → plains_length (keep_code ts) ≤ 22 * length ts - 11
most_keep [] h = omega arith
most_keep (t ∷ ts) h = omega (arith, plains_append (sets ts) (local_tee t.local ∷ gets ts), near_short t h.0, most_sets ts h.1, most_gets ts h.1)

most_kept : (n : ℕ) (i : Plain) (ts : List Temp) → AreNear ts → length ts ≤ 3 → plains_length (kept_code n i ts) ≤ length (plain_bytes i) + 66
most_kept n i ts h three =
    let near = all_cut IsNear n ts h in
    omega (
      arith,
      plains_append (keep_code (take n ts)) (i ∷ tee_code (drop n ts)),
      most_keep (take n ts) near.0,
      most_tee (drop n ts) near.1,
      ap length (take-append-drop n ts),
      length-append (take n ts) (drop n ts),
      three,
    )

-- one constant
one_constant : (n : ℕ) → plains_length (constant n ∷ []) ≤ 6
one_constant n = omega (arith, constant_short n)

-- ---- types

narrow_type : (most : ℕ) (c : Context) → IsNarrow most c → (t : ℕ) → length (indirect_type c t).params + length (indirect_type c t).results ≤ most
narrow_type most c narrow t = all_types (λ (t : FuncType). length t.params + length t.results ≤ most) c.types t (omega arith) narrow.types

narrow_callee : (most : ℕ) (c : Context) → IsNarrow most c → (f : ℕ) → length (type_of_callee c f).params + length (type_of_callee c f).results ≤ most
narrow_callee most c narrow f = go (slice_get c.funcs f)
  where
    go : (o : Option ℕ) → length (type_by c o).params + length (type_by c o).results ≤ most
    go None = omega arith
    go (Some t) = narrow_type most c narrow t

module _ (w : Setting) (short : HasShort w) where
  -- ---- calls

  most_post : (p : ℕ) (results : List ValType) → p < 2 ^ 31 → length results ≤ longest_file → plains_length (post_code w p results) ≤ 49 * length results + 18
  most_post p results h few = omega (arith, most_values w short (pos p) (keys.CallPost results) [] results h few)

  most_call : (p f : ℕ) (t : FuncType) → p < 2 ^ 31 → length t.params + length t.results ≤ longest_file → plains_length (call_code w p f t) ≤ 49 * longest_file + 60 + length (plain_bytes (call f))
  most_call p f t h few =
      let key = keys.CallPre t.params in
      let made = call (map_index (remap w) f) in
      let told = tell_values w (pos p) key (constant f ∷ []) (temps w.pool t.params) in
      let mapped : length (plain_bytes made) ≤ length (plain_bytes (call f)) + 10 = omega (arith, mapped_short (remap w) f (omega (arith, short.hooks))) in
      cond_both (wants w key) (told ++ (made ∷ post_code w p t.results)) (made ∷ []) (λ is. plains_length is ≤ 49 * longest_file + 60 + length (plain_bytes (call f)))
      (λ on.
      omega (
        arith,
        plains_append told (made ∷ post_code w p t.results),
        most_values w short (pos p) key (constant f ∷ []) t.params h (omega (arith, few)),
        one_constant f,
        mapped,
        most_post p t.results h (omega (arith, few)),
        few,
      ))
      (λ off. omega (arith, mapped))

  most_indirect : (p ty : ℕ) (t : FuncType) (ts : List Temp) → p < 2 ^ 31 → length t.params + length t.results ≤ longest_file → AreNear ts → length ts ≤ length t.params + 1
      → plains_length (indirect_code w p ty t ts) ≤ 49 * longest_file + 120 + length (plain_bytes (call_indirect ty))
  most_indirect p ty t [] h few near enough = omega arith
  most_indirect p ty t (slot ∷ args) h few near enough =
      let first = constant ty ∷ word_code slot.ty slot.local in
      let post = post_code w p t.results in
      let told = tell_values w (pos p) (keys.IndirectPre t.params) first args in
      omega (arith, plains_append told (local_get slot.local ∷ call_indirect ty ∷ post), most_saved w short (pos p) (keys.IndirectPre t.params) first args h near.1, constant_short ty, most_word (local_get slot.local) slot.ty, near_short slot near.0, most_post p t.results h (omega (arith, few)), few, enough)

  most_through : (p ty : ℕ) (t : FuncType) (b : Bool) → p < 2 ^ 31 → length t.params + length t.results ≤ longest_file
      → plains_length (cond b (indirect_code w p ty t (temps w.pool (I32 ∷ t.params))) (call_indirect ty ∷ [])) ≤ 49 * longest_file + 120 + length (plain_bytes (call_indirect ty))
  most_through p ty t true h few =
      let tys = I32 ∷ t.params in
      most_indirect p ty t (temps w.pool tys) h few (temps_near w.pool tys short.locals (omega (arith, few))) (omega (arith, temps_length w.pool tys))
  most_through p ty t false h few = omega arith

  -- ---- what an instruction tells beside itself

  -- behind it
  most_behind : (p : ℕ) (key : HookKey) (args : List Plain) (i : Plain) → p < 2 ^ 31 → plains_length (i ∷ tells w (pos p) key args) ≤ plains_length args + 18 + length (plain_bytes i)
  most_behind p key args i h = omega (arith, most_tells w short (pos p) key args h)

  -- with at most three temporaries
  most_watched : (p : ℕ) (key : HookKey) (first : List Plain) (code : List Temp → List Plain) (tys : List ValType) (i : Plain)
      → p < 2 ^ 31 → plains_length first ≤ 6 → length tys ≤ 3 → ((ts : List Temp) → AreNear ts → length ts ≤ 3 → plains_length (code ts) ≤ length (plain_bytes i) + 66)
      → plains_length (watch_code w p key first code tys i) ≤ length (plain_bytes i) + 171
  most_watched p key first code tys i h one three few =
      let ts = temps w.pool tys in
      let told = tell w (pos p) key (first ++ words_code ts) in
      let near = temps_near w.pool tys short.locals (omega (arith, three)) in
      let kept = few ts near (omega (arith, temps_length w.pool tys, three)) in
      cond_both (wants w key) (code ts ++ told) (i ∷ []) (λ is. plains_length is ≤ length (plain_bytes i) + 171)
      (λ on. omega (arith, plains_append (code ts) told, most_tell w short (pos p) key (first ++ words_code ts) h, plains_append first (words_code ts), most_words ts near, temps_length w.pool tys, kept, one, three))
      (λ off. omega arith)

  -- an instruction that is watched
  most_told : (p : ℕ) (key : HookKey) (told : Telling) (i : Plain) → p < 2 ^ 31 → IsSmall told i → plains_length (told_code w p key told i) ≤ 3 * length (plain_bytes i) + 171
  most_told p key Before i h small = omega (arith, plains_append (tells w (pos p) key []) (i ∷ []), most_tells w short (pos p) key [] h)
  most_told p key (Int z) i h small = omega (arith, most_behind p key (i32_const z ∷ []) i h, small)
  most_told p key (Long z) i h small =
      let low = cast_unsigned w64 z % 2 ^ 32 in
      let high = cast_unsigned w64 z / 2 ^ 32 in
      omega (arith, most_behind p key (low_word z ∷ high_word z ∷ []) i h, constant_short low, one_constant high)
  most_told p key (Local x t) i h small = omega (arith, most_behind p key (constant x ∷ word_code t x) i h, constant_short x, most_word (local_get x) t, small)
  most_told p key (Global x t) i h small = omega (arith, most_behind p key (constant x ∷ words_by (global_get x) t) i h, constant_short x, most_word (global_get x) t, small)
  most_told p key (Dropped t) i h small = omega (arith, most_watched p key [] sets (t ∷ []) i h (omega arith) (omega arith) (λ ts near three. omega (arith, most_sets ts near, three)))
  most_told p key (Kept None n tys) i h small = omega (arith, most_watched p key [] (kept_code n i) tys i h (omega arith) (leb-true (length tys) 3 small) (most_kept n i))
  most_told p key (Kept (Some offset) n tys) i h small = omega (arith, most_watched p key (constant offset ∷ []) (kept_code n i) tys i h (one_constant offset) (leb-true (length tys) 3 small) (most_kept n i))

  -- branches
  most_br : (scopes : List Scope) (p l : ℕ) → ArePlaced scopes → p < 2 ^ 31 → plains_length (template w scopes p (br l)) ≤ 24 * length scopes + 30 + length (plain_bytes (br l))
  most_br scopes p l s h =
      let args = constant l ∷ target_code scopes l ∷ [] in
      let told = tells w (pos p) (keys.Plain groups.Br) args in
      let passed = tell_ends w (left_by scopes l) in
      omega (arith, plains_append told (passed ++ br l ∷ []), plains_append passed (br l ∷ []), most_tells w short (pos p) (keys.Plain groups.Br) args h, constant_short l, one_constant (unwrap_or (target_of scopes l) 0), most_left w short (l + 1) scopes s)

  most_return : (scopes : List Scope) (p : ℕ) → ArePlaced scopes → p < 2 ^ 31 → plains_length (template w scopes p return_) ≤ 49 * longest_file + 24 * length scopes + 19
  most_return scopes p s h =
      let told = tell_results w (pos p) in
      let passed = tell_ends w scopes in
      omega (arith, plains_append told (passed ++ return_ ∷ []), plains_append passed (return_ ∷ []), most_results w short (pos p) h, most_ends w short scopes s)

  most_table : (p : ℕ) (ls : List ℕ) (l : ℕ) → p < 2 ^ 31 → plains_length (tell_before w p (keys.Plain groups.BrTable) ++ br_table ls l ∷ []) ≤ 56 + length (plain_bytes (br_table ls l))
  most_table p ls l h = omega (arith, plains_append (tell_before w p (keys.Plain groups.BrTable)) (br_table ls l ∷ []), most_before w short p (keys.Plain groups.BrTable) h)

  -- ---- any instruction

  most_other : (scopes : List Scope) (p : ℕ) (i : Plain) → ArePlaced scopes → p < 2 ^ 31 → plains_length (branch_code w scopes p i) ≤ 49 * longest_file + 24 * length scopes + 200 + 4 * length (plain_bytes i)
  most_other scopes p (br l) s h = omega (arith, most_br scopes p l s h)
  most_other scopes p (br_table ls l) s h = omega (arith, most_table p ls l h)
  most_other scopes p return_ s h = omega (arith, most_return scopes p s h)
  most_other scopes p (call f) s h = omega (arith, most_call p f (type_of_callee w.site.context f) h (narrow_callee longest_file w.site.context short.narrow f))
  most_other scopes p (call_indirect ty) s h =
      let t = indirect_type w.site.context ty in
      omega (arith, most_through p ty t (wants w (keys.IndirectPre t.params)) h (narrow_type longest_file w.site.context short.narrow ty))
  most_other scopes p i s h = omega arith

  pub most_template : (scopes : List Scope) (p : ℕ) (i : Plain) → ArePlaced scopes → p < 2 ^ 31 → plains_length (template w scopes p i) ≤ 49 * longest_file + 24 * length scopes + 200 + 4 * length (plain_bytes i)
  most_template scopes p i s h = go (watch w.site p i) (small w.site p i)
    where
      go : (x : Option Watch) → IfSome x (λ x. IsSmall x.told i) → plains_length (template_by w scopes p i x) ≤ 49 * longest_file + 24 * length scopes + 200 + 4 * length (plain_bytes i)
      go None k = most_other scopes p i s h
      go (Some x) k = omega (arith, most_told p x.key x.told i h k)

  -- ---- on a condition

  most_taken : (b : Bool) (n l : ℕ) (ts : List Temp) (left : List Scope) → plains_length (tell_ends w left) ≤ n → AreNear ts → length ts ≤ 1
      → code_length (if_taken b w left ts (plain (br_if l) done)) ≤ n + 14 + length (plain_bytes (br_if l))
  most_taken false n l ts left ends near one = omega (arith, plain_before (br_if l) done)
  most_taken true n l ts left ends near one =
      omega (
        arith,
        plains_before (gets ts) (if_then Empty (plains (tell_ends w left) done) (plain (br_if l) done)),
        block_length Empty (plains (tell_ends w left) done) (plain (br_if l) done),
        plains_before (tell_ends w left) done,
        plain_before (br_if l) done,
        most_gets ts near,
        ends,
        one,
      )

  most_branch : (b : Bool) (scopes : List Scope) (p l : ℕ) → ArePlaced scopes → p < 2 ^ 31 → code_length (br_if_before b w scopes p l done) ≤ 24 * length scopes + 100 + length (plain_bytes (br_if l))
  most_branch false scopes p l s h = omega (arith, plain_before (br_if l) done)
  most_branch true scopes p l s h =
      let ts = temps w.pool (I32 ∷ []) in
      let args = constant l ∷ target_code scopes l ∷ words_code ts in
      let told = tells w (pos p) (keys.Plain groups.BrIf) args in
      let taken = if_taken (has w.hooks groups.End) w (left_by scopes l) ts (plain (br_if l) done) in
      let near = one_near w short in
      omega (
        arith,
        plains_before (tee_code ts) (plains told taken),
        plains_before told taken,
        most_tee ts near,
        most_tells w short (pos p) (keys.Plain groups.BrIf) args h,
        constant_short l,
        constant_short (unwrap_or (target_of scopes l) 0),
        most_words ts near,
        most_taken (has w.hooks groups.End) (24 * length scopes) l ts (left_by scopes l) (most_left w short (l + 1) scopes s) near (omega arith),
      )

  -- as it stands in live code
  pub most_instr : (scopes : List Scope) (p : ℕ) (i : Plain) → ArePlaced scopes → p < 2 ^ 31 → code_length (instr_code w scopes p i done) ≤ 49 * longest_file + 24 * length scopes + 200 + 4 * length (plain_bytes i)
  most_instr scopes p (br_if l) s h = omega (arith, most_branch (watches_br_if w.hooks) scopes p l s h)
  most_instr scopes p i s h = omega (arith, plains_before (template w scopes p i) done, most_template scopes p i s h)
