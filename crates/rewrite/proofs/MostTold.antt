-- How many bytes hook calls have at most, with the values that they tell.
use Rattle.std.proofs.Common.{◌≡◌, ℕ, ◌+◌, ◌*◌, ◌^◌, ◌<◌, ◌≤◌, ℤ, pos, List, [], ◌∷◌, ◌++◌, length, length-take, take, Option, Some, None, Bool, true, false, unwrap_or, refl, arith}
use Rattle.std.specs.List.{AllByRecursion}
use Rattle.std.proofs.lemmas.List.Quantifiers.{position-Some}
use Rattle.leb_binary.specs.Leb.{IsInSize}
use Rattle.leb_binary.proofs.Lengths.{unsigned_five}
use Rattle.wasm_sem.specs.Types.{ValType, BlockKind, HookKey}
use Rattle.wasm_num.specs.declared.ValType.TheVariants.{I32, I64}
use Rattle.module_ast.specs.Lists.{when}
use Rattle.module_ast.specs.Binary.{plain_bytes}
use Rattle.module_ast.specs.Places.{Scope}
use Rattle.module_ast.specs.Structure.{Plain, call, local_get, local_set, i32_const}
use Rattle.module_ast.specs.Validation.Limits.{longest_file}
use Rattle.hook_mono.specs.Keys.{key_eq, find_key}
use Rattle.hook_mono.specs.declared.HookKey.TheVariants as keys
use Rattle.i64_split.specs.declared.Temp.{Temp}
use Rattle.i64_split.specs.Split.{temps, words_by, word_code, words_code, sets, gets, save_code}
use Rattle.rewrite.specs.Setting.{Setting, wants, hook_index, tell, tells, tell_end, tell_ends}
use Rattle.rewrite.specs.Templates.{tee_code, tell_before, tell_values, tell_results, tell_begin, end_code}
use Rattle.rewrite.specs.Sizes.{plains_length, IsNarrow}
use Rattle.rewrite.proofs.CodeBytes.{plains_append}
use Rattle.rewrite.proofs.Elements.{all_cut}
use Rattle.rewrite.proofs.ShortNumbers.{signed_short, constant_short, AreNear, near_short, temps_near}
use Rattle.rewrite.proofs.TemplateLengths.{temps_length}

-- hooks and locals have indices of 32 bits, and no type has too many values
pub record HasShort (w : Setting) : Type 0 where
  pub hooks : w.imports + length w.keys < 2 ^ 32
  pub locals : w.pool.base + w.pool.ints + w.pool.longs < 2 ^ 32
  pub narrow : IsNarrow longest_file w.site.context

-- a scope whose places are numbers of 32 bits
pub record IsPlaced (s : Scope) : Type 0 where
  pub begin : IsInSize 32 s.begin
  pub end : s.end < 2 ^ 31

abbrev pub ArePlaced : List Scope → Type 0
ArePlaced ss = AllByRecursion IsPlaced ss

-- code, or none
pub most_when : (b : Bool) (is : List Plain) → plains_length (when b is) ≤ plains_length is
most_when true is = omega arith
most_when false is = omega arith

-- ---- values in temporaries

-- the words of one value
pub most_word : (get : Plain) (t : ValType) → plains_length (words_by get t) ≤ 2 * length (plain_bytes get) + 5
most_word get I32 = omega arith
most_word get I64 = omega arith

-- of several
pub most_words : (ts : List Temp) → AreNear ts → plains_length (words_code ts) ≤ 27 * length ts
most_words [] h = omega arith
most_words (t ∷ ts) h = omega (arith, plains_append (word_code t.ty t.local) (words_code ts), most_word (local_get t.local) t.ty, near_short t h.0, most_words ts h.1)

-- into temporaries, and back
pub most_sets : (ts : List Temp) → AreNear ts → plains_length (sets ts) ≤ 11 * length ts
most_sets [] h = omega arith
most_sets (t ∷ ts) h = omega (arith, plains_append (sets ts) (local_set t.local ∷ []), near_short t h.0, most_sets ts h.1)

pub most_gets : (ts : List Temp) → AreNear ts → plains_length (gets ts) ≤ 11 * length ts
most_gets [] h = omega arith
most_gets (t ∷ ts) h = omega (arith, near_short t h.0, most_gets ts h.1)

-- one that stays on top
pub most_tee : (ts : List Temp) → AreNear ts → plains_length (tee_code ts) ≤ 11
most_tee [] h = omega arith
most_tee (a ∷ []) h = omega (arith, near_short a h.0)
most_tee (a ∷ b ∷ ts) h = omega arith

-- ---- hook calls

-- a key stands before the end of its list
found_below : (table : List HookKey) (key : HookKey) (o : Option ℕ) → find_key table key ≡ o → unwrap_or o 0 ≤ length table
found_below table key None e = omega arith
found_below table key (Some n) e = let found = position-Some (key_eq key) table n key e in omega (arith, found.0)

module _ (w : Setting) (short : HasShort w) where
  -- the call of a hook
  hook_short : (key : HookKey) → length (plain_bytes (call (hook_index w key))) ≤ 6
  hook_short key = omega (arith, unsigned_five (hook_index w key) (omega (arith, short.hooks, found_below w.keys key (find_key w.keys key) refl)))

  pub most_tell : (p : ℤ) (key : HookKey) (args : List Plain) → IsInSize 32 p → plains_length (tell w p key args) ≤ plains_length args + 18
  most_tell p key args h =
      let last = call (hook_index w key) in
      omega (arith, plains_append args (last ∷ []), constant_short w.site.func, signed_short p h, hook_short key)

  pub most_tells : (p : ℤ) (key : HookKey) (args : List Plain) → IsInSize 32 p → plains_length (tells w p key args) ≤ plains_length args + 18
  most_tells p key args h = omega (arith, most_when (wants w key) (tell w p key args), most_tell p key args h)

  -- ends and begins
  pub most_end : (s : Scope) → IsPlaced s → plains_length (tell_end w s) ≤ 24
  most_end s h = omega (arith, most_tells (pos s.end) (keys.End s.kind) (i32_const s.begin ∷ []) h.end, signed_short s.begin h.begin)

  pub most_ends : (ss : List Scope) → ArePlaced ss → plains_length (tell_ends w ss) ≤ 24 * length ss
  most_ends [] h = omega arith
  most_ends (s ∷ ss) h = omega (arith, plains_append (tell_end w s) (tell_ends w ss), most_end s h.0, most_ends ss h.1)

  -- those of the innermost scopes
  pub most_left : (n : ℕ) (ss : List Scope) → ArePlaced ss → plains_length (tell_ends w (take n ss)) ≤ 24 * length ss
  most_left n ss h = omega (arith, most_ends (take n ss) (all_cut IsPlaced n ss h).0, length-take n ss)

  pub most_begin : (p : ℤ) (kind : BlockKind) → IsInSize 32 p → plains_length (tell_begin w p kind) ≤ 18
  most_begin p kind h = omega (arith, most_tells p (keys.Begin kind) [] h)

  -- values that are saved and told
  pub most_saved : (p : ℤ) (key : HookKey) (first : List Plain) (ts : List Temp) → IsInSize 32 p → AreNear ts → plains_length (tell_values w p key first ts) ≤ 49 * length ts + plains_length first + 18
  most_saved p key first ts h near = omega (arith, plains_append (save_code ts) (tell w p key (first ++ words_code ts)), plains_append (sets ts) (gets ts), most_sets ts near, most_gets ts near, most_tell p key (first ++ words_code ts) h, plains_append first (words_code ts), most_words ts near)

  pub most_values : (p : ℤ) (key : HookKey) (first : List Plain) (tys : List ValType) → IsInSize 32 p → length tys ≤ longest_file → plains_length (tell_values w p key first (temps w.pool tys)) ≤ 49 * length tys + plains_length first + 18
  most_values p key first tys h few = omega (arith, most_saved p key first (temps w.pool tys) h (temps_near w.pool tys short.locals (omega (arith, few))), temps_length w.pool tys)

  -- one temporary is near
  pub one_near : AreNear (temps w.pool (I32 ∷ []))
  one_near = temps_near w.pool (I32 ∷ []) short.locals (omega arith)

  -- the condition or index on top
  pub most_before : (p : ℕ) (key : HookKey) → p < 2 ^ 31 → plains_length (tell_before w p key) ≤ 56
  most_before p key h =
      let ts = temps w.pool (I32 ∷ []) in
      omega (arith, most_when (wants w key) (tee_code ts ++ tell w (pos p) key (words_code ts)), plains_append (tee_code ts) (tell w (pos p) key (words_code ts)), most_tee ts one_near, most_tell (pos p) key (words_code ts) h, most_words ts one_near)

  pub most_results : (p : ℤ) → IsInSize 32 p → plains_length (tell_results w p) ≤ 49 * longest_file + 18
  most_results p h =
      let ts = w.site.context.results in
      omega (arith, most_when (wants w (keys.Return ts)) (tell_values w p (keys.Return ts) [] (temps w.pool ts)), most_values p (keys.Return ts) [] ts h short.narrow.results, short.narrow.results)

  -- what closes a sequence
  pub most_closing : (scopes : List Scope) → ArePlaced scopes → plains_length (end_code w scopes) ≤ 49 * longest_file + 42
  most_closing [] h = omega arith
  most_closing (f ∷ []) h = omega (arith, plains_append (tell_results w (pos f.end)) (tell_end w f), most_results (pos f.end) h.0.end, most_end f h.0)
  most_closing (b ∷ (outer ∷ more)) h = omega (arith, most_end b h.0)
