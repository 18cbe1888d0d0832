-- Which instructions write to the memory or to globals: code that tells has none, and a template at most one.
use Rattle.std.proofs.Common.{◌≡◌, ℕ, ◌+◌, ◌≤◌, ℤ, pos, negsuc, List, [], ◌∷◌, ◌++◌, take, drop, Bool, true, false, Option, Some, None, refl, arith}
use Rattle.std.proofs.lemmas.Bool.{cond_both}
use Rattle.wasm_sem.specs.Types.{ValType, HookKey}
use Rattle.wasm_num.specs.declared.ValType.TheVariants as types
use Rattle.module_ast.specs.Lists.{when}
use Rattle.module_ast.specs.Places.{Scope}
use Rattle.module_ast.specs.Structure.{Tree, plain, Plain, global_get, global_set, store, memory_grow, i32_const, call, local_get, local_set, local_tee}
use Rattle.hook_select.specs.declared.GroupName.TheVariants as groups
use Rattle.wasm_num.specs.declared.BlockKind.TheVariants as kinds
use Rattle.hook_mono.specs.declared.HookKey.TheVariants as keys
use Rattle.i64_split.specs.declared.Temp.{Temp}
use Rattle.i64_split.specs.Split.{temps, words_by, words_code, word_code, sets, gets, save_code}
use Rattle.rewrite_needs.specs.declared.watching.Telling.{Telling}
use Rattle.rewrite_needs.specs.declared.watching.Telling.TheVariants.{Before, Int, Long, Local, Global, Dropped, Kept}
use Rattle.rewrite_needs.specs.declared.watching.Watch.{Watch}
use Rattle.rewrite_needs.specs.Watching.{watch}
use Rattle.rewrite.specs.Setting.{Setting, wants, hook_index, constant, low_word, high_word, tell, tells, tell_end, tell_ends}
use Rattle.rewrite.specs.Rewrite.{entry_code}
use Rattle.rewrite.specs.Templates.{tell_begin, post_code, keep_code, tee_code, kept_code, told_code, tell_values, tell_results, tell_before, template_by, template}
use Rattle.rewrite.proofs.WatchedCode.{watch_code}
use Rattle.instrument.proofs.StepLength.{IsPlainly}

-- 1 of an instruction that may write to the memory or to a global, and 0 of any other; calls do not count
abbrev pub touch_of : Plain → ℕ
touch_of (global_set x) = 1
touch_of (store op m) = 1
touch_of memory_grow = 1
touch_of i = 0

-- how many there are
abbrev pub touches : List Plain → ℕ
touches [] = 0
touches (i ∷ is) = touch_of i + touches is

-- of what comes next
abbrev pub touch_next : Tree → ℕ
touch_next (plain i k) = touch_of i
touch_next k = 0

-- no instruction counts twice
pub touch_most : (i : Plain) → touch_of i ≤ 1
touch_most (global_set x) = omega arith
touch_most (store op m) = omega arith
touch_most memory_grow = omega arith
touch_most i = omega arith

pub touches-append : (a b : List Plain) → touches (a ++ b) ≡ touches a + touches b
touches-append [] b = omega arith
touches-append (i ∷ a) b = omega (arith, touches-append a b)

-- the words of a value
words_by_touch : (get : Plain) (t : ValType) → touch_of get ≡ 0 → touches (words_by get t) ≡ 0
words_by_touch get types.I32 e = omega (arith, e)
words_by_touch get types.I64 e = omega (arith, e)

pub words_touch : (ts : List Temp) → touches (words_code ts) ≡ 0
words_touch [] = refl
words_touch (t ∷ ts) = omega (arith, touches-append (word_code t.ty t.local) (words_code ts), words_by_touch (local_get t.local) t.ty refl, words_touch ts)

-- code or none
pub when_touch : (b : Bool) (is : List Plain) → touches (when b is) ≤ touches is
when_touch true is = omega arith
when_touch false is = omega arith

-- a hook call
pub tell_touch : (w : Setting) (p : ℤ) (key : HookKey) (args : List Plain) → touches (tell w p key args) ≡ touches args
tell_touch w p key args = omega (arith, touches-append args (call (hook_index w key) ∷ []))

-- one or none
pub tells_touch : (w : Setting) (p : ℤ) (key : HookKey) (args : List Plain) → touches (tells w p key args) ≤ touches args
tells_touch w p key args = omega (arith, when_touch (wants w key) (tell w p key args), tell_touch w p key args)

-- into temporaries, and back
sets_touch : (ts : List Temp) → touches (sets ts) ≡ 0
sets_touch [] = refl
sets_touch (t ∷ ts) = omega (arith, touches-append (sets ts) (local_set t.local ∷ []), sets_touch ts)

gets_touch : (ts : List Temp) → touches (gets ts) ≡ 0
gets_touch [] = refl
gets_touch (t ∷ ts) = omega (arith, gets_touch ts)

keep_touch : (ts : List Temp) → touches (keep_code ts) ≡ 0
keep_touch [] = refl
keep_touch (t ∷ ts) = omega (arith, touches-append (sets ts) (local_tee t.local ∷ gets ts), sets_touch ts, gets_touch ts)

pub tee_touch : (ts : List Temp) → touches (tee_code ts) ≡ 0
tee_touch [] = refl
tee_touch (a ∷ []) = refl
tee_touch (a ∷ b ∷ ts) = refl

-- code round an instruction
kept_touch : (n : ℕ) (i : Plain) (ts : List Temp) → touches (kept_code n i ts) ≡ touch_of i
kept_touch n i ts = omega (arith, touches-append (keep_code (take n ts)) (i ∷ tee_code (drop n ts)), keep_touch (take n ts), tee_touch (drop n ts))

-- a template whose operands and result are kept
watch_touch : (w : Setting) (p : ℕ) (key : HookKey) (first : List Plain) (code : List Temp → List Plain) (tys : List ValType) (i : Plain)
    → touches first ≡ 0 → ((ts : List Temp) → touches (code ts) ≤ 1) → touches (watch_code w p key first code tys i) ≤ 1
watch_touch w p key first code tys i none one =
    let ts = temps w.pool tys in
    let args = first ++ words_code ts in
    let all = touches-append (code ts) (tell w (pos p) key args) in
    let told = tell_touch w (pos p) key args in
    let words = touches-append first (words_code ts) in
    let kept = one ts in
    cond_both (wants w key) (code ts ++ tell w (pos p) key args) (i ∷ []) (λ is. touches is ≤ 1)
    (λ on. omega (arith, all, told, words, words_touch ts, none, kept))
    (λ off. omega (arith, touch_most i))

-- an instruction before a hook call
behind_touch : (w : Setting) (p : ℕ) (key : HookKey) (args : List Plain) (i : Plain) → touches args ≡ 0 → touches (i ∷ tells w (pos p) key args) ≤ 1
behind_touch w p key args i none = omega (arith, tells_touch w (pos p) key args, none, touch_most i)

-- an instruction that is watched
told_touch : (w : Setting) (p : ℕ) (key : HookKey) (told : Telling) (i : Plain) → touches (told_code w p key told i) ≤ 1
told_touch w p key Before i = omega (arith, touches-append (tells w (pos p) key []) (i ∷ []), tells_touch w (pos p) key [], touch_most i)
told_touch w p key (Int z) i = behind_touch w p key (i32_const z ∷ []) i refl
told_touch w p key (Long z) i = behind_touch w p key (low_word z ∷ high_word z ∷ []) i refl
told_touch w p key (Local x t) i = behind_touch w p key (constant x ∷ word_code t x) i (omega (arith, words_by_touch (local_get x) t refl))
told_touch w p key (Global x t) i = behind_touch w p key (constant x ∷ words_by (global_get x) t) i (omega (arith, words_by_touch (global_get x) t refl))
told_touch w p key (Dropped t) i = watch_touch w p key [] sets (t ∷ []) i refl (λ ts. omega (arith, sets_touch ts))
told_touch w p key (Kept None n tys) i = watch_touch w p key [] (kept_code n i) tys i refl (λ ts. omega (arith, kept_touch n i ts, touch_most i))
told_touch w p key (Kept (Some offset) n tys) i = watch_touch w p key (constant offset ∷ []) (kept_code n i) tys i refl (λ ts. omega (arith, kept_touch n i ts, touch_most i))

-- an instruction on the store, locals and operands alone
pub template_touch : (w : Setting) (scopes : List Scope) (p : ℕ) (i : Plain) → IsPlainly i → touches (template w scopes p i) ≤ 1
template_touch w scopes p i is_plainly = go (watch w.site p i) refl
  where
    go : (x : Option Watch) → watch w.site p i ≡ x → touches (template_by w scopes p i x) ≤ 1
    go None e = absurd (is_plainly.watched w.site p e)
    go (Some x) e = told_touch w p x.key x.told i

-- values that are saved and told
pub saved_touch : (w : Setting) (p : ℤ) (key : HookKey) (first : List Plain) (ts : List Temp) → touches (tell_values w p key first ts) ≡ touches first
saved_touch w p key first ts =
    omega (arith, touches-append (save_code ts) (tell w p key (first ++ words_code ts)), touches-append (sets ts) (gets ts), sets_touch ts, gets_touch ts, tell_touch w p key (first ++ words_code ts), touches-append first (words_code ts), words_touch ts)

-- the hook before an if or a br_table
pub before_touch : (w : Setting) (p : ℕ) (key : HookKey) → touches (tell_before w p key) ≤ 1
before_touch w p key =
    let ts = temps w.pool (types.I32 ∷ []) in
    omega (arith, when_touch (wants w key) (tee_code ts ++ tell w (pos p) key (words_code ts)))

-- the end of a scope
pub end_touch : (w : Setting) (s : Scope) → touches (tell_end w s) ≡ 0
end_touch w s = omega (arith, tells_touch w (pos s.end) (keys.End s.kind) (i32_const s.begin ∷ []))

-- of several
pub ends_touch : (w : Setting) (ss : List Scope) → touches (tell_ends w ss) ≤ 1
ends_touch w ss = omega (arith, none ss)
  where
    none : (ss : List Scope) → touches (tell_ends w ss) ≡ 0
    none [] = refl
    none (s ∷ ss) = omega (arith, touches-append (tell_end w s) (tell_ends w ss), end_touch w s, none ss)

-- the results of a function
pub results_touch : (w : Setting) (p : ℤ) → touches (tell_results w p) ≤ 1
results_touch w p =
    let ts = w.site.context.results in
    omega (arith, when_touch (wants w (keys.Return ts)) (tell_values w p (keys.Return ts) [] (temps w.pool ts)), saved_touch w p (keys.Return ts) [] (temps w.pool ts))

-- the code at an entry
pub entry_touch : (w : Setting) → touches (entry_code w) ≤ 1
entry_touch w =
    let start = when w.site.starts (tells w (negsuc 0) (keys.Plain groups.Start) []) in
    omega (arith, touches-append start (tell_begin w (negsuc 0) kinds.Function), when_touch w.site.starts (tells w (negsuc 0) (keys.Plain groups.Start) []), tells_touch w (negsuc 0) (keys.Plain groups.Start) [], tells_touch w (negsuc 0) (keys.Begin kinds.Function) [])

-- the code behind a call
pub waits_touch : (w : Setting) (p : ℕ) (results : List ValType) → touches (when (wants w (keys.CallPost results)) (post_code w p results)) ≤ 1
waits_touch w p results = omega (arith, when_touch (wants w (keys.CallPost results)) (post_code w p results), saved_touch w (pos p) (keys.CallPost results) [] (temps w.pool results))
