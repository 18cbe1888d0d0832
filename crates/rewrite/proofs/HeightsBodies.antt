-- The rewriting of a body has few operands more at once than the body.
use Rattle.std.proofs.Common.{◌≡◌, ℕ, ◌+◌, ◌-◌, ◌*◌, ◌≤◌, ◌&&◌, pos, negsuc, List, [], ◌∷◌, ◌++◌, length, length-append, length-drop, drop, max, Bool, true, false, cond, Some, refl, ap, ap₂, ◌∙◌, arith}
use Rattle.std.specs.List.{AllByRecursion}
use Rattle.wasm_sem.specs.Types.{ValType, BlockType, FuncType}
use Rattle.wasm_num.specs.declared.ValType.TheVariants.{I32}
use Rattle.wasm_num.specs.declared.BlockKind.TheVariants as kinds
use Rattle.module_ast.specs.declared.code.BlockType.TheVariants.{Empty}
use Rattle.module_ast.specs.Lists.{when}
use Rattle.module_ast.specs.Structure.{plains, Tree, done, plain, block, loop, if_then, if_else, Plain, br_if}
use Rattle.module_ast.specs.Places.{operands_behind, starts_of, operands_under, operands_past, type_of_block, turned_operands, code_height, height, Scope, Place, function_scope, block_scope, loop_scope, if_scope, then_scope, else_scope, goes_on, left_by, ends_live, at, closes, alternates, code_places, places}
use Rattle.module_ast.specs.Validation.{Context, block_type, push, TypesPlain, TypesCode}
use Rattle.module_ast.proofs.Behind.{behind_typed, block_is, under_is, past_is}
use Rattle.module_ast.proofs.Each.{all_first, all_second, when_holds}
use Rattle.hook_select.specs.declared.GroupName.TheVariants as groups
use Rattle.hook_select.specs.Groups.{has}
use Rattle.hook_mono.specs.declared.HookKey.TheVariants as keys
use Rattle.hook_mono.specs.Needed.{live_keys, plain_keys, end_keys}
use Rattle.i64_split.specs.declared.Temp.{Temp}
use Rattle.i64_split.specs.Split.{temps, words_code, gets}
use Rattle.index_remap.specs.Remap.{map_tree}
use Rattle.rewrite.specs.Setting.{Setting, remap, constant, tells, tell_end, tell_ends}
use Rattle.rewrite.specs.Templates.{tee_code, target_code, tell_before, tell_begin, tell_results, end_code}
use Rattle.rewrite_needs.specs.Temporaries.{watches_br_if}
use Rattle.rewrite.specs.Rewrite.{if_taken, br_if_before, instr_code, live_code, rewritten_code}
use Rattle.rewrite.proofs.TypedPlains.{labelled}
use Rattle.rewrite.proofs.TypedCopied.{Widens, same_block}
use Rattle.rewrite.proofs.TypedHooks.{MayTell}
use Rattle.rewrite.proofs.Heights.{push_length, Lifts, lifts_then, lifts_over, lifts_when}
use Rattle.rewrite.proofs.HeightsTold.{gets_lift, tee_lift, words_from, two_lift, tells_lift, told_lifts, begin_lifts, end_lifts, ends_lift, before_lifts, results_lift}
use Rattle.rewrite.proofs.HeightsTemplates.{HasRise, template_rises}

-- the hooks of a place may be called
abbrev pub MayTellAt : Setting → Context → Place → Type 0
MayTellAt w d place = AllByRecursion (MayTell w d) (live_keys w.site place)

-- at a place stand no more than from there on
left_most : (a b : ℕ) → a ≤ max a b
left_most a b = omega arith

here_high : (c : Context) (below : ℕ) (k : Tree) (o : List ValType) → below + length o ≤ code_height c below k o
here_high c below done o = omega arith
here_high c below k o = left_most _ _

-- what follows an instruction that goes on
behind_high : (a b : ℕ) (goes : Bool) → goes ≡ true → b ≤ max a (cond goes b 0)
behind_high a b true e = omega arith
behind_high a b false e = cc

-- parts that are no higher than those
two_parts : (a b x y e f rise : ℕ) → a ≤ b → x ≤ e + rise → y ≤ f + rise → max a (max x y) ≤ max b (max e f) + rise
two_parts a b x y e f rise h k l = omega (arith, h, k, l)

three_parts : (a b x y z e f g rise : ℕ) → a ≤ b → x ≤ e + rise → y ≤ f + rise → z ≤ g + rise → max a (max x (max y z)) ≤ max b (max e (max f g)) + rise
three_parts a b x y z e f g rise h k l m = omega (arith, h, k, l, m)

-- without the topmost there are as many
one_less : (o a : List ValType) → length o ≡ length a → length (drop 1 o) ≡ length (drop 1 a)
one_less o a e = omega (arith, e, length-drop 1 o, length-drop 1 a)

module _ (w : Setting) (d : Context) (widens : Widens (remap w) w.site.context d) (rise : ℕ) (room : HasRise w.site.context rise) where
  -- code that leaves what it finds, before what is no higher than the bound
  stays_high : (is : List Plain) (n before below high : ℕ) (k : Tree) (o : List ValType) → Lifts d is n n (n + rise) → n ≤ before → length o ≡ before → below + before + rise ≤ high
      → ((u : List ValType) → length u ≡ before → code_height d below k u ≤ high) → code_height d below (plains is k) o ≤ high
  stays_high is n before below high k o f few e fits next =
      f.on below (before - n) high k o (omega (arith, e, few)) (omega (arith, fits, few)) (λ u h. next u (omega (arith, h, few)))

  -- with this much room
  roomy : (is : List Plain) (n most : ℕ) → most ≤ n + 8 → Lifts d is n n most → Lifts d is n n (n + rise)
  roomy is n most few f = lifts_over d 0 is n n most n n (n + rise) (omega arith) (omega arith) (omega (arith, few, room.some)) f

  -- ---- one instruction

  -- what follows it is no higher than the bound
  abbrev IsUnder : (below high n : ℕ) → Tree → Type 0
  IsUnder below high n k = (u : List ValType) → length u ≡ n → code_height d below k u ≤ high

  -- the ends of a branch that is taken are told in an `if`
  taken_high : (on : Bool) (left : List Scope) (us : List Temp) (below high n : ℕ) (k : Tree) → length us ≡ 1 → AllByRecursion (MayTell w d) (end_keys left) → below + n + rise ≤ high
      → IsUnder below high n k → IsUnder below high n (if_taken on w left us k)
  taken_high false left us below high n k one ends fits next = next
  taken_high true left us below high n k one ends fits next = λ o e.
      (lifts_over d 0 (gets us) 0 (length us) (length us) 0 1 1 (omega arith) (omega (arith, one)) (omega (arith, one)) (gets_lift d us (length us) (omega arith))).on below n high
      (if_then Empty (plains (tell_ends w left) done) k) o (omega (arith, e)) (omega (arith, fits, room.some))
      (λ u h. let under = below + length (operands_under d.types Empty (drop 1 u)) in
      let size : length (drop 1 u) ≡ n = omega (arith, h, length-drop 1 u) in
      let inner : code_height d under (plains (tell_ends w left) done) [] ≤ high =
      (ends_lift w d left ends).on under 0 high done [] refl (omega (arith, size, fits, room.some)) (λ v k. omega (arith, k, size, fits)) in
      let rest : code_height d below k (operands_past d.types Empty (drop 1 u)) ≤ high = next (drop 1 u) size in
      all_under (below + length u) _ _ high (omega (arith, h, fits, room.some)) inner rest)
    where
      all_under : (a b e high : ℕ) → a ≤ high → b ≤ high → e ≤ high → max a (max b e) ≤ high
      all_under a b e high h k l = omega (arith, h, k, l)

  -- a br_if, and what follows it
  br_if_high : (on : Bool) (labels : List (List ValType)) (scopes : List Scope) (p l : ℕ) (k : Tree) (a m : List ValType) (below high : ℕ) → TypesPlain (labelled w.site.context labels) (br_if l) a m
      → AllByRecursion (MayTell w d) (plain_keys w.site scopes p (br_if l)) → below + length a + rise ≤ high → below + length m + rise ≤ high → IsUnder below high (length m) k
      → IsUnder below high (length a) (br_if_before on w scopes p l k)
  br_if_high false labels scopes p l k a m below high t s fits more next =
      λ o e. (template_rises w d widens rise room labels scopes p (br_if l) a m t s).on below high k o e fits (λ goes. (more, next))
  br_if_high true labels scopes p l k a m below high t s fits more next =
      let us = temps w.pool (I32 ∷ []) in
      let args = constant l ∷ target_code scopes l ∷ words_code us in
      let call = tells w (pos p) (keys.Plain groups.BrIf) args in
      let pushed : Lifts d args 0 3 5 =
      lifts_then d (constant l ∷ target_code scopes l ∷ []) (words_code us) 0 2 3 5
      (lifts_over d 0 (constant l ∷ target_code scopes l ∷ []) 0 2 2 0 2 5 (omega arith) (omega arith) (omega arith) (two_lift d _ _))
      (lifts_over d 2 (words_code us) 0 1 3 2 3 5 (omega arith) (omega arith) (omega arith) (words_from d w.pool 0 0 (I32 ∷ []))) in
      let told : Lifts d call 0 0 7 = tells_lift w d (pos p) (keys.Plain groups.BrIf) args 3 5 s.0 refl (omega arith) pushed in
      let some : 1 ≤ length a = topped t in
      let rest = if_taken (has w.hooks groups.End) w (left_by scopes l) us (plain (br_if l) k) in
      λ o e. stays_high (tee_code us) 1 (length a) below high (plains call rest) o (roomy (tee_code us) 1 1 (omega arith) (tee_lift d us 1 1 (omega arith) (omega arith))) some e fits
      (λ u h. stays_high call 0 (length a) below high rest u (roomy call 0 7 (omega arith) told) (omega arith) h fits
      (taken_high (has w.hooks groups.End) (left_by scopes l) us below high (length a) (plain (br_if l) k) refl s.1 fits
      (λ v j. (template_rises w d widens rise room labels scopes p (br_if l) a m t s).on below high k v j fits (λ goes. (more, next)))))
    where
      topped : TypesPlain (labelled w.site.context labels) (br_if l) a m → 1 ≤ length a
      topped (ts, e, (under, q, r)) = omega (arith, ap length q, push_length (ts ++ I32 ∷ []) under, length-append ts (I32 ∷ []))

  -- an instruction, and what follows it
  instr_high : (labels : List (List ValType)) (scopes : List Scope) (p : ℕ) (i : Plain) (k : Tree) (a m : List ValType) (below high : ℕ) → TypesPlain (labelled w.site.context labels) i a m
      → AllByRecursion (MayTell w d) (plain_keys w.site scopes p i) → below + length a + rise ≤ high → (goes_on i ≡ true → (below + length m + rise ≤ high) × IsUnder below high (length m) k)
      → IsUnder below high (length a) (instr_code w scopes p i k)
  instr_high labels scopes p (br_if l) k a m below high t s fits next =
      let more = next refl in
      br_if_high (watches_br_if w.hooks) labels scopes p l k a m below high t s fits more.0 more.1
  instr_high labels scopes p i k a m below high t s fits next = λ o e. (template_rises w d widens rise room labels scopes p i a m t s).on below high k o e fits next

  -- ---- blocks

  -- what a sequence is no higher than
  abbrev IsHigh : (below : ℕ) → (made k : Tree) → (a : List ValType) → Type 0
  IsHigh below made k a = (o : List ValType) → length o ≡ length a → code_height d below made o ≤ code_height w.site.context below k a + rise

  -- what closes the sequence leaves its operands
  abbrev Closes : List Scope → Bool → (after : List ValType) → Type 0
  Closes scopes live b = live ≡ true → Lifts d (end_code w scopes) (length b) (length b) (length b + rise)

  module _ (below : ℕ) (ty : BlockType) (t : FuncType) (e : block_type w.site.context.types ty ≡ Some t) (under a o : List ValType) (finds : a ≡ push t.params under) (same : length o ≡ length a) where
    -- the type of the block in the output
    made_is : type_of_block d.types ty ≡ t
    made_is = block_is d.types ty t (same_block (remap w) w.site.context d widens ty t e)

    -- as many stand below the block
    under_same : length (operands_under d.types ty o) ≡ length under
    under_same =
        let size : length a ≡ length t.params + length under = ap length finds ∙ push_length t.params under in
        let left : length (operands_under d.types ty o) ≡ length (drop (length t.params) o) = ap (λ (u : FuncType). length (drop (length u.params) o)) made_is in
        omega (arith, size, left, same, length-drop (length t.params) o)

    -- and as many behind it
    past_same : length (operands_past d.types ty o) ≡ length (push t.results under)
    past_same =
        let size : length a ≡ length t.params + length under = ap length finds ∙ push_length t.params under in
        let left : length (operands_past d.types ty o) ≡ length (turned_operands (length t.params) t.results o) = ap (λ (u : FuncType). length (turned_operands (length u.params) u.results o)) made_is in
        omega (arith, size, left, same, push_length t.results (drop (length t.params) o), push_length t.results under, length-drop (length t.params) o)

    -- a part of the block
    part_high : (made body : Tree) → code_height d (below + length under) made (push t.params []) ≤ code_height w.site.context (below + length under) body (push t.params []) + rise
        → code_height d (below + length (operands_under d.types ty o)) made (starts_of d.types ty)
        ≤ code_height w.site.context (below + length (operands_under w.site.context.types ty a)) body (starts_of w.site.context.types ty) + rise
    part_high made body h =
        let c = w.site.context in
        let mine = ap₂ (λ n (u : FuncType). code_height d (below + n) made (push u.params [])) under_same made_is in
        let its = ap₂ (λ n (u : FuncType). code_height c (below + n) body (push u.params [])) (ap length (under_is c.types ty t a under e finds)) (block_is c.types ty t e) in
        omega (arith, h, mine, its)

    -- what follows the block
    rest_high : (made k : Tree) → IsHigh below made k (push t.results under) → code_height d below made (operands_past d.types ty o) ≤ code_height w.site.context below k (operands_past w.site.context.types ty a) + rise
    rest_high made k h =
        let c = w.site.context in
        omega (arith, h (operands_past d.types ty o) past_same, ap (code_height c below k) (past_is c.types ty t a under e finds))

  -- a part, behind what tells that it begins
  begun_high : (s : Scope) (below : ℕ) (made body : Tree) (a : List ValType) → MayTell w d (keys.Begin s.kind) → IsHigh below made body a
      → code_height d below (plains (tell_begin w s.begin s.kind) made) a ≤ code_height w.site.context below body a + rise
  begun_high s below made body a begin h =
      let is = tell_begin w s.begin s.kind in
      let here = here_high w.site.context below body a in
      stays_high is 0 (length a) below (code_height w.site.context below body a + rise) made a (roomy is 0 2 (omega arith) (begin_lifts w d s.begin s.kind begin)) (omega arith) refl (omega (arith, here)) h

  -- what closes a part of a block
  part_closes : (s own : Scope) (outer : List Scope) (body : Tree) (b : List ValType) → AllByRecursion (MayTell w d) (when (ends_live true body) (keys.End s.kind ∷ [])) → Closes (s ∷ own ∷ outer) (ends_live true body) b
  part_closes s own outer body b ends live =
      let n = length b in
      lifts_over d n (tell_end w s) 0 0 3 n n (n + rise) (omega arith) (omega arith) (omega (arith, room.some)) (end_lifts w d s (when_holds (MayTell w d) (ends_live true body) (keys.End s.kind ∷ []) live ends).0)

  -- the condition of an `if` is told before it
  condition_high : (p below high : ℕ) (made : Tree) (a under : List ValType) → a ≡ I32 ∷ under → MayTell w d (keys.Plain groups.If) → below + length a + rise ≤ high → IsUnder below high (length a) made
      → IsUnder below high (length a) (plains (tell_before w p (keys.Plain groups.If)) made)
  condition_high p below high made a under e h fits next = λ o same.
      let is = tell_before w p (keys.Plain groups.If) in
      stays_high is 1 (length a) below high made o (roomy is 1 6 (omega arith) (before_lifts w d p (keys.Plain groups.If) refl h)) (omega (arith, ap length e)) same fits next

  -- ---- live code

  -- what follows an instruction: live code
  rest_under : (labels : List (List ValType)) (scopes : List Scope) (below p : ℕ) (i : Plain) (k : Tree) (a m b : List ValType) (on : Bool) → goes_on i ≡ on → TypesPlain (labelled w.site.context labels) i a m
      → AllByRecursion (MayTellAt w d) (code_places scopes (true && on) p k) → Closes scopes (ends_live (true && on) k) b
      → (AllByRecursion (MayTellAt w d) (code_places scopes true p k) → Closes scopes (ends_live true k) b → IsHigh below (live_code w scopes p k) k m)
      → goes_on i ≡ true
      → (below + length m + rise ≤ code_height w.site.context below (plain i k) a + rise)
      × IsUnder below (code_height w.site.context below (plain i k) a + rise) (length m) (cond on (live_code w scopes p k) (map_tree (remap w) k))
  rest_under labels scopes below p i k a m b true e t told ends live goes =
      let c = w.site.context in
      let more = behind_high (below + length a) (code_height c below k (operands_behind c i a)) (goes_on i) e in
      let same = ap (code_height c below k) (behind_typed c labels i a m e t) in (
        omega (arith, more, same, here_high c below k m),
        λ u h. omega (arith, live told ends u h, more, same),
      )
  rest_under labels scopes below p i k a m b false e t told ends live goes = cc

  -- live code is little higher than the original
  pub live_high : (labels : List (List ValType)) (own : Scope) (outer : List Scope) (below p : ℕ) (k : Tree) (a b : List ValType) → TypesCode (labelled w.site.context labels) k a b
      → AllByRecursion (MayTellAt w d) (code_places (own ∷ outer) true p k) → Closes (own ∷ outer) (ends_live true k) b → IsHigh below (live_code w (own ∷ outer) p k) k a
  live_high labels own outer below p done a b e told ends = λ o same.
      let n = length b in
      let size : length a ≡ n = ap length e in
      (ends refl).on below 0 (below + length a + rise) done o (omega (arith, same, size)) (omega (arith, size)) (λ u h. omega (arith, h, size))
  live_high labels own outer below p (plain i k) a b (m, t, h) told ends = λ o same.
      let scopes = own ∷ outer in
      let rest = cond (goes_on i) (live_code w scopes (p + 1) k) (map_tree (remap w) k) in
      instr_high labels scopes p i rest a m below (code_height w.site.context below (plain i k) a + rise) t told.0 (omega (arith, here_high w.site.context below (plain i k) a))
      (rest_under labels scopes below (p + 1) i k a m b (goes_on i) refl t told.1 ends (live_high labels own outer below (p + 1) k m b h)) o same
  live_high labels own outer below p (block ty body k) a b (t, under, e, finds, inner, h) told ends = λ o same.
      let s = block_scope p body in
      let scopes = own ∷ outer in
      let close = all_second (MayTellAt w d) (code_places (s ∷ scopes) true (p + 1) body) _ told.1 in
      let made = live_code w (s ∷ scopes) (p + 1) body in
      let in_it = live_high (t.results ∷ labels) s scopes (below + length under) (p + 1) body (push t.params []) (push t.results []) inner (all_first (MayTellAt w d) (code_places (s ∷ scopes) true (p + 1) body) _ told.1)
      (part_closes s own outer body (push t.results []) close.0) in
      let behind_it = live_high labels own outer below (s.end + 1) k (push t.results under) b h close.1 ends in
      two_parts _ _ _ _ _ _ rise (omega (arith, same))
      (part_high below ty t e under a o finds same (plains (tell_begin w s.begin s.kind) made) body (begun_high s (below + length under) made body (push t.params []) told.0.0 in_it))
      (rest_high below ty t e under a o finds same (live_code w scopes (s.end + 1) k) k behind_it)
  live_high labels own outer below p (loop ty body k) a b (t, under, e, finds, inner, h) told ends = λ o same.
      let s = loop_scope p body in
      let scopes = own ∷ outer in
      let close = all_second (MayTellAt w d) (code_places (s ∷ scopes) true (p + 1) body) _ told.1 in
      let made = live_code w (s ∷ scopes) (p + 1) body in
      let in_it = live_high (t.params ∷ labels) s scopes (below + length under) (p + 1) body (push t.params []) (push t.results []) inner (all_first (MayTellAt w d) (code_places (s ∷ scopes) true (p + 1) body) _ told.1)
      (part_closes s own outer body (push t.results []) close.0) in
      let behind_it = live_high labels own outer below (s.end + 1) k (push t.results under) b h close.1 ends in
      two_parts _ _ _ _ _ _ rise (omega (arith, same))
      (part_high below ty t e under a o finds same (plains (tell_begin w s.begin s.kind) made) body (begun_high s (below + length under) made body (push t.params []) told.0.0 in_it))
      (rest_high below ty t e under a o finds same (live_code w scopes (s.end + 1) k) k behind_it)
  live_high labels own outer below p (if_then ty body k) a b (t, under, e, finds, alike, inner, h) told ends =
      let s = if_scope p body in
      let scopes = own ∷ outer in
      let close = all_second (MayTellAt w d) (code_places (s ∷ scopes) true (p + 1) body) _ told.1 in
      let made = live_code w (s ∷ scopes) (p + 1) body in
      let part = plains (tell_begin w s.begin s.kind) made in
      let rest = live_code w scopes (s.end + 1) k in
      let in_it = live_high (t.results ∷ labels) s scopes (below + length under) (p + 1) body (push t.params []) (push t.results []) inner (all_first (MayTellAt w d) (code_places (s ∷ scopes) true (p + 1) body) _ told.1)
      (part_closes s own outer body (push t.results []) close.0) in
      let behind_it = live_high labels own outer below (s.end + 1) k (push t.results under) b h close.1 ends in
      condition_high p below (code_height w.site.context below (if_then ty body k) a + rise) (if_then ty part rest) a (push t.params under) finds told.0.0 (omega (arith, here_high w.site.context below (if_then ty body k) a))
      (λ o same. let less = one_less o a same in
      two_parts _ _ _ _ _ _ rise (omega (arith, same))
      (part_high below ty t e under (drop 1 a) (drop 1 o) (ap (drop 1) finds) less part body (begun_high s (below + length under) made body (push t.params []) told.0.1.0 in_it))
      (rest_high below ty t e under (drop 1 a) (drop 1 o) (ap (drop 1) finds) less rest k behind_it))
  live_high labels own outer below p (if_else ty body other k) a b (t, under, e, finds, inner, second, h) told ends =
      let scopes = own ∷ outer in
      let s = then_scope p body other in
      let z = else_scope p body other in
      let here = code_places (s ∷ scopes) true (p + 1) body in
      let there = code_places (z ∷ scopes) true (s.end + 1) other in
      let behind = at z.end (ends_live true other) (closes z) scopes ∷ code_places scopes true (z.end + 1) k in
      let between = at s.end true (alternates s z (ends_live true body)) scopes ∷ (there ++ behind) in
      let middle = all_second (MayTellAt w d) here between told.1 in
      let close = all_second (MayTellAt w d) there behind middle.1 in
      let thens = when (ends_live true body) (keys.End kinds.If ∷ []) in
      let elses = keys.Begin kinds.Else ∷ [] in
      let made = live_code w (s ∷ scopes) (p + 1) body in
      let twin = live_code w (z ∷ scopes) (s.end + 1) other in
      let one = plains (tell_begin w s.begin s.kind) made in
      let two = plains (tell_begin w z.begin z.kind) twin in
      let rest = live_code w scopes (z.end + 1) k in
      let in_it = live_high (t.results ∷ labels) s scopes (below + length under) (p + 1) body (push t.params []) (push t.results []) inner (all_first (MayTellAt w d) here between told.1)
      (part_closes s own outer body (push t.results []) (all_first (MayTell w d) thens elses middle.0)) in
      let in_other = live_high (t.results ∷ labels) z scopes (below + length under) (s.end + 1) other (push t.params []) (push t.results []) second (all_first (MayTellAt w d) there behind middle.1)
      (part_closes z own outer other (push t.results []) close.0) in
      let behind_it = live_high labels own outer below (z.end + 1) k (push t.results under) b h close.1 ends in
      condition_high p below (code_height w.site.context below (if_else ty body other k) a + rise) (if_else ty one two rest) a (push t.params under) finds told.0.0 (omega (arith, here_high w.site.context below (if_else ty body other k) a))
      (λ o same. let less = one_less o a same in
      three_parts _ _ _ _ _ _ _ _ rise (omega (arith, same))
      (part_high below ty t e under (drop 1 a) (drop 1 o) (ap (drop 1) finds) less one body (begun_high s (below + length under) made body (push t.params []) told.0.1.0 in_it))
      (part_high below ty t e under (drop 1 a) (drop 1 o) (ap (drop 1) finds) less two other (begun_high z (below + length under) twin other (push t.params []) (all_second (MayTell w d) thens elses middle.0).0 in_other))
      (rest_high below ty t e under (drop 1 a) (drop 1 o) (ap (drop 1) finds) less rest k behind_it))

  -- ---- a body

  -- the start is told where the function is the start function
  start_lifts : (b : Bool) → AllByRecursion (MayTell w d) (when b (keys.Plain groups.Start ∷ [])) → Lifts d (when b (tells w (negsuc 0) (keys.Plain groups.Start) [])) 0 0 2
  start_lifts b h = lifts_when d b (tells w (negsuc 0) (keys.Plain groups.Start) []) 0 2 (λ e. told_lifts w d (negsuc 0) (keys.Plain groups.Start) refl (when_holds (MayTell w d) b (keys.Plain groups.Start ∷ []) e h).0)

  -- and so is a whole body
  pub rewritten_high : (code : Tree) → TypesCode (labelled w.site.context (w.site.context.results ∷ [])) code [] (push w.site.context.results []) → AllByRecursion (MayTellAt w d) (places code)
      → height d (rewritten_code w code) ≤ height w.site.context code + rise
  rewritten_high code h told =
      let f = function_scope code in
      let ts = w.site.context.results in
      let n = length ts in
      let inner = code_places (f ∷ []) true 0 code in
      let last = at f.end (ends_live true code) (closes f) [] ∷ [] in
      let starts = when w.site.starts (keys.Plain groups.Start ∷ []) in
      let begins = keys.Begin kinds.Function ∷ [] in
      let close = all_second (MayTellAt w d) inner last told.1 in
      let is = when w.site.starts (tells w (negsuc 0) (keys.Plain groups.Start) []) in
      let js = tell_begin w (negsuc 0) kinds.Function in
      let enters : Lifts d (is ++ js) 0 0 2 =
      lifts_then d is js 0 0 0 2 (start_lifts w.site.starts (all_first (MayTell w d) starts begins told.0)) (begin_lifts w d (negsuc 0) kinds.Function (all_second (MayTell w d) starts begins told.0).0) in
      let size : length (push ts []) ≡ n = (let e = push_length ts [] in omega (arith, e)) in
      let live = live_high (ts ∷ []) f [] 0 0 code [] (push ts []) h (all_first (MayTellAt w d) inner last told.1)
      (λ e. let ks = when_holds (MayTell w d) (ends_live true code) (keys.Return ts ∷ keys.End kinds.Function ∷ []) e close.0 in
      lifts_over d 0 (end_code w (f ∷ [])) n n (n + rise) (length (push ts [])) (length (push ts [])) (length (push ts []) + rise) (omega (arith, size)) (omega (arith, size)) (omega (arith, size))
      (lifts_then d (tell_results w (pos f.end)) (tell_end w f) n n n (n + rise)
      (lifts_over d 0 (tell_results w (pos f.end)) n n (3 * n + 3) n n (n + rise) (omega arith) (omega arith) (omega (arith, room.results)) (results_lift w d (pos f.end) ks.0))
      (lifts_over d n (tell_end w f) 0 0 3 n n (n + rise) (omega arith) (omega arith) (omega (arith, room.some)) (end_lifts w d f ks.1.0)))) in
      let top : ℕ = code_height w.site.context 0 code [] + rise in
      stays_high (is ++ js) 0 0 0 top (live_code w (f ∷ []) 0 code) [] (roomy (is ++ js) 0 2 (omega arith) enters) (omega arith) refl (omega arith) live
