-- A rewritten body has at most 2 ^ 36 times the bytes of the original.
--     mapped_most, live_most, rewritten_most      of a copy, of live code, and of the code with its entry
--     ready_short, body_most      what is rewritten has short numbers, and the bound
use Rattle.std.proofs.Common.{◌≡◌, ℕ, zero, suc, ◌+◌, ◌*◌, ◌^◌, ◌<◌, ◌≤◌, negsuc, List, [], ◌∷◌, ◌++◌, length, Bool, true, false, cond, length-append, arith}
use Rattle.leb_binary.specs.Shortest.{unsigned_bytes}
use Rattle.leb_binary.proofs.Lengths.{unsigned_five}
use Rattle.wasm_sem.specs.Types.{ValType, Group, BlockType}
use Rattle.wasm_num.specs.declared.BlockKind.TheVariants as kinds
use Rattle.wasm_num.specs.declared.ValType.TheVariants.{I32, I64}
use Rattle.module_ast.specs.Lists.{when}
use Rattle.module_ast.specs.Binary.{items_bytes, plain_bytes, code_bytes, expr_bytes, vec_bytes, val_type_bytes, group_bytes, body_bytes}
use Rattle.module_ast.specs.Places.{Scope, function_scope, block_scope, loop_scope, if_scope, then_scope, else_scope, goes_on, code_size}
use Rattle.module_ast.specs.Structure.{plains, Tree, done, plain, block, loop, if_then, if_else, Plain, call}
use Rattle.module_ast.proofs.Writers.{items_many}
use Rattle.module_ast.proofs.Sizes.{code_counts}
use Rattle.module_ast.specs.Validation.Limits.{longest_file}
use Rattle.hook_select.specs.declared.GroupName.TheVariants as groups
use Rattle.hook_mono.specs.declared.HookKey.TheVariants as keys
use Rattle.i64_split.specs.declared.Pool.{Pool}
use Rattle.i64_split.specs.Split.{locals_group, pool_groups}
use Rattle.index_remap.specs.declared.Remap.{Remap}
use Rattle.index_remap.specs.Remap.{map_plain, map_tree}
use Rattle.rewrite.specs.Setting.{Setting, remap, tells}
use Rattle.rewrite.specs.Templates.{tell_before, tell_begin, end_code}
use Rattle.rewrite.specs.Rewrite.{live_code, entry_code, rewritten_code}
use Rattle.rewrite.specs.Conditions.{IsReady}
use Rattle.rewrite.specs.Sizes.{plains_length, size_of, IsNarrow}
use Rattle.rewrite.proofs.CodeBytes.{code_length, plains_append, plains_before, plain_before, block_length, both_length, instr_before}
use Rattle.rewrite.proofs.ShortNumbers.{mapped_short}
use Rattle.rewrite.proofs.MostTold.{HasShort, IsPlaced, ArePlaced, most_when, most_tells, most_begin, most_before, most_closing}
use Rattle.rewrite.proofs.MostTemplates.{most_instr}

-- ---- a copy

-- only a call becomes longer
mapped_plain : (r : Remap) (i : Plain) → r.added < 2 ^ 32 → length (plain_bytes (map_plain r i)) ≤ 16 * length (plain_bytes i)
mapped_plain r (call f) h = omega (arith, mapped_short r f h)
mapped_plain r i h = omega arith

pub mapped_most : (r : Remap) (k : Tree) → r.added < 2 ^ 32 → code_length (map_tree r k) ≤ 16 * code_length k
mapped_most r done h = omega arith
mapped_most r (plain i k) h = omega (arith, plain_before i k, plain_before (map_plain r i) (map_tree r k), mapped_plain r i h, mapped_most r k h)
mapped_most r (block ty body k) h = omega (arith, block_length ty body k, block_length ty (map_tree r body) (map_tree r k), mapped_most r body h, mapped_most r k h)
mapped_most r (loop ty body k) h = omega (arith, block_length ty body k, block_length ty (map_tree r body) (map_tree r k), mapped_most r body h, mapped_most r k h)
mapped_most r (if_then ty body k) h = omega (arith, block_length ty body k, block_length ty (map_tree r body) (map_tree r k), mapped_most r body h, mapped_most r k h)
mapped_most r (if_else ty body other k) h = omega (arith, both_length ty body other k, both_length ty (map_tree r body) (map_tree r other) (map_tree r k), mapped_most r body h, mapped_most r other h, mapped_most r k h)

-- ---- live code

-- more than the bytes of a place, beside some times its own ones
abbrev pub place_most : ℕ
place_most = 34359738368

module _ (w : Setting) (short : HasShort w) where
  -- a part, behind what tells that it begins
  part_most : (s : Scope) (k : Tree) (n : ℕ) → IsPlaced s → code_length k ≤ n → code_length (plains (tell_begin w s.begin s.kind) k) ≤ n + 18
  part_most s k n placed h = omega (arith, plains_before (tell_begin w s.begin s.kind) k, most_begin w short s.begin s.kind placed.begin, h)

  -- what follows: live code, or a copy
  rest_most : (on : Bool) (live k : Tree) → code_length live ≤ place_most * (code_size k + 1) + 16 * code_length k → code_length (cond on live (map_tree (remap w) k)) ≤ place_most * (code_size k + 1) + 16 * code_length k
  rest_most true live k h = h
  rest_most false live k h = omega (arith, mapped_most (remap w) k (omega (arith, short.hooks)))

  -- a block that has one sequence, or a loop or an `if`, which are as long; it leaves room for the hook call before an `if`
  opened_most : (o : Scope) (ty : BlockType) (body k inside rest : Tree) → IsPlaced o
      → code_length inside ≤ place_most * (code_size body + 1) + 16 * code_length body → code_length rest ≤ place_most * (code_size k + 1) + 16 * code_length k
      → code_length (block ty (plains (tell_begin w o.begin o.kind) inside) rest) + 56 ≤ place_most * (code_size (block ty body k) + 1) + 16 * code_length (block ty body k)
  opened_most o ty body k inside rest placed h r =
      omega (arith, block_length ty (plains (tell_begin w o.begin o.kind) inside) rest, part_most o inside _ placed h, r, block_length ty body k)

  pub live_most : (scopes : List Scope) (p : ℕ) (k : Tree) → ArePlaced scopes → p + code_size k < 2 ^ 31 → length scopes + code_size k ≤ longest_file
      → code_length (live_code w scopes p k) ≤ place_most * (code_size k + 1) + 16 * code_length k
  live_most scopes p done s h few = omega (arith, plains_before (end_code w scopes) done, most_closing w short scopes s)
  live_most scopes p (plain i k) s h few =
      let live = live_code w scopes (p + 1) k in
      let rest = cond (goes_on i) live (map_tree (remap w) k) in
      omega (arith, instr_before w scopes p i rest, most_instr w short scopes p i s (omega arith), rest_most (goes_on i) live k (live_most scopes (p + 1) k s (omega arith) (omega arith)), plain_before i k, few)
  live_most scopes p (block ty body k) s h few =
      let o = block_scope p body in
      let placed : IsPlaced o = record { begin = omega arith; end = omega arith } in
      omega (arith, opened_most o ty body k _ _ placed (live_most (o ∷ scopes) (p + 1) body (placed, s) (omega arith) (omega arith)) (live_most scopes (o.end + 1) k s (omega arith) (omega arith)))
  live_most scopes p (loop ty body k) s h few =
      let o = loop_scope p body in
      let placed : IsPlaced o = record { begin = omega arith; end = omega arith } in
      omega (arith, opened_most o ty body k _ _ placed (live_most (o ∷ scopes) (p + 1) body (placed, s) (omega arith) (omega arith)) (live_most scopes (o.end + 1) k s (omega arith) (omega arith)))
  live_most scopes p (if_then ty body k) s h few =
      let o = if_scope p body in
      let placed : IsPlaced o = record { begin = omega arith; end = omega arith } in
      let opened = opened_most o ty body k _ _ placed (live_most (o ∷ scopes) (p + 1) body (placed, s) (omega arith) (omega arith)) (live_most scopes (o.end + 1) k s (omega arith) (omega arith)) in
      let part = plains (tell_begin w o.begin o.kind) (live_code w (o ∷ scopes) (p + 1) body) in
      omega (arith, plains_before (tell_before w p (keys.Plain groups.If)) (if_then ty part (live_code w scopes (o.end + 1) k)), most_before w short p (keys.Plain groups.If) (omega arith), opened)
  live_most scopes p (if_else ty body other k) s h few =
      let a = then_scope p body other in
      let b = else_scope p body other in
      let first : IsPlaced a = record { begin = omega arith; end = omega arith } in
      let second : IsPlaced b = record { begin = omega arith; end = omega arith } in
      let inside = live_code w (a ∷ scopes) (p + 1) body in
      let elsewhere = live_code w (b ∷ scopes) (a.end + 1) other in
      let behind = live_code w scopes (b.end + 1) k in
      let part = plains (tell_begin w a.begin a.kind) inside in
      let others = plains (tell_begin w b.begin b.kind) elsewhere in
      omega (
        arith,
        plains_before (tell_before w p (keys.Plain groups.If)) (if_else ty part others behind),
        most_before w short p (keys.Plain groups.If) (omega arith),
        both_length ty part others behind,
        part_most a inside _ first (live_most (a ∷ scopes) (p + 1) body (first, s) (omega arith) (omega arith)),
        part_most b elsewhere _ second (live_most (b ∷ scopes) (a.end + 1) other (second, s) (omega arith) (omega arith)),
        live_most scopes (b.end + 1) k s (omega arith) (omega arith),
        both_length ty body other k,
      )

  -- ---- a body

  -- at the entry
  entry_most : plains_length (entry_code w) ≤ 36
  entry_most =
      let starts = tells w (negsuc 0) (keys.Plain groups.Start) [] in
      omega (arith, plains_append (when w.site.starts starts) (tell_begin w (negsuc 0) kinds.Function), most_when w.site.starts starts, most_tells w short (negsuc 0) (keys.Plain groups.Start) [] (omega arith), most_begin w short (negsuc 0) kinds.Function (omega arith))

  pub rewritten_most : (code : Tree) → code_size code + 1 ≤ longest_file → code_length (rewritten_code w code) ≤ place_most * (code_size code + 1) + 16 * code_length code + 36
  rewritten_most code few =
      let o = function_scope code in
      let placed : IsPlaced o = record { begin = omega arith; end = omega (arith, few) } in
      omega (arith, plains_before (entry_code w) (live_code w (o ∷ []) 0 code), entry_most, live_most (o ∷ []) 0 code (placed, tt) (omega (arith, few)) (omega (arith, few)))

-- ---- groups of locals

pub items_append : (xs ys : List Group) → length (items_bytes group_bytes (xs ++ ys)) ≡ length (items_bytes group_bytes xs) + length (items_bytes group_bytes ys)
items_append [] ys = omega arith
items_append (x ∷ xs) ys = omega (arith, length-append (group_bytes x) (items_bytes group_bytes (xs ++ ys)), length-append (group_bytes x) (items_bytes group_bytes xs), items_append xs ys)

-- a group has a byte at least
groups_count : (gs : List Group) → length gs ≤ length (items_bytes group_bytes gs)
groups_count = items_many group_bytes (λ g. omega (arith, length-append (unsigned_bytes g.count) (val_type_bytes g.ty)))

-- one of temporaries has at most six
group_most : (n : ℕ) (ty : ValType) → n < 2 ^ 32 → length (items_bytes group_bytes (locals_group n ty)) ≤ 6
group_most zero ty h = omega arith
group_most (suc n) ty h =
    let g : Group = record { count = suc n; ty = ty } in
    omega (arith, length-append (group_bytes g) [], length-append (unsigned_bytes (suc n)) (val_type_bytes ty), unsigned_five (suc n) h)

group_one : (n : ℕ) (ty : ValType) → length (locals_group n ty) ≤ 1
group_one zero ty = omega arith
group_one (suc n) ty = omega arith

-- all groups of a rewritten body
groups_most : (own : List Group) (pool : Pool) → length (items_bytes group_bytes own) ≤ longest_file → pool.base + pool.ints + pool.longs < 2 ^ 32
    → length (vec_bytes group_bytes (own ++ pool_groups pool)) ≤ length (vec_bytes group_bytes own) + 17
groups_most own pool few l =
    let ints = locals_group pool.ints I32 in
    let longs = locals_group pool.longs I64 in
    let all = own ++ pool_groups pool in
    let count = length-append own (pool_groups pool) in
    let added = length-append ints longs in
    omega (
      arith,
      length-append (unsigned_bytes (length all)) (items_bytes group_bytes all),
      length-append (unsigned_bytes (length own)) (items_bytes group_bytes own),
      unsigned_five (length all) (omega (arith, count, added, groups_count own, few, group_one pool.ints I32, group_one pool.longs I64)),
      items_append own (pool_groups pool),
      items_append ints longs,
      group_most pool.ints I32 (omega (arith, l)),
      group_most pool.longs I64 (omega (arith, l)),
    )

-- what is rewritten has short numbers
pub ready_short : (w : Setting) → IsReady w → IsNarrow longest_file w.site.context → HasShort w
ready_short w ready narrow = record { hooks = ready.numbers.hooks; locals = ready.numbers.locals; narrow = narrow }

-- The bound: of a body that a file can have it is below 2 ^ 64.
pub body_most : (w : Setting) → IsReady w → IsNarrow longest_file w.site.context → length (body_bytes w.site.body) ≤ longest_file
    → size_of w ≤ 34359738432 * length (body_bytes w.site.body)
body_most w ready narrow bytes =
    let code = w.site.body.code in
    let own = w.site.body.groups in
    let all = own ++ pool_groups w.pool in
    let parts = length-append (vec_bytes group_bytes own) (expr_bytes code) in
    let last = length-append (code_bytes code) (0x0B ∷ []) in
    let front = length-append (unsigned_bytes (length own)) (items_bytes group_bytes own) in
    omega (
      arith,
      length-append (vec_bytes group_bytes all) (expr_bytes (rewritten_code w code)),
      length-append (code_bytes (rewritten_code w code)) (0x0B ∷ []),
      parts,
      last,
      groups_most own w.pool (omega (arith, parts, front, bytes)) ready.numbers.locals,
      rewritten_most w (ready_short w ready narrow) code ready.few,
      code_counts code,
    )
