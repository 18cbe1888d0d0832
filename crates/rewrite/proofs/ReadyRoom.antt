-- The pool of a function has the temporaries of its code and of its end.
use Rattle.std.proofs.Common.{◌+◌, ◌^◌, ◌≤◌, ◌<◌, List, [], ◌∷◌, true, sym, subst, arith}
use Rattle.wasm_sem.specs.Types.{ValType, Hooks}
use Rattle.wasm_num.specs.declared.BlockKind.TheVariants as kinds
use Rattle.module_ast.specs.Lists.{when}
use Rattle.module_ast.specs.Places.{ends_live}
use Rattle.hook_mono.specs.Needed.{Site}
use Rattle.i64_split.specs.declared.Pool.{Pool}
use Rattle.i64_split.specs.Split.{ints_in, longs_in}
use Rattle.rewrite_needs.specs.Temporaries.{greatest, close_temps, code_temps, body_temps, pool_of}
use Rattle.rewrite_needs.proofs.TempsPlaced.{body_placed}
use Rattle.rewrite.specs.Setting.{Setting}
use Rattle.rewrite.specs.Conditions.{IsReady}
use Rattle.rewrite.specs.Emitted.{HasRoom}
use Rattle.rewrite.proofs.Joined.{room_append}

-- the pool of the greatest numbers has temporaries for each list
pub has_room : (pool : Pool) (lists : List (List ValType)) → greatest ints_in lists ≤ pool.ints → greatest longs_in lists ≤ pool.longs → pool.base + pool.ints + pool.longs ≤ 2 ^ 32 → HasRoom pool lists
has_room pool [] ints longs fits = tt
has_room pool (tys ∷ lists) ints longs fits = (record { ints = omega arith; longs = omega arith; fits = fits }, has_room pool lists (omega arith) (omega arith) fits)

-- that of a function has those of its code and of its end
pub body_has_room : (hooks : Hooks) (s : Site) → (let pool = pool_of hooks s in pool.base + pool.ints + pool.longs ≤ 2 ^ 32)
    → HasRoom (pool_of hooks s) (code_temps hooks s 0 s.body.code) × HasRoom (pool_of hooks s) (when (ends_live true s.body.code) (close_temps hooks s kinds.Function))
body_has_room hooks s fits =
    room_append (pool_of hooks s) (code_temps hooks s 0 s.body.code) _ (subst (HasRoom (pool_of hooks s)) (body_placed hooks s) (has_room (pool_of hooks s) (body_temps hooks s) (omega arith) (omega arith) fits))

-- a function that is rewritten has them
pub ready_room : (w : Setting) → IsReady w
    → HasRoom w.pool (code_temps w.hooks w.site 0 w.site.body.code) × HasRoom w.pool (when (ends_live true w.site.body.code) (close_temps w.hooks w.site kinds.Function))
ready_room w h =
    let own = pool_of w.hooks w.site in
    let below : own.base + own.ints + own.longs < 2 ^ 32 = subst (λ (pool : Pool). pool.base + pool.ints + pool.longs < 2 ^ 32) h.pool h.numbers.locals in
    subst (λ (pool : Pool). HasRoom pool (code_temps w.hooks w.site 0 w.site.body.code) × HasRoom pool (when (ends_live true w.site.body.code) (close_temps w.hooks w.site kinds.Function)))
    (sym h.pool) (body_has_room w.hooks w.site (omega (arith, below)))
