-- What the rewriting of a function asks.
use Rattle.std.specs.Prelude.{◌≡◌, ℕ, ◌+◌, ◌^◌, ◌<◌, ◌≤◌, List, length, slice_get, Some}
use Rattle.wasm_sem.specs.Types.{Module, Hooks, HookKey}
use Rattle.module_ast.specs.Places.{code_size}
use Rattle.module_ast.specs.Validation.Limits.{longest_file}
use Rattle.hook_mono.specs.Needed.{Site, sites}
use Rattle.index_remap.specs.Remap.{Maps}
use Rattle.rewrite.specs.Setting.{Setting, remap}
use Rattle.rewrite_needs.specs.Temporaries.{pool_of}
use Rattle.rewrite.specs.Rewrite.{setting_of}

-- the indices of the hooks, of the functions that are called, and of the locals with the temporaries fit
pub record HasNumbers (w : Setting) : Type 0 where
  pub hooks : w.imports + length w.keys < 2 ^ 32
  pub calls : Maps (remap w) w.site.body.code
  pub locals : w.pool.base + w.pool.ints + w.pool.longs < 2 ^ 32

-- the same of a defined function of a module with these hooks
abbrev pub CanRewrite : Module → (defined : ℕ) → Hooks → List HookKey → (imports : ℕ) → Type 0
CanRewrite m defined hooks keys imports = (s : Site) → slice_get (sites m) defined ≡ Some s → HasNumbers (setting_of hooks keys imports s)

-- a function that is rewritten: a body that a file can have, and the temporaries that it needs
pub record IsReady (w : Setting) : Type 0 where
  pub few : code_size w.site.body.code + 1 ≤ longest_file
  pub pool : w.pool ≡ pool_of w.hooks w.site
  pub numbers : HasNumbers w
