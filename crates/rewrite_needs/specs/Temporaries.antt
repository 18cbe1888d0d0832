-- The temporaries that the templates of a body need.
use Rattle.std.specs.Prelude.{ℕ, ◌+◌, ◌||◌, nat_abs, ℤ, List, [], ◌∷◌, ◌++◌, length, flat_map, max, Bool, Option, Some, None}
use Rattle.wasm_sem.specs.Types.{ValType, BlockKind, Hooks, HookKey}
use Rattle.wasm_num.specs.declared.ValType.TheVariants.{I32}
use Rattle.wasm_num.specs.declared.BlockKind.TheVariants as kinds
use Rattle.module_ast.specs.Lists.{when}
use Rattle.module_ast.specs.Places.{type_of_callee, indirect_type, Place, Opcode, acts, opens, closes, places, code_size, goes_on}
use Rattle.module_ast.specs.Structure.{Tree, done, plain, block, loop, if_then, if_else, Plain, br_if, br_table, return_, call, call_indirect}
use Rattle.hook_select.specs.declared.GroupName.TheVariants as groups
use Rattle.hook_select.specs.Groups.{has}
use Rattle.hook_mono.specs.declared.HookKey.TheVariants as keys
use Rattle.hook_mono.specs.Keys.{is_wanted}
use Rattle.hook_mono.specs.Needed.{Site}
use Rattle.rewrite_needs.specs.declared.watching.Watch.{Watch}
use Rattle.rewrite_needs.specs.Watching.{watch, watch_temps}
use Rattle.i64_split.specs.declared.Pool.{Pool}
use Rattle.i64_split.specs.Split.{ints_in, longs_in}

-- temporaries of these types at once, if the hook is called
abbrev pub wanted_temps : Hooks → HookKey → List ValType → List (List ValType)
wanted_temps hooks key types = when (is_wanted hooks key) (types ∷ [])

-- whether a br_if gets hook calls
abbrev pub watches_br_if : Hooks → Bool
watches_br_if hooks = has hooks groups.BrIf || has hooks groups.End

-- the temporaries of a live branch or call. A call does not need those of its arguments and those of its results at once.
abbrev pub branch_temps : Hooks → Site → Plain → List (List ValType)
branch_temps hooks s (br_if l) = when (watches_br_if hooks) ((I32 ∷ []) ∷ [])
branch_temps hooks s (br_table ls l) = wanted_temps hooks (keys.Plain groups.BrTable) (I32 ∷ [])
branch_temps hooks s return_ = let ts = s.context.results in wanted_temps hooks (keys.Return ts) ts
branch_temps hooks s (call f) =
    let t = type_of_callee s.context f in wanted_temps hooks (keys.CallPre t.params) t.params ++ wanted_temps hooks (keys.CallPost t.results) t.results
branch_temps hooks s (call_indirect ty) =
    let t = indirect_type s.context ty in
    wanted_temps hooks (keys.IndirectPre t.params) (I32 ∷ t.params) ++ wanted_temps hooks (keys.CallPost t.results) t.results
branch_temps hooks s _ = []

abbrev pub temps_by : Hooks → Site → Plain → Option Watch → List (List ValType)
temps_by hooks s i None = branch_temps hooks s i
temps_by hooks s i (Some x) = watch_temps hooks x

-- the temporaries of any live instruction
abbrev pub plain_temps : Hooks → Site → (p : ℕ) → Plain → List (List ValType)
plain_temps hooks s p i = temps_by hooks s i (watch s p i)

abbrev pub open_temps : Hooks → BlockKind → List (List ValType)
open_temps hooks kinds.If = wanted_temps hooks (keys.Plain groups.If) (I32 ∷ [])
open_temps hooks _ = []

abbrev pub close_temps : Hooks → Site → BlockKind → List (List ValType)
close_temps hooks s kinds.Function = let ts = s.context.results in wanted_temps hooks (keys.Return ts) ts
close_temps hooks s _ = []

abbrev pub opcode_temps : Hooks → Site → (p : ℤ) → Opcode → List (List ValType)
opcode_temps hooks s p (acts i) = plain_temps hooks s (nat_abs p) i
opcode_temps hooks s p (opens scope) = open_temps hooks scope.kind
opcode_temps hooks s p (closes scope) = close_temps hooks s scope.kind
opcode_temps hooks s p _ = []

abbrev pub place_temps : Hooks → Site → Place → List (List ValType)
place_temps hooks s place = when place.live (opcode_temps hooks s place.position place.opcode)

abbrev pub body_temps : Hooks → Site → List (List ValType)
body_temps hooks s = flat_map (place_temps hooks s) (places s.body.code)

-- the temporaries that the templates of live code need, from p on
abbrev pub code_temps : Hooks → Site → (p : ℕ) → Tree → List (List ValType)
code_temps hooks s p done = []
code_temps hooks s p (plain i k) = plain_temps hooks s p i ++ when (goes_on i) (code_temps hooks s (p + 1) k)
code_temps hooks s p (block ty body k) = code_temps hooks s (p + 1) body ++ code_temps hooks s (p + code_size body + 2) k
code_temps hooks s p (loop ty body k) = code_temps hooks s (p + 1) body ++ code_temps hooks s (p + code_size body + 2) k
code_temps hooks s p (if_then ty body k) =
    open_temps hooks kinds.If ++ (code_temps hooks s (p + 1) body ++ code_temps hooks s (p + code_size body + 2) k)
code_temps hooks s p (if_else ty body other k) =
    open_temps hooks kinds.If ++ (code_temps hooks s (p + 1) body ++ (code_temps hooks s (p + code_size body + 2) other
    ++ code_temps hooks s (p + code_size body + code_size other + 3) k))

abbrev pub greatest : {A : Type 0} → (A → ℕ) → List A → ℕ
greatest f [] = 0
greatest f (x ∷ xs) = max (f x) (greatest f xs)

-- the temporaries come after the function's own locals, as many of each type as one template needs at most
abbrev pub pool_of : Hooks → Site → Pool
pool_of hooks s = record {
  base = length s.context.locals;
  ints = greatest ints_in (body_temps hooks s);
  longs = greatest longs_in (body_temps hooks s);
}
