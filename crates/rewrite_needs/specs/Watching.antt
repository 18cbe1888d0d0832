-- What is told of an instruction that neither branches nor calls: a row for each.
use Rattle.std.specs.Prelude.{ℕ, List, [], ◌∷◌, ◌++◌, length, Bool, false, not, Option, None, Some}
use Rattle.wasm_sem.specs.Types.{ValType, Instr, HookKey, Hooks}
use Rattle.wasm_num.specs.declared.ValType.TheVariants.{I32}
use Rattle.wasm_num.specs.Shapes.{num_operands, num_result}
use Rattle.module_ast.specs.Validation.{load_type, store_type}
use Rattle.module_ast.specs.Lists.{when}
use Rattle.module_ast.specs.Places.{mark_at, type_of_local, type_of_global}
use Rattle.module_ast.specs.Structure.{plain_of, Plain, unreachable, nop, drop_, select, local_get, local_set, local_tee, global_get, global_set, load, store, memory_size, memory_grow, i32_const, i64_const, num}
use Rattle.hook_mono.specs.Keys.{is_wanted}
use Rattle.hook_mono.specs.Needed.{Site, plain_keys}
use Rattle.rewrite_needs.specs.declared.watching.Telling.{Telling}
use Rattle.rewrite_needs.specs.declared.watching.Telling.TheVariants.{Before, Int, Long, Local, Global, Dropped, Kept}
use Rattle.rewrite_needs.specs.declared.watching.Watch.{Watch}

-- what its hook call tells
abbrev pub telling : Site → (p : ℕ) → Plain → Option Telling
telling s p unreachable = Some Before
telling s p nop = Some Before
telling s p drop_ = let t = mark_at s.marks p in Some (Dropped t)
telling s p select = let t = mark_at s.marks p in Some (Kept None 3 (t ∷ t ∷ I32 ∷ []))
telling s p (local_get x) = Some (Local x (type_of_local s.context x))
telling s p (local_set x) = Some (Local x (type_of_local s.context x))
telling s p (local_tee x) = Some (Local x (type_of_local s.context x))
telling s p (global_get x) = Some (Global x (type_of_global s.context x))
telling s p (global_set x) = Some (Global x (type_of_global s.context x))
telling s p (load op m) = Some (Kept (Some m.offset) 1 (I32 ∷ load_type op ∷ []))
telling s p (store op m) = Some (Kept (Some m.offset) 2 (I32 ∷ store_type op ∷ []))
telling s p memory_size = Some (Kept None 0 (I32 ∷ []))
telling s p memory_grow = Some (Kept None 1 (I32 ∷ I32 ∷ []))
telling s p (i32_const z) = Some (Int z)
telling s p (i64_const z) = Some (Long z)
telling s p (num op) = Some (Kept None (length (num_operands op)) (num_operands op ++ num_result op ∷ []))
telling s p _ = None

-- told by the hook of the one key that the instruction needs
abbrev pub watch_by : Option Telling → List HookKey → Option Watch
watch_by None keys = None
watch_by (Some told) (key ∷ []) = Some (record { key = key; told = told })
watch_by (Some told) keys = None

abbrev pub watch : Site → (p : ℕ) → Plain → Option Watch
watch s p i = watch_by (telling s p i) (plain_keys s [] p i)

-- the same of an instruction of the program
abbrev pub watch_at : Site → (p : ℕ) → Option Plain → Option Watch
watch_at s p None = None
watch_at s p (Some i) = watch s p i

abbrev pub instr_watch : Site → (p : ℕ) → Instr → Option Watch
instr_watch s p i = watch_at s p (plain_of i)

-- the key, what is told, and whether the hook is there but is not called
abbrev pub watch_key : Option Watch → Option HookKey
watch_key None = None
watch_key (Some x) = Some x.key

abbrev pub watch_told : Option Watch → Option Telling
watch_told None = None
watch_told (Some x) = Some x.told

abbrev pub is_untold : Hooks → Option Watch → Bool
is_untold hooks None = false
is_untold hooks (Some x) = not (is_wanted hooks x.key)

-- the temporaries that it needs, if its hook is called
abbrev pub kept_temps : (wanted : Bool) → Telling → List (List ValType)
kept_temps wanted (Dropped t) = when wanted ((t ∷ []) ∷ [])
kept_temps wanted (Kept offset n types) = when wanted (types ∷ [])
kept_temps wanted _ = []

abbrev pub watch_temps : Hooks → Watch → List (List ValType)
watch_temps hooks x = kept_temps (is_wanted hooks x.key) x.told

-- the list of an instruction of the program. It is empty if the instruction has a sequence in it.
abbrev pub or_none : {A : Type 0} → (Plain → List A) → Option Plain → List A
or_none f None = []
or_none f (Some i) = f i
