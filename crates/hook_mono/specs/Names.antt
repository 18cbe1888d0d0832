-- The name of a hook.
use Rattle.std.specs.Prelude.{◌≡◌, ◌≢◌, Option, Some, None, ℕ, List, [], ◌∷◌, ◌++◌, codes, map}
use Rattle.wasm_num.specs.declared.ValType.{ValType}
use Rattle.wasm_num.specs.declared.ValType.TheVariants.{I32, I64}
use Rattle.module_ast.specs.declared.ops.VarOp.{VarOp}
use Rattle.module_ast.specs.declared.ops.VarOp.TheVariants.{Get, Set, Tee}
use Rattle.wasm_num.specs.Names.{num_name}
use Rattle.module_ast.specs.Binary.{load_name, store_name}
use Rattle.wasm_num.specs.Kinds.{kind_name}
use Rattle.hook_mono.specs.declared.HookKey.{HookKey}
use Rattle.hook_mono.specs.declared.HookKey.TheVariants.{Plain, Begin, End, Const, Num, Drop, Select, Local, Global, Load, Store, CallPre, IndirectPre, CallPost, Return}
use Rattle.hook_mono.specs.Plains.{plain_name}
use Rattle.hook_mono.specs.Keys.{IsProper}

-- i for i32, l for i64
abbrev pub letter : ValType → ℕ
letter I32 = 105
letter I64 = 108

abbrev pub letters : List ValType → List ℕ
letters ts = map letter ts

abbrev pub const_name : ValType → List ℕ
const_name I32 = codes "i32.const"
const_name I64 = codes "i64.const"

abbrev pub var_name : VarOp → List ℕ
var_name Get = codes "get_"
var_name Set = codes "set_"
var_name Tee = codes "tee_"

abbrev pub name_of : HookKey → List ℕ
name_of (Plain g) = plain_name g
name_of (Begin kind) = codes "begin_" ++ kind_name kind
name_of (End kind) = codes "end_" ++ kind_name kind
name_of (Const t) = const_name t
name_of (Num op) = num_name op
name_of (Drop t) = codes "drop_" ++ letter t ∷ []
name_of (Select t) = codes "select_" ++ letter t ∷ []
name_of (Local op t) = codes "local." ++ var_name op ++ letter t ∷ []
name_of (Global op t) = codes "global." ++ var_name op ++ letter t ∷ []
name_of (Load op) = load_name op
name_of (Store op) = store_name op
name_of (CallPre ts) = codes "call_pre_" ++ letters ts
name_of (IndirectPre ts) = codes "call_indirect_pre_" ++ letters ts
name_of (CallPost ts) = codes "call_post_" ++ letters ts
name_of (Return ts) = codes "return_" ++ letters ts

-- the key is proper and has this name
abbrev pub IsNamed : List ℕ → HookKey → Type 0
IsNamed name key = IsProper key × (name_of key ≡ name)

-- what is found for a name: the proper key with this name, or nothing if no proper key has it
abbrev pub IsKeyOf : List ℕ → Option HookKey → Type 0
IsKeyOf name None = (key : HookKey) → IsProper key → name_of key ≢ name
IsKeyOf name (Some key) = IsNamed name key

-- two proper keys with the same name are the same key
abbrev pub NamesDiffer : Type 0
NamesDiffer = (a b : HookKey) → IsProper a → IsProper b → name_of a ≡ name_of b → a ≡ b

-- for the name of a proper key nothing but that key is found
abbrev pub NamesLeadBack : Type 0
NamesLeadBack = (key : HookKey) (found : Option HookKey) → IsProper key → IsKeyOf (name_of key) found → found ≡ Some key
