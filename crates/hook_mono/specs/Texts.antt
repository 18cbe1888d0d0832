-- The names of hooks are ASCII, so they are texts.
use Rattle.std.specs.Prelude.{◌≡◌, List, [], ◌∷◌, ◌++◌, true, codes, refl}
use Rattle.leb_binary.specs.Ascii.{is_ascii}
use Rattle.leb_binary.proofs.Ascii.{ascii_both}
use Rattle.wasm_num.specs.declared.ValType.{ValType}
use Rattle.wasm_num.specs.declared.ValType.TheVariants.{I32, I64}
use Rattle.wasm_num.specs.declared.BlockKind.{BlockKind}
use Rattle.wasm_num.specs.declared.BlockKind.TheVariants as kinds
use Rattle.wasm_num.specs.declared.NumOp.{NumOp}
use Rattle.wasm_num.specs.declared.NumOp.TheVariants.{I32Eqz}
use Rattle.wasm_num.specs.Names.{num_name}
use Rattle.module_ast.specs.declared.ops.VarOp.{VarOp}
use Rattle.module_ast.specs.declared.ops.VarOp.TheVariants.{Get}
use Rattle.module_ast.specs.declared.ops.LoadOp.{LoadOp}
use Rattle.module_ast.specs.declared.ops.LoadOp.TheVariants.{I32Load}
use Rattle.module_ast.specs.declared.ops.StoreOp.{StoreOp}
use Rattle.module_ast.specs.declared.ops.StoreOp.TheVariants.{I32Store}
use Rattle.module_ast.specs.Binary.{load_name, store_name}
use Rattle.module_ast.specs.Texts.{Text}
use Rattle.module_ast.specs.Ascii.{ascii_text}
use Rattle.hook_select.specs.declared.GroupName.{GroupName}
use Rattle.hook_select.specs.declared.GroupName.TheVariants as groups
use Rattle.wasm_num.specs.Kinds.{kind_name}
use Rattle.hook_mono.specs.declared.HookKey.{HookKey}
use Rattle.hook_mono.specs.declared.HookKey.TheVariants as keys
use Rattle.hook_mono.specs.Names.{letters, var_name, name_of}
use Rattle.hook_mono.specs.Plains.{plain_name}

-- the parts of names are ASCII
plain_ascii : (g : GroupName) → is_ascii (plain_name g) ≡ true
plain_ascii groups.Start = refl
plain_ascii g = refl

kind_ascii : (k : BlockKind) → is_ascii (kind_name k) ≡ true
kind_ascii kinds.Function = refl
kind_ascii k = refl

num_ascii : (op : NumOp) → is_ascii (num_name op) ≡ true
num_ascii I32Eqz = refl
num_ascii op = refl

load_ascii : (op : LoadOp) → is_ascii (load_name op) ≡ true
load_ascii I32Load = refl
load_ascii op = refl

store_ascii : (op : StoreOp) → is_ascii (store_name op) ≡ true
store_ascii I32Store = refl
store_ascii op = refl

var_ascii : (op : VarOp) → is_ascii (var_name op) ≡ true
var_ascii Get = refl
var_ascii op = refl

letters_ascii : (ts : List ValType) → is_ascii (letters ts) ≡ true
letters_ascii [] = refl
letters_ascii (I32 ∷ ts) = letters_ascii ts
letters_ascii (I64 ∷ ts) = letters_ascii ts

-- the part of a variable's name that follows `local.` or `global.`
letter_ascii : (op : VarOp) (t : ValType) → is_ascii (var_name op ++ letters (t ∷ [])) ≡ true
letter_ascii op t = ascii_both (var_name op) (letters (t ∷ [])) (var_ascii op) (letters_ascii (t ∷ []))

pub name_ascii : (key : HookKey) → is_ascii (name_of key) ≡ true
name_ascii (keys.Plain g) = plain_ascii g
name_ascii (keys.Begin k) = ascii_both (codes "begin_") (kind_name k) refl (kind_ascii k)
name_ascii (keys.End k) = ascii_both (codes "end_") (kind_name k) refl (kind_ascii k)
name_ascii (keys.Const I32) = refl
name_ascii (keys.Const I64) = refl
name_ascii (keys.Num op) = num_ascii op
name_ascii (keys.Drop t) = ascii_both (codes "drop_") (letters (t ∷ [])) refl (letters_ascii (t ∷ []))
name_ascii (keys.Select t) = ascii_both (codes "select_") (letters (t ∷ [])) refl (letters_ascii (t ∷ []))
name_ascii (keys.Local op t) = ascii_both (codes "local.") (var_name op ++ letters (t ∷ [])) refl (letter_ascii op t)
name_ascii (keys.Global op t) = ascii_both (codes "global.") (var_name op ++ letters (t ∷ [])) refl (letter_ascii op t)
name_ascii (keys.Load op) = load_ascii op
name_ascii (keys.Store op) = store_ascii op
name_ascii (keys.CallPre ts) = ascii_both (codes "call_pre_") (letters ts) refl (letters_ascii ts)
name_ascii (keys.IndirectPre ts) = ascii_both (codes "call_indirect_pre_") (letters ts) refl (letters_ascii ts)
name_ascii (keys.CallPost ts) = ascii_both (codes "call_post_") (letters ts) refl (letters_ascii ts)
name_ascii (keys.Return ts) = ascii_both (codes "return_") (letters ts) refl (letters_ascii ts)

-- the name of a hook, as a text
abbrev pub hook_text : HookKey → Text
hook_text key = ascii_text (name_of key) (name_ascii key)
