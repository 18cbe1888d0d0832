-- Which key a name has.
use Rattle.std.specs.Prelude.{◌==◌, ◌&&◌, ℕ, Bool, List, [], ◌∷◌, cond, Option, Some, None, option_and_then, length, take, drop, codes, find, bytes_eq}
use Rattle.std.specs.Option.{option_map, option_or}
use Rattle.wasm_num.specs.declared.ValType.{ValType}
use Rattle.wasm_num.specs.declared.ValType.TheVariants.{I32, I64}
use Rattle.wasm_num.specs.Names.{num_name}
use Rattle.module_ast.specs.declared.ops.VarOp.TheVariants.{Get, Set, Tee}
use Rattle.module_ast.specs.Binary.{load_name, store_name, load_ops, store_ops}
use Rattle.wasm_num.specs.Kinds.{all_kinds, kind_name}
use Rattle.wasm_num.specs.Opcodes.{num_ops}
use Rattle.hook_mono.specs.declared.HookKey.{HookKey}
use Rattle.hook_mono.specs.declared.HookKey.TheVariants.{Plain, Begin, End, Const, Num, Drop, Select, Local, Global, Load, Store, CallPre, IndirectPre, CallPost, Return}
use Rattle.hook_mono.specs.Orders.{both_types}
use Rattle.hook_mono.specs.Plains.{plain_name, plain_groups}
use Rattle.hook_mono.specs.Keys.{is_proper}
use Rattle.hook_mono.specs.Names.{const_name, letters, name_of}

-- the one of these with this name
abbrev pub named : {A : Type 0} → (A → List ℕ) → List A → List ℕ → Option A
named name_of xs name = find (λ x. bytes_eq (name_of x) name) xs

-- what follows the head in a name that begins with it
abbrev pub strip : (head name : List ℕ) → Option (List ℕ)
strip head name = cond (bytes_eq (take (length head) name) head) (Some (drop (length head) name)) None

-- the type of a letter: i for i32, l for i64
abbrev pub letter_type : ℕ → Option ValType
letter_type b = cond (b == 105) (Some I32) (cond (b == 108) (Some I64) None)

abbrev pub letter_types : List ℕ → Option (List ValType)
letter_types [] = Some []
letter_types (b ∷ bs) = option_and_then (λ t. option_map (λ ts. t ∷ ts) (letter_types bs)) (letter_type b)

abbrev pub Reader : Type 0
Reader = List ℕ → Option HookKey

-- reads a name that has, after this head, the name of one of these, or the letters of a list of types
abbrev pub one_after : {A : Type 0} → (A → List ℕ) → List A → List ℕ → (A → HookKey) → Reader
one_after name_of xs head make name = option_map make (option_and_then (named name_of xs) (strip head name))

abbrev pub type_after : List ℕ → (ValType → HookKey) → Reader
type_after = one_after (λ t. letters (t ∷ [])) both_types

abbrev pub types_after : List ℕ → (List ValType → HookKey) → Reader
types_after head make name = option_map make (option_and_then letter_types (strip head name))

-- the key of the first reader that finds one
abbrev pub first_read : List Reader → Reader
first_read [] name = None
first_read (read ∷ readers) name = option_or (read name) (first_read readers name)

-- the readers of names of groups, constants and operations
abbrev pub fixed_readers : List Reader
fixed_readers =
    (λ name. option_map Plain (named plain_name plain_groups name))
    ∷ (λ name. option_map Const (named const_name both_types name))
    ∷ (λ name. option_map Num (named num_name num_ops name))
    ∷ (λ name. option_map Load (named load_name load_ops name))
    ∷ (λ name. option_map Store (named store_name store_ops name))
    ∷ []

-- the readers of names with the name of a kind of block, or with the letter of one type
abbrev pub part_readers : List Reader
part_readers =
    one_after kind_name all_kinds (codes "begin_") Begin
    ∷ one_after kind_name all_kinds (codes "end_") End
    ∷ type_after (codes "drop_") Drop
    ∷ type_after (codes "select_") Select
    ∷ type_after (codes "local.get_") (Local Get)
    ∷ type_after (codes "local.set_") (Local Set)
    ∷ type_after (codes "local.tee_") (Local Tee)
    ∷ type_after (codes "global.get_") (Global Get)
    ∷ type_after (codes "global.set_") (Global Set)
    ∷ []

-- the readers of names with the letters of a list of types
abbrev pub types_readers : List Reader
types_readers =
    types_after (codes "call_pre_") CallPre
    ∷ types_after (codes "call_indirect_pre_") IndirectPre
    ∷ types_after (codes "call_post_") CallPost
    ∷ types_after (codes "return_") Return
    ∷ []

-- the key that a name is read as
abbrev pub read_key : Reader
read_key name = option_or (first_read fixed_readers name) (option_or (first_read part_readers name) (first_read types_readers name))

-- whether a key is proper and has this name
abbrev pub has_name : List ℕ → HookKey → Bool
has_name name key = is_proper key && bytes_eq (name_of key) name

abbrev pub if_named : List ℕ → HookKey → Option HookKey
if_named name key = cond (has_name name key) (Some key) None

-- the key that has this name: what it is read as, if that is proper and has the name
abbrev pub key_named : Reader
key_named name = option_and_then (if_named name) (read_key name)
