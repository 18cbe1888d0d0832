-- A proper key is read from its name, so that two of them differ in their names.
use Rattle.std.proofs.Common.{◌≡◌, ◌&&◌, List, [], ◌∷◌, true≢false, cond, IsTrue, Some, None, option_and_then, refl, sym, ap, ap₂, subst, ◌∙◌}
use Rattle.std.specs.Option.{option_map, option_or}
use Rattle.std.specs.Cmp.Lexicographic.{bytes_decides}
use Rattle.wasm_num.specs.declared.ValType.{ValType}
use Rattle.wasm_num.specs.declared.ValType.TheVariants.{I32, I64}
use Rattle.wasm_num.specs.declared.BlockKind.TheVariants as kinds
use Rattle.wasm_num.specs.declared.NumOp.TheVariants.{I32Eqz}
use Rattle.module_ast.specs.declared.ops.LoadOp.TheVariants.{I32Load}
use Rattle.module_ast.specs.declared.ops.StoreOp.TheVariants.{I32Store}
use Rattle.module_ast.specs.declared.ops.VarOp.TheVariants.{Get, Set, Tee}
use Rattle.hook_select.specs.declared.GroupName.{GroupName}
use Rattle.hook_select.specs.declared.GroupName.TheVariants as groups
use Rattle.hook_mono.specs.declared.HookKey.{HookKey}
use Rattle.hook_mono.specs.declared.HookKey.TheVariants.{Plain, Begin, End, Const, Num, Drop, Select, Local, Global, Load, Store, CallPre, IndirectPre, CallPost, Return}
use Rattle.hook_mono.specs.Plains.{is_plain, plain_name}
use Rattle.hook_mono.specs.Keys.{IsProper}
use Rattle.hook_mono.specs.Names.{letters, name_of, NamesDiffer, NamesLeadBack}
use Rattle.hook_mono.specs.Reading.{read_key, if_named, key_named, letter_types}

abbrev IsRead : HookKey → Type 0
IsRead key = read_key (name_of key) ≡ Some key

-- types are read from their letters
letters_back : (ts : List ValType) → letter_types (letters ts) ≡ Some ts
letters_back [] = refl
letters_back (I32 ∷ ts) = ap (option_map (λ us. I32 ∷ us)) (letters_back ts)
letters_back (I64 ∷ ts) = ap (option_map (λ us. I64 ∷ us)) (letters_back ts)

-- a group that is a key by itself is read from the name of its hook
plain_back : (g : GroupName) → cond (is_plain g) (read_key (plain_name g)) None ≡ cond (is_plain g) (Some (Plain g)) None
plain_back groups.Start = refl
plain_back g = refl

-- each kind of key
plain_read : (g : GroupName) → IsTrue (is_plain g) → IsRead (Plain g)
plain_read g proper = subst (λ b. cond b (read_key (plain_name g)) None ≡ cond b (Some (Plain g)) None) proper (plain_back g)

type_read : (make : ValType → HookKey) → IsRead (make I32) → IsRead (make I64) → (t : ValType) → IsRead (make t)
type_read make i l I32 = i
type_read make i l I64 = l

is_read : (key : HookKey) → IsProper key → IsRead key
is_read (Plain g) proper = plain_read g proper
is_read (Begin kinds.Function) proper = refl
is_read (Begin kind) proper = refl
is_read (End kinds.Function) proper = refl
is_read (End kind) proper = refl
is_read (Const t) proper = type_read Const refl refl t
is_read (Num I32Eqz) proper = refl
is_read (Num op) proper = refl
is_read (Drop t) proper = type_read Drop refl refl t
is_read (Select t) proper = type_read Select refl refl t
is_read (Local Get t) proper = type_read (Local Get) refl refl t
is_read (Local Set t) proper = type_read (Local Set) refl refl t
is_read (Local Tee t) proper = type_read (Local Tee) refl refl t
is_read (Global Get t) proper = type_read (Global Get) refl refl t
is_read (Global Set t) proper = type_read (Global Set) refl refl t
is_read (Global Tee t) proper = absurd (true≢false (sym proper))
is_read (Load I32Load) proper = refl
is_read (Load op) proper = refl
is_read (Store I32Store) proper = refl
is_read (Store op) proper = refl
is_read (CallPre ts) proper = ap (λ o. option_or (option_map CallPre o) None) (letters_back ts)
is_read (IndirectPre ts) proper = ap (λ o. option_or (option_map IndirectPre o) None) (letters_back ts)
is_read (CallPost ts) proper = ap (λ o. option_or (option_map CallPost o) None) (letters_back ts)
is_read (Return ts) proper = ap (λ o. option_or (option_map Return o) None) (letters_back ts)

-- and has the name
pub reads_back : (key : HookKey) → IsProper key → key_named (name_of key) ≡ Some key
reads_back key proper =
    ap (option_and_then (if_named (name_of key))) (is_read key proper)
    ∙ ap₂ (λ a b. cond (a && b) (Some key) None) proper ((bytes_decides (name_of key) (name_of key)).1 refl)

some_same : (a b : HookKey) → Some a ≡ Some b → a ≡ b
some_same a b e = cc

pub names_differ : NamesDiffer
names_differ a b pa pb same = some_same a b (sym (reads_back a pa) ∙ ap key_named same ∙ reads_back b pb)

pub names_lead_back : NamesLeadBack
names_lead_back key None proper none = absurd (none key proper refl)
names_lead_back key (Some found) proper named = ap Some (names_differ found key named.0 proper named.1)
