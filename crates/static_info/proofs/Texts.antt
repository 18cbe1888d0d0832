-- The value of information has no float, and is not deep.
use Rattle.std.proofs.Common.{◌≡◌, ℕ, ◌≤◌, ℤ, pos, negsuc, List, [], ◌∷◌, map, Bool, true, false, ◌||◌, Result, Ok, Err, IfOk, Some, Vec, Global, IsUtf8, refl, sym, ap, ap₂, ◌∙◌, subst, arith}
use Rattle.serde_json.specs.Data.{Data, depth, items_depth}
use Rattle.serde_json.specs.View.{items_of}
use Rattle.std.specs.declared.alloc.AllocError.{AllocError}
use Rattle.serde_json.specs.Written.{has_float, items_have_float, compact_text}
use Rattle.serde_json.specs.Read.{read, max_depth}
use Rattle.json_form.specs.Text.{IsText}
use Rattle.hook_select.specs.Groups.{groups_in}
use Rattle.branch_resolve.specs.declared.Block.{Block}
use Rattle.static_info.specs.declared.TableInfo.{TableInfo}
use Rattle.static_info.specs.declared.FuncInfo.{FuncInfo}
use Rattle.static_info.specs.declared.Info.{Info}
use Rattle.static_info.specs.Form.{IsWellFormed}
use Rattle.static_info.specs.Json.{count_data, number_data, text_data, block_data, table_data, body_data, func_data, group_data, hook_data, info_data, HoldInfo}

list_plain : {A : Type 0} (written : A → Data) → ((a : A) → has_float (written a) ≡ false) → (items : List A) → items_have_float (items_of (map written items)) ≡ false
list_plain written each [] = refl
list_plain written each (a ∷ items) = ap₂ (λ x y. x || y) (each a) (list_plain written each items)

list_shallow : {A : Type 0} (written : A → Data) (n : ℕ) → ((a : A) → depth (written a) ≤ n) → (items : List A) → items_depth (items_of (map written items)) ≤ n
list_shallow written n each [] = omega arith
list_shallow written n each (a ∷ items) = omega (arith, each a, list_shallow written n each items)

number_plain : (z : ℤ) → has_float (number_data z) ≡ false
number_plain (pos n) = refl
number_plain (negsuc n) = refl

block_plain : (b : Block) → has_float (block_data b) ≡ false
block_plain b = rw (number_plain b.begin, number_plain b.end, number_plain b.target)

table_plain : (t : TableInfo) → has_float (table_data t) ≡ false
table_plain t = rw (number_plain t.pos, list_plain count_data (λ n. refl) t.labels)

func_plain_at : (b : Bool) (f : FuncInfo) → items_have_float (items_of (body_data b f)) ≡ false
func_plain_at false f = refl
func_plain_at true f = rw (list_plain block_data block_plain f.blocks, list_plain table_data table_plain f.tables)

func_plain : (f : FuncInfo) → has_float (func_data f) ≡ false
func_plain f = func_plain_at f.defined f

pub info_plain : (info : Info) → has_float (info_data info) ≡ false
info_plain info =
    rw (
      list_plain text_data (λ s. refl) info.dropped,
      list_plain func_data func_plain info.functions,
      list_plain group_data (λ g. refl) (groups_in info.groups),
      list_plain hook_data (λ k. refl) info.hooks,
    )

block_shallow : (b : Block) → depth (block_data b) ≤ 1
block_shallow b = omega arith

table_shallow : (t : TableInfo) → depth (table_data t) ≤ 2
table_shallow t = let h = list_shallow count_data 0 (λ n. omega arith) t.labels in omega (arith, h)

func_shallow_at : (b : Bool) (f : FuncInfo) → items_depth (items_of (body_data b f)) ≤ 3
func_shallow_at false f = omega arith
func_shallow_at true f =
    let blocks = list_shallow block_data 1 block_shallow f.blocks in
    let tables = list_shallow table_data 2 table_shallow f.tables in
    omega (arith, blocks, tables)

func_shallow : (f : FuncInfo) → depth (func_data f) ≤ 4
func_shallow f = let h = func_shallow_at f.defined f in omega (arith, h)

pub info_shallow : (info : Info) → depth (info_data info) ≤ 127
info_shallow info =
    let dropped = list_shallow text_data 0 (λ s. omega arith) info.dropped in
    let functions = list_shallow func_data 4 func_shallow info.functions in
    let groups = list_shallow group_data 0 (λ g. omega arith) (groups_in info.groups) in
    let hooks = list_shallow hook_data 0 (λ k. omega arith) info.hooks in
    omega (arith, dropped, functions, groups, hooks)

-- The text of a value without floats is its compact text.
pub text_written : (r : Result (Vec ℕ Global) AllocError) (d e : Data) → d ≡ e → has_float e ≡ false
    → IfOk r (λ b. has_float d ≡ false → b.items ≡ compact_text d) → IfOk r (λ b. b.items ≡ compact_text e)
text_written (Ok b) d e is plain h = h (ap has_float is ∙ plain) ∙ ap compact_text is
text_written (Err fault) d e is plain h = tt

-- The text of a value that is not deep is read as the value.
pub text_read : (r : Result (Vec ℕ Global) AllocError) (d e : Data) → d ≡ e → depth e ≤ 127 → IfOk r (λ b. IsUtf8 b.items)
    → IfOk r (λ b. depth d ≤ max_depth → read b.items ≡ Some d) → IfOk r (λ b. IsText b.items e)
text_read (Ok b) d e is shallow utf8 h = record { utf8 = utf8; read = h (subst (λ x. depth x ≤ 127) (sym is) shallow) ∙ ap Some is }
text_read (Err fault) d e is shallow utf8 h = tt

-- So it holds the information.
pub text_holds : (r : Result (Vec ℕ Global) AllocError) (d : Data) (info : Info) → IsWellFormed info → d ≡ info_data info → IfOk r (λ b. IsUtf8 b.items)
    → IfOk r (λ b. depth d ≤ max_depth → read b.items ≡ Some d) → IfOk r (λ b. HoldInfo b.items info)
text_holds (Ok b) d info formed is utf8 h = (info_data info, text_read (Ok b) d (info_data info) is (info_shallow info) utf8 h, (formed, refl))
text_holds (Err fault) d info formed is utf8 h = tt
