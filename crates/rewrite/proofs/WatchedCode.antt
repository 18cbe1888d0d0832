-- The code of an instruction that is watched, and that of another.
use Rattle.std.proofs.Common.{◌≡◌, ℕ, List, [], ◌∷◌, ◌++◌, length, leb, Option, Some, None, IfSome, ℤ, pos, cond, true, false, refl, sym, ap, ◌∙◌, subst}
use Rattle.wasm_sem.specs.Types.{ValType, NumOp, Instr, HookKey}
use Rattle.i64_split.specs.declared.Temp.{Temp}
use Rattle.i64_split.specs.Split.{temps, words_code}
use Rattle.wasm_num.specs.Shapes.{num_operands, num_result}
use Rattle.wasm_num.specs.declared.NumOp.TheVariants.{I32Eqz}
use Rattle.module_ast.specs.Binary.{plain_bytes}
use Rattle.module_ast.specs.declared.code.Instr.TheVariants.{Block, Loop, If, IfElse, Call}
use Rattle.module_ast.specs.Places.{Scope}
use Rattle.module_ast.specs.Structure.{Tree, done, plain, Plain, unreachable, br, br_if, br_table, return_, call, call_indirect, local_get, global_get, i32_const, num, before, plain_of, instr_of}
use Rattle.module_ast.proofs.Plains.{the_plain}
use Rattle.index_remap.specs.declared.Remap.{Remap}
use Rattle.index_remap.specs.Remap.{map_tree}
use Rattle.hook_mono.specs.Keys.{is_wanted}
use Rattle.hook_mono.specs.Needed.{Site}
use Rattle.wasm_sem.proofs.Straight.{none_some}
use Rattle.rewrite_needs.specs.declared.watching.Telling.{Telling}
use Rattle.rewrite_needs.specs.declared.watching.Telling.TheVariants.{Before, Int, Local, Global, Kept}
use Rattle.rewrite_needs.specs.declared.watching.Watch.{Watch}
use Rattle.rewrite_needs.specs.Watching.{watch, watch_at, instr_watch, is_untold, or_none, kept_temps}
use Rattle.rewrite_needs.specs.Room.{instr_temps}
use Rattle.rewrite_needs.specs.Temporaries.{branch_temps}
use Rattle.rewrite_needs.proofs.Rows.{wanted, watched_temps, other_temps}
use Rattle.rewrite.specs.Setting.{Setting, wants, tell}
use Rattle.rewrite.specs.Templates.{told_by, told_code, branch_code, template_by, template}
use Rattle.rewrite.specs.Emitted.{HasRoom, template_of, branch_of}

-- Where the key is selected, the code, and the hook with `first` and the temporaries; else the instruction alone.
abbrev pub watch_code : Setting → (p : ℕ) → HookKey → (first : List Plain) → (List Temp → List Plain) → List ValType → Plain → List Plain
watch_code w p key first code types i =
    let ts = temps w.pool types in
    cond (wants w key) (code ts ++ tell w (pos p) key (first ++ words_code ts)) (i ∷ [])

-- ---- little is told of it

-- at most three temporaries are told, and an instruction on a variable is as long as the one that reads it
abbrev pub IsSmall : Telling → Plain → Type 0
IsSmall (Int z) i = length (plain_bytes i) ≡ length (plain_bytes (i32_const z))
IsSmall (Local x t) i = length (plain_bytes i) ≡ length (plain_bytes (local_get x))
IsSmall (Global x t) i = length (plain_bytes i) ≡ length (plain_bytes (global_get x))
IsSmall (Kept offset n types) i = leb (length types) 3 ≡ true
IsSmall told i = true ≡ true

num_small : (op : NumOp) → leb (length (num_operands op ++ num_result op ∷ [])) 3 ≡ true
num_small I32Eqz = refl
num_small op = refl

pub small : (s : Site) (p : ℕ) (i : Plain) → IfSome (watch s p i) (λ x. IsSmall x.told i)
small s p (br l) = tt
small s p (br_if l) = tt
small s p (br_table ls l) = tt
small s p return_ = tt
small s p (call f) = tt
small s p (call_indirect ty) = tt
small s p (num op) = num_small op
small s p i = refl

-- ---- a copy of it

abbrev first_plain : Tree → Plain
first_plain (plain i k) = i
first_plain k = unreachable

-- an instruction that stands as a plain one is that one
before_back : (i : Instr) (q : Plain) → before i done ≡ plain q done → i ≡ instr_of q
before_back (Block b a) q e = absurd (cc)
before_back (Loop b a) q e = absurd (cc)
before_back (If b a) q e = absurd (cc)
before_back (IfElse b a o) q e = absurd (cc)
before_back i q e = ap (λ t. instr_of (first_plain t)) e

-- one with its calls remapped is the same, since it calls nothing
pub copy_is : (r : Remap) (s : Site) (p : ℕ) (i copy : Instr) (x : Watch) → instr_watch s p i ≡ Some x → ((t : Tree) → before copy (map_tree r t) ≡ map_tree r (before i t))
    → (q : Plain) × (plain_of i ≡ Some q) × (copy ≡ instr_of q)
copy_is r s p (Block b a) copy x e h = absurd (none_some e)
copy_is r s p (Loop b a) copy x e h = absurd (none_some e)
copy_is r s p (If b a) copy x e h = absurd (none_some e)
copy_is r s p (IfElse b a o) copy x e h = absurd (none_some e)
copy_is r s p (Call f) copy x e h = absurd (none_some e)
copy_is r s p i copy x e h = (the_plain i, refl, before_back copy (the_plain i) (h done))

-- ---- its template

-- where its hook is not called, it stands alone
told_off : (w : Setting) (p : ℤ) (key : HookKey) (told : Telling) (i : Plain) → told_by false w p key told i ≡ i ∷ []
told_off w p key Before i = refl
told_off w p key told i = refl

module _ (w : Setting) (p : ℕ) where
  module _ (i : Instr) where
    pub watched_room : (x : Watch) → instr_watch w.site p i ≡ Some x → is_untold w.hooks (instr_watch w.site p i) ≡ false → HasRoom w.pool (instr_temps w.hooks w.site p i)
        → HasRoom w.pool (kept_temps true x.told)
    watched_room x e f h =
        let called = wanted w.hooks (instr_watch w.site p i) x e f in
        subst (HasRoom w.pool) (watched_temps w.site p w.hooks (plain_of i) x e ∙ ap (λ b. kept_temps b x.told) called) h

    pub other_room : instr_watch w.site p i ≡ None → HasRoom w.pool (instr_temps w.hooks w.site p i) → HasRoom w.pool (or_none (branch_temps w.hooks w.site) (plain_of i))
    other_room e h = subst (HasRoom w.pool) (other_temps w.site p w.hooks (plain_of i) e) h

    watched_template : (ss : List Scope) (x : Watch) (q : Plain) → plain_of i ≡ Some q → instr_watch w.site p i ≡ Some x → template_of w ss p i ≡ told_code w p x.key x.told q
    watched_template ss x q is e = ap (or_none (template w ss p)) is ∙ ap (template_by w ss p q) (sym (ap (watch_at w.site p) is) ∙ e)

    -- with its hook called, and without
    pub told_template : (ss : List Scope) (x : Watch) (q : Plain) → plain_of i ≡ Some q → instr_watch w.site p i ≡ Some x → is_untold w.hooks (instr_watch w.site p i) ≡ false
        → template_of w ss p i ≡ told_by true w (pos p) x.key x.told q
    told_template ss x q is e f = watched_template ss x q is e ∙ ap (λ b. told_by b w (pos p) x.key x.told q) (wanted w.hooks (instr_watch w.site p i) x e f)

    pub untold_template : (ss : List Scope) (x : Watch) (q : Plain) → plain_of i ≡ Some q → instr_watch w.site p i ≡ Some x → is_wanted w.hooks x.key ≡ false
        → template_of w ss p i ≡ q ∷ []
    untold_template ss x q is e f = watched_template ss x q is e ∙ ap (λ b. told_by b w (pos p) x.key x.told q) f ∙ told_off w (pos p) x.key x.told q

    pub other_template : (ss : List Scope) → instr_watch w.site p i ≡ None → branch_of w ss p i ≡ template_of w ss p i
    other_template ss e = go (plain_of i) e
      where
        go : (o : Option Plain) → watch_at w.site p o ≡ None → or_none (branch_code w ss p) o ≡ or_none (template w ss p) o
        go None e = refl
        go (Some q) e = ap (template_by w ss p q) (sym e)
