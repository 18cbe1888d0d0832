-- What is found for a name is the proper key of that name.
use Rattle.std.proofs.Common.{◌≡◌, ◌&&◌, List, ℕ, Bool, true, false, true≢false, cond, Option, Some, None, Result, Ok, Err, IfOk, option_and_then, is_some, refl, sym, ap, subst, ◌∙◌}
use Rattle.std.specs.Str.{bytes_eq}
use Rattle.std.specs.Cmp.Lexicographic.{bytes_decides}
use Rattle.std.proofs.lemmas.Option.{option_and_then_some}
use Rattle.hook_mono.specs.declared.HookKey.{HookKey}
use Rattle.hook_mono.specs.Keys.{is_proper}
use Rattle.hook_mono.specs.Names.{name_of, IsNamed, IsKeyOf}
use Rattle.hook_mono.specs.Reading.{read_key, has_name, if_named, key_named}
use Rattle.hook_mono.proofs.Inverse.{reads_back}

pub has_named : (name : List ℕ) (key : HookKey) → has_name name key ≡ true → IsNamed name key
has_named name key e = by (is_proper key) refl e
  where
    by : (b : Bool) → is_proper key ≡ b → (b && bytes_eq (name_of key) name) ≡ true → IsNamed name key
    by true proper same = (proper, (bytes_decides (name_of key) name).0 same)
    by false proper same = cc

pub named_sound : (name : List ℕ) (key : HookKey) → key_named name ≡ Some key → IsNamed name key
named_sound name key e = option_and_then_some (if_named name) (read_key name) key e (λ k read passed. by k (has_name name k) refl passed)
  where
    by : (k : HookKey) (b : Bool) → has_name name k ≡ b → cond b (Some k) None ≡ Some key → IsNamed name key
    by k true has same = let one : k ≡ key = cc in subst (IsNamed name) one (has_named name k has)
    by k false has same = cc

pub read_is : (name : List ℕ) (o : Option HookKey) → o ≡ key_named name → IsKeyOf name o
read_is name None e = λ key proper same. true≢false (sym (ap is_some (e ∙ ap key_named (sym same) ∙ reads_back key proper)))
read_is name (Some key) e = named_sound name key (sym e)

-- what is kept of what was read
pub kept_is : {E : Type 0} (name : List ℕ) (read : Option HookKey) (r : Result (Option HookKey) E) → read ≡ read_key name
    → IfOk r (λ o. o ≡ option_and_then (if_named name) read) → IfOk r (IsKeyOf name)
kept_is name read (Ok o) e kept = read_is name o (kept ∙ ap (option_and_then (if_named name)) e)
kept_is name read (Err x) e kept = tt
