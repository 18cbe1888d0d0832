-- What labels name, from the blocks that the program keeps.
use Rattle.std.proofs.Common.{◌≡◌, ℕ, zero, suc, ◌+◌, List, [], ◌∷◌, ◌++◌, map, take, refl, ap, ◌∙◌, false}
use Rattle.std.specs.Prelude.{unwrap_or}
use Rattle.std.proofs.lemmas.List.{take-map}
use Rattle.module_ast.specs.Places.{Scope, target_of, left_by}
use Rattle.branch_resolve.specs.declared.Block.{Block}
use Rattle.branch_resolve.specs.Scopes.{block_of, blocks_around, ends, end_of}
use Rattle.module_ast.specs.Lists.{when}
use Rattle.module_ast.specs.Structure.{i32_const}
use Rattle.hook_select.specs.declared.GroupName.TheVariants as groups
use Rattle.hook_select.specs.Groups.{has}
use Rattle.hook_mono.specs.declared.HookKey.TheVariants as keys
use Rattle.branch_resolve.specs.declared.EndOf.{EndOf}
use Rattle.rewrite.specs.Setting.{Setting, tell, tell_end, tell_ends}
use Rattle.rewrite.specs.Emitted.{target_word, block_ends_code}

target_around : (ss : List Scope) (l : ℕ) → target_word (blocks_around ss) l ≡ unwrap_or (target_of ss l) 0
target_around [] l = refl
target_around (s ∷ ss) zero = refl
target_around (s ∷ ss) (suc l) = target_around ss l

pub target_is : (bs : List Block) (ss : List Scope) (l : ℕ) → bs ≡ blocks_around ss → target_word bs l ≡ unwrap_or (target_of ss l) 0
target_is bs ss l e = ap (λ b. target_word b l) e ∙ target_around ss l

ends_around : (w : Setting) (ss : List Scope) → block_ends_code w (map end_of (blocks_around ss)) ≡ tell_ends w ss
ends_around w [] = refl
ends_around w (s ∷ ss) = ap (λ l. tell_end w s ++ l) (ends_around w ss)

pub all_is : (w : Setting) (bs : List Block) (ss : List Scope) → bs ≡ blocks_around ss → block_ends_code w (map end_of bs) ≡ tell_ends w ss
all_is w bs ss e = ap (λ b. block_ends_code w (map end_of b)) e ∙ ends_around w ss

left_around : (w : Setting) (ss : List Scope) (n : ℕ) → block_ends_code w (map end_of (take n (blocks_around ss))) ≡ tell_ends w (take n ss)
left_around w ss n = ap (λ bs. block_ends_code w (map end_of bs)) (take-map block_of n ss) ∙ ends_around w (take n ss)

pub left_is : (w : Setting) (bs : List Block) (ss : List Scope) (l : ℕ) → bs ≡ blocks_around ss → block_ends_code w (ends bs l) ≡ tell_ends w (left_by ss l)
left_is w bs ss l e = ap (λ b. block_ends_code w (ends b l)) e ∙ left_around w ss (l + 1)

-- where ends are not selected
pub no_ends : (w : Setting) (passed : List EndOf) → has w.hooks groups.End ≡ false → block_ends_code w passed ≡ []
no_ends w [] h = refl
no_ends w (b ∷ bs) h = ap (λ v. when v (tell w b.end (keys.End b.kind) (i32_const b.begin ∷ [])) ++ block_ends_code w bs) h ∙ no_ends w bs h
