-- Code that pops operands into temporaries, and pushes them again.
use Rattle.std.proofs.Common.{◌≡◌, ℕ, ◌+◌, ◌<◌, List, [], ◌∷◌, ◌++◌, length, take, drop, get_or, refl, sym, ap, ◌∙◌, subst}
use Rattle.std.proofs.lemmas.List.{take_more, at_drop_more, map-append}
use Rattle.wasm_num.specs.declared.ValType.{ValType}
use Rattle.wasm_num.specs.declared.ValType.TheVariants.{I32, I64}
use Rattle.module_ast.specs.Structure.{instr_of, local_set}
use Rattle.module_ast.specs.declared.code.Instr.{Instr}
use Rattle.module_ast.specs.declared.code.Instr.TheVariants.{LocalGet, LocalSet}
use Rattle.i64_split.specs.declared.Pool.{Pool}
use Rattle.i64_split.specs.declared.Temp.{Temp}
use Rattle.i64_split.specs.Split.{pool_local, temps_from, ints_in, longs_in, word_code, words_code, sets, gets, save_code}
use Rattle.i64_split.specs.Pushing.{instrs, AddsPrefix}
use Rattle.i64_split.proofs.Adding.{adds_first}
use Rattle.i64_split.proofs.Temporaries.{take_next, temps_from-push_int, temps_from-push_long}

-- the last one is popped first
sets_last : (ts : List Temp) (t : Temp) → sets (ts ++ t ∷ []) ≡ local_set t.local ∷ sets ts
sets_last [] t = refl
sets_last (x ∷ ts) t = ap (λ l. l ++ local_set x.local ∷ []) (sets_last ts t)

pub next_set : (ts : List Temp) (k n : ℕ) (d : Temp) → n ≡ k + 1 → k < length ts → instrs (sets (take n ts)) ≡ LocalSet (get_or ts k d).local ∷ instrs (sets (take k ts))
next_set ts k n d e h = ap (λ m. instrs (sets (take m ts))) e ∙ ap (λ l. instrs (sets l)) (take_more ts k d h) ∙ ap instrs (sets_last (take k ts) (get_or ts k d))

-- of types: the last one's temporary is the one behind those of its type
pub next_set_int : (pool : Pool) (skip n : ℕ) (ts : List ValType) (k left : ℕ) (d : ValType) → left ≡ k + 1 → k < length ts → get_or ts k d ≡ I32 → n ≡ skip + ints_in (take k ts)
    → instrs (sets (temps_from pool skip 0 (take left ts))) ≡ LocalSet (pool_local pool I32 n) ∷ instrs (sets (temps_from pool skip 0 (take k ts)))
next_set_int pool skip n ts k left d e h is at =
    ap (λ l. instrs (sets (temps_from pool skip 0 l))) (take_next ts k left d I32 e h is)
    ∙ ap (λ l. instrs (sets l)) (temps_from-push_int pool skip 0 n (take k ts) at)
    ∙ ap instrs (sets_last (temps_from pool skip 0 (take k ts)) (record { ty = I32; local = pool_local pool I32 n }))

pub next_set_long : (pool : Pool) (skip n : ℕ) (ts : List ValType) (k left : ℕ) (d : ValType) → left ≡ k + 1 → k < length ts → get_or ts k d ≡ I64 → n ≡ 0 + longs_in (take k ts)
    → instrs (sets (temps_from pool skip 0 (take left ts))) ≡ LocalSet (pool_local pool I64 n) ∷ instrs (sets (temps_from pool skip 0 (take k ts)))
next_set_long pool skip n ts k left d e h is at =
    ap (λ l. instrs (sets (temps_from pool skip 0 l))) (take_next ts k left d I64 e h is)
    ∙ ap (λ l. instrs (sets l)) (temps_from-push_long pool skip 0 n (take k ts) at)
    ∙ ap instrs (sets_last (temps_from pool skip 0 (take k ts)) (record { ty = I64; local = pool_local pool I64 n }))

pub next_get_int : (pool : Pool) (a b a' b' : ℕ) (ts : List ValType) (k : ℕ) (d : ValType) → k < length ts → get_or ts k d ≡ I32 → a' ≡ a + 1 → b' ≡ b
    → instrs (gets (temps_from pool a b (drop k ts))) ≡ LocalGet (pool_local pool I32 a) ∷ instrs (gets (temps_from pool a' b' (drop (k + 1) ts)))
next_get_int pool a b a' b' ts k d h is e f =
    at_drop_more (λ l. instrs (gets (temps_from pool a b l))) ts k d h
    ∙ ap (λ t. instrs (gets (temps_from pool a b (t ∷ drop (k + 1) ts)))) is
    ∙ ap (λ n. LocalGet (pool_local pool I32 a) ∷ instrs (gets (temps_from pool n b (drop (k + 1) ts)))) (sym e)
    ∙ ap (λ n. LocalGet (pool_local pool I32 a) ∷ instrs (gets (temps_from pool a' n (drop (k + 1) ts)))) (sym f)

pub next_get_long : (pool : Pool) (a b a' b' : ℕ) (ts : List ValType) (k : ℕ) (d : ValType) → k < length ts → get_or ts k d ≡ I64 → a' ≡ a → b' ≡ b + 1
    → instrs (gets (temps_from pool a b (drop k ts))) ≡ LocalGet (pool_local pool I64 b) ∷ instrs (gets (temps_from pool a' b' (drop (k + 1) ts)))
next_get_long pool a b a' b' ts k d h is e f =
    at_drop_more (λ l. instrs (gets (temps_from pool a b l))) ts k d h
    ∙ ap (λ t. instrs (gets (temps_from pool a b (t ∷ drop (k + 1) ts)))) is
    ∙ ap (λ n. LocalGet (pool_local pool I64 b) ∷ instrs (gets (temps_from pool n (b + 1) (drop (k + 1) ts)))) (sym e)
    ∙ ap (λ n. LocalGet (pool_local pool I64 b) ∷ instrs (gets (temps_from pool a' n (drop (k + 1) ts)))) (sym f)

pub save_part : (old new : List Instr) (ts : List Temp) → AddsPrefix old new (instrs (sets ts)) → AddsPrefix old new (instrs (save_code ts))
save_part old new ts h = subst (AddsPrefix old new) (sym (map-append instr_of (sets ts) (gets ts))) (adds_first old new (instrs (sets ts)) (instrs (gets ts)) h)

-- the words of one temporary, and those that follow
pub next_words : (ts : List Temp) (k : ℕ) (d : Temp) → k < length ts → instrs (words_code (drop k ts)) ≡ instrs (word_code (get_or ts k d).ty (get_or ts k d).local) ++ instrs (words_code (drop (k + 1) ts))
next_words ts k d h = at_drop_more (λ l. instrs (words_code l)) ts k d h ∙ map-append instr_of (word_code (get_or ts k d).ty (get_or ts k d).local) (words_code (drop (k + 1) ts))
