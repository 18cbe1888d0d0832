-- A first byte, and what spells the rest, are a token; and no token begins behind the last of them.
use Rattle.std.proofs.Common.{◌≡◌, ℕ, suc, ◌+◌, ◌<◌, ◌≤◌, inl, inr, List, [], ◌∷◌, ◌++◌, length, refl, sym, ap, ◌∙◌, subst, length-append, arith}
use Rattle.std.specs.Prelude.{Bool, true, false, not, cond, nat_lt, ◌==◌, ◌&&◌, ◌||◌, Option, Some, None, find}
use Rattle.std.specs.List.{AllByRecursion}
use Rattle.std.specs.Option.{option_map_or}
use Rattle.std.proofs.lemmas.Bool.Decides.{nat_tests}
use Rattle.std.proofs.lemmas.Bool.{cases_lt, eqb-true, true≢false}
use Rattle.leb_binary.specs.Reading.{IsByte}
use Rattle.wasm_num.specs.declared.NumOp.{NumOp}
use Rattle.wasm_num.specs.declared.NumOp.TheVariants as nums
use Rattle.wasm_num.specs.Opcodes.{num_opcode, num_of_opcode}
use Rattle.wasm_num.proofs.Opcodes.{found_passes, num_exact, num_none}
use Rattle.module_ast.specs.declared.ops.LoadOp.{LoadOp}
use Rattle.module_ast.specs.declared.ops.LoadOp.TheVariants as loads
use Rattle.module_ast.specs.declared.ops.StoreOp.{StoreOp}
use Rattle.module_ast.specs.declared.ops.StoreOp.TheVariants as stores
use Rattle.module_ast.specs.Binary.{load_opcode, load_of_opcode, store_opcode, store_of_opcode, IsU32, IsMemArg, IsPlain, IsFloatOp, IsFloatAccess, Token, IsToken, plain_t, float_t, block_t, loop_t, if_t, else_t, end_t, Shape, nothing, bare, index, table, indirect, zero_byte, arg, small, wide, float_bare, float_arg, float_four, float_eight, block_s, loop_s, if_s, else_s, end_s, shape_at, listed, listed_shape, integer_shape, Spells, is_float_op, is_float_access}
use Rattle.module_ast.specs.declared.ops.MemArg.{MemArg}
use Rattle.leb_binary.specs.Leb.{IsFront, HasNoFront}
use Rattle.module_ast.specs.Structure.{Plain, unreachable, nop, br, br_if, br_table, return_, call, call_indirect, drop_, select, local_get, local_set, local_tee, global_get, global_set, load, store, memory_size, memory_grow, i32_const, i64_const, num}
use Rattle.module_ast.proofs.Opcodes.{load_exact, load_none, store_exact, store_none}
use Rattle.module_ast.proofs.Tokens.{told, token_none}

SoundFor : ℕ → Shape → Type 0
SoundFor b s = (rest : List ℕ) (t : Token) → Spells s rest t → IsToken (b ∷ rest) t

in_place : (b : ℕ) (rest : List ℕ) (t u : Token) → t ≡ u → IsToken (b ∷ rest) u → IsToken (b ∷ rest) t
in_place b rest t u e h = subst (λ v. IsToken (b ∷ rest) v) (sym e) h

on_bare : (b : ℕ) (p : Plain) → IsPlain (b ∷ []) p → SoundFor b (bare p)
unfolding SoundFor
on_bare b p h rest t (e, k) = in_place b rest t (plain_t p) k (subst (λ r. IsPlain (b ∷ r) p) (sym e) h)

on_index : (b : ℕ) (f : ℕ → Plain) → ((rest : List ℕ) (n : ℕ) → IsU32 rest n → IsPlain (b ∷ rest) (f n)) → SoundFor b (index f)
unfolding SoundFor
on_index b f h rest t (n, i, k) = in_place b rest t (plain_t (f n)) k (h rest n i)

on_arg : (b : ℕ) (f : MemArg → Plain) → ((rest : List ℕ) (m : MemArg) → IsMemArg rest m → IsPlain (b ∷ rest) (f m)) → SoundFor b (arg f)
unfolding SoundFor
on_arg b f h rest t (m, i, k) = in_place b rest t (plain_t (f m)) k (h rest m i)

on_zero : (b : ℕ) (p : Plain) → IsPlain (b ∷ 0 ∷ []) p → SoundFor b (zero_byte p)
unfolding SoundFor
on_zero b p h rest t (e, k) = in_place b rest t (plain_t p) k (subst (λ r. IsPlain (b ∷ r) p) (sym e) h)

on_nothing : (b : ℕ) → SoundFor b nothing
unfolding SoundFor
on_nothing b rest t h = absurd h

on_table : SoundFor 14 table
unfolding SoundFor
on_table rest t (ls, l, h, k) = in_place 14 rest t (plain_t (br_table ls l)) k (rest, refl, h)

on_indirect : SoundFor 17 indirect
unfolding SoundFor
on_indirect rest t (n, front, e, h, k) = in_place 17 rest t (plain_t (call_indirect n)) k (rest, refl, (front, e, h))

on_small : SoundFor 65 small
unfolding SoundFor
on_small rest t (z, h, k) = in_place 65 rest t (plain_t (i32_const z)) k (rest, refl, h)

on_wide : SoundFor 66 wide
unfolding SoundFor
on_wide rest t (z, h, k) = in_place 66 rest t (plain_t (i64_const z)) k (rest, refl, h)

on_four : SoundFor 67 float_four
unfolding SoundFor
on_four rest t (l, k) = in_place 67 rest t float_t k (inr (inr (inl (rest, l, refl))))

on_eight : SoundFor 68 float_eight
unfolding SoundFor
on_eight rest t (l, k) = in_place 68 rest t float_t k (inr (inr (inr (rest, l, refl))))

on_block_s : SoundFor 2 block_s
unfolding SoundFor
on_block_s rest t (ty, h, k) = in_place 2 rest t (block_t ty) k (rest, refl, h)

on_loop_s : SoundFor 3 loop_s
unfolding SoundFor
on_loop_s rest t (ty, h, k) = in_place 3 rest t (loop_t ty) k (rest, refl, h)

on_if_s : SoundFor 4 if_s
unfolding SoundFor
on_if_s rest t (ty, h, k) = in_place 4 rest t (if_t ty) k (rest, refl, h)

on_else_s : SoundFor 5 else_s
unfolding SoundFor
on_else_s rest t (e, k) = in_place 5 rest t else_t k (ap (λ r. 5 ∷ r) e)

on_end_s : SoundFor 11 end_s
unfolding SoundFor
on_end_s rest t (e, k) = in_place 11 rest t end_t k (ap (λ r. 11 ∷ r) e)

on_load : (b : ℕ) (op : LoadOp) → load_opcode op ≡ b → SoundFor b (arg (load op))
on_load b op e = subst (λ n. SoundFor n (arg (load op))) e (on_arg (load_opcode op) (load op) (λ rest m h. (rest, refl, h)))

on_store : (b : ℕ) (op : StoreOp) → store_opcode op ≡ b → SoundFor b (arg (store op))
on_store b op e = subst (λ n. SoundFor n (arg (store op))) e (on_arg (store_opcode op) (store op) (λ rest m h. (rest, refl, h)))

on_num : (b : ℕ) (op : NumOp) → num_opcode op ≡ b → SoundFor b (bare (num op))
on_num b op e = subst (λ n. SoundFor n (bare (num op))) e (on_bare (num_opcode op) (num op) refl)

and_so : {A B : Type 0} → A → B → A × B
and_so a b = (a, b)

-- each row of the list
listed_sound : AllByRecursion (λ row. SoundFor row.0 row.1) listed
listed_sound =
    and_so (on_bare 0 unreachable refl)
    (and_so (on_bare 1 nop refl)
    (and_so on_block_s
    (and_so on_loop_s
    (and_so on_if_s
    (and_so on_else_s
    (and_so on_end_s
    (and_so (on_index 12 br (λ rest n h. (rest, refl, h)))
    (and_so (on_index 13 br_if (λ rest n h. (rest, refl, h)))
    (and_so on_table
    (and_so (on_bare 15 return_ refl)
    (and_so (on_index 16 call (λ rest n h. (rest, refl, h)))
    (and_so on_indirect
    (and_so (on_bare 26 drop_ refl)
    (and_so (on_bare 27 select refl)
    (and_so (on_index 32 local_get (λ rest n h. (rest, refl, h)))
    (and_so (on_index 33 local_set (λ rest n h. (rest, refl, h)))
    (and_so (on_index 34 local_tee (λ rest n h. (rest, refl, h)))
    (and_so (on_index 35 global_get (λ rest n h. (rest, refl, h)))
    (and_so (on_index 36 global_set (λ rest n h. (rest, refl, h)))
    (and_so (on_zero 63 memory_size refl)
    (and_so (on_zero 64 memory_grow refl)
    (and_so on_small
    (and_so on_wide
    (and_so on_four
    (and_so on_eight
    tt)))))))))))))))))))))))))

-- what is found in a list has what all of it have
found_in : {A : Type 0} (P : A → Type 0) (p : A → Bool) (xs : List A) (x : A) → AllByRecursion P xs → find p xs ≡ Some x → P x
found_in P p [] x all h = cc
found_in P p (y ∷ ys) x all h = go (p y) h (found_in P p ys x all.1)
  where
    go : (b : Bool) → cond b (Some y) (find p ys) ≡ Some x → (find p ys ≡ Some x → P x) → P x
    go true h later = let is : y ≡ x = cc in subst P is all.0
    go false h later = later h

on_listed : (b : ℕ) (row : ℕ × Shape) → find (λ row. row.0 == b) listed ≡ Some row → SoundFor b row.1
on_listed b row h =
    subst (λ n. SoundFor n row.1) (eqb-true row.0 b (found_passes (λ row. row.0 == b) listed row h))
    (found_in (λ row. SoundFor row.0 row.1) (λ row. row.0 == b) listed row listed_sound h)

-- what holds of what is found, and where nothing is found, holds
chosen : {A : Type 0} (P : Shape → Type 0) (f : A → Shape) (o : Option A) (s : Shape) → ((x : A) → o ≡ Some x → P (f x)) → P s → P (option_map_or f o s)
chosen P f None s some none = none
chosen P f (Some x) s some none = some x refl

integer_sound : (b : ℕ) → SoundFor b (integer_shape b)
integer_sound b =
    chosen (SoundFor b) (λ op. arg (load op)) (load_of_opcode b) _ (λ op h. on_load b op (load_exact b op h))
    (chosen (SoundFor b) (λ op. arg (store op)) (store_of_opcode b) _ (λ op h. on_store b op (store_exact b op h))
    (chosen (SoundFor b) (λ op. bare (num op)) (num_of_opcode b) _ (λ op h. on_num b op (num_exact b op h))
    (chosen (SoundFor b) (λ row. row.1) (find (λ row. row.0 == b) listed) nothing (on_listed b) (on_nothing b))))

is_op : (b : ℕ) → is_float_op b ≡ true → IsFloatOp b
is_op b h = grind (arith, nat_tests)

is_access : (b : ℕ) → is_float_access b ≡ true → IsFloatAccess b
is_access b h = grind (arith, nat_tests)

sound_choice : (b : ℕ) (x y : Bool) → (x ≡ true → IsFloatOp b) → (y ≡ true → IsFloatAccess b) → SoundFor b (cond x float_bare (cond y float_arg (integer_shape b)))
unfolding SoundFor
sound_choice b true y f g rest t (e, k) = in_place b rest t float_t k (inl (b, f refl, ap (λ r. b ∷ r) e))
sound_choice b false true f g rest t (m, h, k) = in_place b rest t float_t k (inr (inl (b, m, g refl, (rest, refl, h))))
sound_choice b false false f g rest t h = integer_sound b rest t h

pub sound : (b : ℕ) (rest : List ℕ) (t : Token) → Spells (shape_at b) rest t → IsToken (b ∷ rest) t
unfolding SoundFor shape_at
sound b rest t h = sound_choice b (is_float_op b) (is_float_access b) (is_op b) (is_access b) rest t h

pub token_some : (b : ℕ) (bytes rest : List ℕ) (t : Token) → IsFront (Spells (shape_at b)) bytes rest t → IsFront IsToken (b ∷ bytes) rest t
token_some b bytes rest t (front, e, p) = (b ∷ front, ap (λ l. b ∷ l) e, sound b front t p)

-- no load, store or floating instruction has such an opcode
abbrev pub is_apart : ℕ → Bool
is_apart b = nat_lt b 0x28 || (nat_lt 0x3E b && nat_lt b 0x45) || nat_lt 0xBF b

load_not_apart : (op : LoadOp) → is_apart (load_opcode op) ≡ false
load_not_apart loads.I32Load = refl
load_not_apart op = refl

store_not_apart : (op : StoreOp) → is_apart (store_opcode op) ≡ false
store_not_apart stores.I32Store = refl
store_not_apart op = refl

apart_is_integer : (b : ℕ) → is_apart b ≡ true → shape_at b ≡ integer_shape b
unfolding shape_at
apart_is_integer b h =
    let first : is_float_op b ≡ false = grind (arith, nat_tests) in
    let second : is_float_access b ≡ false = grind (arith, nat_tests) in
    ap (λ c. cond c float_bare (cond (is_float_access b) float_arg (integer_shape b))) first ∙ ap (λ c. cond c float_arg (integer_shape b)) second

-- so where it is no number instruction, the list tells what it is
pub apart : (b : ℕ) → is_apart b ≡ true → num_of_opcode b ≡ None → shape_at b ≡ listed_shape b
apart b h no_num =
    let no_load = load_none b (λ op e. true≢false (sym h ∙ ap is_apart (sym e) ∙ load_not_apart op)) in
    let no_store = store_none b (λ op e. true≢false (sym h ∙ ap is_apart (sym e) ∙ store_not_apart op)) in
    apart_is_integer b h
    ∙ ap (λ o. option_map_or (λ op. arg (load op)) o (option_map_or (λ op. arg (store op)) (store_of_opcode b) (option_map_or (λ op. bare (num op)) (num_of_opcode b) (listed_shape b)))) no_load
    ∙ ap (λ o. option_map_or (λ op. arg (store op)) o (option_map_or (λ op. bare (num op)) (num_of_opcode b) (listed_shape b))) no_store
    ∙ ap (λ o. option_map_or (λ op. bare (num op)) o (listed_shape b)) no_num

-- number instructions have opcodes from the first one of a test on, each a byte
is_numbered : ℕ → Bool
is_numbered b = not (nat_lt b 0x45) && nat_lt b 256

numbered : (op : NumOp) → is_numbered (num_opcode op) ≡ true
unfolding is_numbered
numbered nums.I32Eqz = refl
numbered op = refl

unnumbered : (b : ℕ) → is_numbered b ≡ false → num_of_opcode b ≡ None
unnumbered b h = num_none b (λ op e. true≢false (sym (numbered op) ∙ ap is_numbered e ∙ h))

pub low_is_no_num : (b : ℕ) → b < 0x45 → num_of_opcode b ≡ None
unfolding is_numbered
low_is_no_num b h = unnumbered b (grind (arith, nat_tests))

-- no token begins with what is no byte
large : (b : ℕ) → 256 ≤ b → shape_at b ≡ nothing
unfolding is_numbered
large b h =
    apart b (grind (arith, nat_tests)) (unnumbered b (grind (arith, nat_tests)))
    ∙ chosen (λ s. s ≡ nothing) (λ row. row.1) (find (λ row. row.0 == b) listed) nothing (λ row found. absurd (too_large row found)) refl
  where
    too_large : (row : ℕ × Shape) → find (λ row. row.0 == b) listed ≡ Some row → ⊥
    too_large row found =
        let small : nat_lt row.0 256 ≡ true = found_in (λ row. nat_lt row.0 256 ≡ true) (λ row. row.0 == b) listed row ((refl, (refl, (refl, (refl, (refl, (refl, (refl, (refl, (refl, (refl, (refl, (refl, (refl, (refl, (refl, (refl, (refl, (refl, (refl, (refl, (refl, (refl, (refl, (refl, (refl, (refl, tt))))))))))))))))))))))))))) found in
        let is : row.0 ≡ b = eqb-true row.0 b (found_passes (λ row. row.0 == b) listed row found) in
        grind (arith, nat_tests)

-- a token behind its first byte
pub next_some : (bytes mid rest : List ℕ) (b : ℕ) (t : Token) → IsFront IsByte bytes mid b → IsFront (Spells (shape_at b)) mid rest t → IsFront IsToken bytes rest t
next_some bytes mid rest b t (f, e, i) h = subst (λ l. IsFront IsToken l rest t) (sym (e ∙ ap (λ l. l ++ mid) i.0)) (token_some b mid rest t h)

pub next_none : (bytes mid : List ℕ) (b : ℕ) → IsFront IsByte bytes mid b → HasNoFront (Spells (shape_at b)) mid → HasNoFront IsToken bytes
next_none bytes mid b (f, e, i) h = subst (HasNoFront IsToken) (sym (e ∙ ap (λ l. l ++ mid) i.0)) (token_none b mid h)

not_large : (b : ℕ) (rest : List ℕ) (t : Token) → Spells (shape_at b) rest t → 256 ≤ b → ⊥
not_large b rest t h l = let k : Spells nothing rest t = subst (λ s. Spells s rest t) (large b (omega arith)) h in k

pub next_end : (bytes : List ℕ) → HasNoFront IsByte bytes → HasNoFront IsToken bytes
next_end bytes h rest t (front, e, i) =
    let m = told front t i in
    elim (cases_lt m.first 256) [
      | inl l ↦ h (m.rest ++ rest) m.first (m.first ∷ [], e ∙ ap (λ l. l ++ rest) m.split, (refl, l))
      | inr g ↦ not_large m.first m.rest t m.spells g
    ]

-- a token takes a byte
pub token_shorter : (bytes rest : List ℕ) (t : Token) → IsFront IsToken bytes rest t → length rest < length bytes
token_shorter bytes rest t (front, e, i) =
    let m = told front t i in
    let l : length bytes ≡ suc (length m.rest + length rest) = ap length (e ∙ ap (λ l. l ++ rest) m.split) ∙ ap suc (length-append m.rest rest) in
    omega arith
