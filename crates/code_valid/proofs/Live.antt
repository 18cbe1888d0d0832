-- Where code is live each operand's type is known, and what is noted there is what the typed body has.
use Rattle.std.proofs.Common.{◌≡◌, ℕ, suc, ◌+◌, List, [], ◌∷◌, ◌++◌, length, map, max, Option, Some, None, Bool, true, false, ◌&&◌, refl, sym, ap, ap₂, ◌∙◌, subst, arith, slice_get}
use Rattle.std.specs.Prelude.{option_map, option_and_then}
use Rattle.wasm_num.specs.declared.ValType.{ValType}
use Rattle.wasm_num.specs.declared.ValType.TheVariants.{I32, I64}
use Rattle.module_ast.specs.declared.code.BlockType.{BlockType}
use Rattle.module_ast.specs.declared.module.GlobalType.{GlobalType}
use Rattle.module_ast.specs.declared.module.FuncType.{FuncType}
use Rattle.module_ast.specs.Structure.{Tree, done, plain, block, loop, if_then, if_else, Plain, unreachable, br_table, br_if, br, return_, call_indirect, call, drop_, select, local_get, local_set, local_tee, global_get, global_set, load, store, memory_size, memory_grow}
use Rattle.module_ast.specs.Places.{goes_on, code_size, ends_live, Mark, marks_at, HasMarks}
use Rattle.module_ast.specs.Validation.{load_type, load_width, store_type, store_width, Context, inside, block_type, push, TypesPlain, TypesCode}
use Rattle.code_valid.specs.Checking.{BlockStack, take_type, take_types, put_types, OperandEffect, refuses, turns, stops, drops, selects, with_some, effect_if, is_some_list, is_aligned, stack_effect, apply, same_types, only_if, ends_with, starting, block_effect, if_effect, check, place_marks, option_or, block_takes, if_takes, marks_of, height_of}
use Rattle.code_valid.specs.Instance.{known_types}
use Rattle.code_valid.proofs.Exact.{Typed, same_types_by, push_last, effect_sound, body_sound, check_exact}

-- ---- all types stay known

pop_known : (t : ValType) (s : List ValType) → take_type t (known_types (t ∷ s)) ≡ Some (known_types s)
pop_known I32 s = refl
pop_known I64 s = refl

pop_all_known : (ts s : List ValType) → take_types ts (known_types (push ts s)) ≡ Some (known_types s)
pop_all_known [] s = refl
pop_all_known (t ∷ ts) s = ap (option_and_then (take_type t)) (pop_all_known ts (t ∷ s)) ∙ pop_known t s

push_all_known : (ts s : List ValType) → put_types ts (known_types s) ≡ known_types (push ts s)
push_all_known [] s = refl
push_all_known (t ∷ ts) s = push_all_known ts (t ∷ s)

abbrev is_stop : OperandEffect → Bool
is_stop refuses = false
is_stop (turns takes leaves) = false
is_stop (stops takes) = true
is_stop drops = false
is_stop selects = false

select_known : (t : ValType) (below : List ValType) → apply selects (known_types (I32 ∷ t ∷ t ∷ below)) ≡ Some (known_types (t ∷ below))
select_known I32 below = refl
select_known I64 below = refl

apply_known : (e : OperandEffect) (s u : List ValType) → is_stop e ≡ false → Typed e s u → apply e (known_types s) ≡ Some (known_types u)
apply_known refuses s u n h = absurd h
apply_known (turns takes leaves) s u n (below, r, q) =
    ap (λ z. apply (turns takes leaves) (known_types z)) r ∙ ap (option_map (put_types leaves)) (pop_all_known takes below)
    ∙ ap (λ z. Some z) (push_all_known leaves below) ∙ ap (λ z. Some (known_types z)) (sym q)
apply_known (stops takes) s u n h = cc
apply_known drops s u n (t, r) = ap (λ z. apply drops (known_types z)) r
apply_known selects s u n (t, (below, r, q)) = ap (λ z. apply selects (known_types z)) r ∙ select_known t below ∙ ap (λ z. Some (known_types z)) (sym q)

some_goes : {A : Type 0} (f : A → OperandEffect) (o : Option A) → ((x : A) → is_stop (f x) ≡ false) → is_stop (with_some f o) ≡ false
some_goes f None h = refl
some_goes f (Some x) h = h x

guarded_goes : (b : Bool) (e : OperandEffect) → is_stop e ≡ false → is_stop (effect_if b e) ≡ false
guarded_goes true e h = h
guarded_goes false e h = refl

goes : (c : Context) (i : Plain) → goes_on i ≡ true → is_stop (stack_effect c i) ≡ false
goes c unreachable h = cc
goes c (br l) h = cc
goes c (br_if l) h = some_goes (λ ts. turns (ts ++ I32 ∷ []) ts) (slice_get c.labels l) (λ x. refl)
goes c (br_table ls l) h = cc
goes c return_ h = cc
goes c (call f) h =
    some_goes (λ x. with_some (λ (t : FuncType). turns t.params t.results) (slice_get c.types x)) (slice_get c.funcs f)
    (λ x. some_goes (λ (t : FuncType). turns t.params t.results) (slice_get c.types x) (λ y. refl))
goes c (call_indirect x) h =
    guarded_goes (is_some_list c.tables) (with_some (λ (t : FuncType). turns (t.params ++ I32 ∷ []) t.results) (slice_get c.types x))
    (some_goes (λ (t : FuncType). turns (t.params ++ I32 ∷ []) t.results) (slice_get c.types x) (λ y. refl))
goes c (local_get x) h = some_goes (λ t. turns [] (t ∷ [])) (slice_get c.locals x) (λ x. refl)
goes c (local_set x) h = some_goes (λ t. turns (t ∷ []) []) (slice_get c.locals x) (λ x. refl)
goes c (local_tee x) h = some_goes (λ t. turns (t ∷ []) (t ∷ [])) (slice_get c.locals x) (λ x. refl)
goes c (global_get x) h = some_goes (λ (g : GlobalType). turns [] (g.ty ∷ [])) (slice_get c.globals x) (λ x. refl)
goes c (global_set x) h =
    some_goes (λ (g : GlobalType). effect_if g.mutable (turns (g.ty ∷ []) [])) (slice_get c.globals x) (λ g. guarded_goes g.mutable (turns (g.ty ∷ []) []) refl)
goes c (load op m) h = guarded_goes (is_aligned c m (load_width op)) (turns (I32 ∷ []) (load_type op ∷ [])) refl
goes c (store op m) h = guarded_goes (is_aligned c m (store_width op)) (turns (I32 ∷ store_type op ∷ []) []) refl
goes c memory_size h = guarded_goes (is_some_list c.memories) (turns [] (I32 ∷ [])) refl
goes c memory_grow h = guarded_goes (is_some_list c.memories) (turns (I32 ∷ []) (I32 ∷ [])) refl
goes c i h = refl

pub step_known : (c : Context) (i : Plain) (s u : List ValType) → goes_on i ≡ true → TypesPlain c i s u → apply (stack_effect c i) (known_types s) ≡ Some (known_types u)
step_known c i s u h t = apply_known (stack_effect c i) s u (goes c i h) (effect_sound c i s u t)

-- ---- nothing is noted where code is not live

or_else_all : {A : Type 0} (d : A) (f : BlockStack → A) (o : Option BlockStack) → ((b : BlockStack) → f b ≡ d) → option_or d f o ≡ d
or_else_all d f None h = refl
or_else_all d f (Some b) h = h b

unseen : (p : ℕ) (i : Plain) (x y : List (Option ValType)) → place_marks false p i x y ≡ []
unseen p drop_ x y = refl
unseen p i x y = refl

typed_all : {A : Type 0} (d : A) (takes : FuncType → List ValType) (a : BlockStack) (f : FuncType → BlockStack → A) (o : Option FuncType)
    → ((t : FuncType) (b : BlockStack) → f t b ≡ d) → option_or d (λ (t : FuncType). option_or d (f t) (take_types (takes t) a)) o ≡ d
typed_all d takes a f None h = refl
typed_all d takes a f (Some t) h = or_else_all d (f t) (take_types (takes t) a) (h t)

-- what a branch to a block takes: the results, or the starts of a loop
abbrev label_results : FuncType → List ValType
label_results t = t.results

abbrev label_starts : FuncType → List ValType
label_starts t = t.params

-- what is noted of a block and behind it
abbrev block_notes : Context → (live : Bool) → (p : ℕ) → (label : FuncType → List ValType) → (body k : Tree) → FuncType → BlockStack → List Mark
block_notes c live p label body k t b =
    marks_of (inside c (label t)) live (p + 1) body (starting t) ++ marks_of c live (p + code_size body + 2) k (put_types t.results b)

abbrev else_notes : Context → (live : Bool) → (p : ℕ) → (body other k : Tree) → FuncType → BlockStack → List Mark
else_notes c live p body other k t b =
    marks_of (inside c t.results) live (p + 1) body (starting t)
    ++ marks_of (inside c t.results) live (p + code_size body + 2) other (starting t)
    ++ marks_of c live (p + code_size body + code_size other + 3) k (put_types t.results b)

abbrev block_most : Context → (live : Bool) → (below : ℕ) → (label : FuncType → List ValType) → (body k : Tree) → FuncType → BlockStack → ℕ
block_most c live below label body k t b =
    max (height_of (inside c (label t)) live (below + length b.ops) body (starting t)) (height_of c live below k (put_types t.results b))

abbrev else_most : Context → (live : Bool) → (below : ℕ) → (body other k : Tree) → FuncType → BlockStack → ℕ
else_most c live below body other k t b =
    max (max (height_of (inside c t.results) live (below + length b.ops) body (starting t)) (height_of (inside c t.results) live (below + length b.ops) other (starting t)))
    (height_of c live below k (put_types t.results b))

silent_marks : (c : Context) (p : ℕ) (k : Tree) (a : BlockStack) → marks_of c false p k a ≡ []
silent_marks c p done a = refl
silent_marks c p (plain i k) a = or_else_all [] (λ (b : BlockStack). place_marks false p i a.ops b.ops ++ marks_of c false (p + 1) k b) (apply (stack_effect c i) a) (λ b. ap₂ (λ x y. x ++ y) (unseen p i a.ops b.ops) (silent_marks c (p + 1) k b))
silent_marks c p (block ty body k) a =
    typed_all [] block_takes a (block_notes c false p label_results body k) (block_type c.types ty)
    (λ t b. ap₂ (λ x y. x ++ y) (silent_marks (inside c t.results) (p + 1) body (starting t)) (silent_marks c (p + code_size body + 2) k (put_types t.results b)))
silent_marks c p (loop ty body k) a =
    typed_all [] block_takes a (block_notes c false p label_starts body k) (block_type c.types ty)
    (λ t b. ap₂ (λ x y. x ++ y) (silent_marks (inside c t.params) (p + 1) body (starting t)) (silent_marks c (p + code_size body + 2) k (put_types t.results b)))
silent_marks c p (if_then ty body k) a =
    typed_all [] if_takes a (block_notes c false p label_results body k) (block_type c.types ty)
    (λ t b. ap₂ (λ x y. x ++ y) (silent_marks (inside c t.results) (p + 1) body (starting t)) (silent_marks c (p + code_size body + 2) k (put_types t.results b)))
silent_marks c p (if_else ty body other k) a =
    typed_all [] if_takes a (else_notes c false p body other k) (block_type c.types ty)
    (λ t b. ap₂ (λ x y. x ++ y)
    (ap₂ (λ x y. x ++ y) (silent_marks (inside c t.results) (p + 1) body (starting t)) (silent_marks (inside c t.results) (p + code_size body + 2) other (starting t)))
    (silent_marks c (p + code_size body + code_size other + 3) k (put_types t.results b)))

no_most : (a b : ℕ) → a ≡ 0 → b ≡ 0 → max a b ≡ 0
no_most a b h k = omega arith

silent_height : (c : Context) (below : ℕ) (k : Tree) (a : BlockStack) → height_of c false below k a ≡ 0
silent_height c below done a = refl
silent_height c below (plain i k) a = no_most 0 _ refl (or_else_all 0 (height_of c false below k) (apply (stack_effect c i) a) (λ b. silent_height c below k b))
silent_height c below (block ty body k) a =
    typed_all 0 block_takes a (block_most c false below label_results body k) (block_type c.types ty)
    (λ t b. no_most _ _ (silent_height (inside c t.results) (below + length b.ops) body (starting t)) (silent_height c below k (put_types t.results b)))
silent_height c below (loop ty body k) a =
    typed_all 0 block_takes a (block_most c false below label_starts body k) (block_type c.types ty)
    (λ t b. no_most _ _ (silent_height (inside c t.params) (below + length b.ops) body (starting t)) (silent_height c below k (put_types t.results b)))
silent_height c below (if_then ty body k) a =
    no_most 0 _ refl (typed_all 0 if_takes a (block_most c false below label_results body k) (block_type c.types ty)
    (λ t b. no_most _ _ (silent_height (inside c t.results) (below + length b.ops) body (starting t)) (silent_height c below k (put_types t.results b))))
silent_height c below (if_else ty body other k) a =
    no_most 0 _ refl (typed_all 0 if_takes a (else_most c false below body other k) (block_type c.types ty)
    (λ t b. no_most _ _
    (no_most _ _ (silent_height (inside c t.results) (below + length b.ops) body (starting t)) (silent_height (inside c t.results) (below + length b.ops) other (starting t)))
    (silent_height c below k (put_types t.results b))))

-- ---- one instruction

length_known : (s : List ValType) → length (map (λ t. Some t) s) ≡ length s
length_known [] = refl
length_known (t ∷ s) = ap suc (length_known s)

noted_known : (c : Context) (p : ℕ) (i : Plain) (s u : List ValType) → TypesPlain c i s u → place_marks true p i (known_types s).ops (known_types u).ops ≡ marks_at p i s
noted_known c p drop_ s u (t, (below, e, d)) = subst (λ z. place_marks true p drop_ (known_types z).ops (known_types u).ops ≡ marks_at p drop_ z) (sym e) refl
noted_known c p select s u (t, (below, e, d)) =
    ap (λ z. place_marks true p select (known_types s).ops (known_types z).ops) d ∙ ap (λ z. marks_at p select z) (sym e)
noted_known c p i s u h = refl

-- what is noted of an instruction that goes on, and of what follows
goes_marks : (c : Context) (p : ℕ) (i : Plain) (k : Tree) (s u : List ValType) → goes_on i ≡ true → TypesPlain c i s u → marks_of c true p (plain i k) (known_types s) ≡ marks_at p i s ++ marks_of c true (p + 1) k (known_types u)
goes_marks c p i k s u h t =
    ap (λ z. option_or [] (λ (b : BlockStack). place_marks true p i (known_types s).ops b.ops ++ marks_of c (true && z) (p + 1) k b) (apply (stack_effect c i) (known_types s))) h
    ∙ ap (option_or [] (λ (b : BlockStack). place_marks true p i (known_types s).ops b.ops ++ marks_of c true (p + 1) k b)) (step_known c i s u h t)
    ∙ ap (λ z. z ++ marks_of c true (p + 1) k (known_types u)) (noted_known c p i s u t)

goes_height : (c : Context) (below : ℕ) (i : Plain) (k : Tree) (s u : List ValType) → goes_on i ≡ true → TypesPlain c i s u → height_of c true below (plain i k) (known_types s) ≡ max (below + length s) (height_of c true below k (known_types u))
goes_height c below i k s u h t =
    ap (λ z. max (below + length (known_types s).ops) (option_or 0 (height_of c (true && z) below k) (apply (stack_effect c i) (known_types s)))) h
    ∙ ap (λ z. max (below + length (known_types s).ops) (option_or 0 (height_of c true below k) z)) (step_known c i s u h t)
    ∙ ap (λ z. max (below + z) (height_of c true below k (known_types u))) (length_known s)

unnoted : (p : ℕ) (i : Plain) (x y : List (Option ValType)) → goes_on i ≡ false → place_marks true p i x y ≡ []
unnoted p drop_ x y h = cc
unnoted p select x y h = cc
unnoted p i x y h = refl

stopped_marks : (c : Context) (p : ℕ) (i : Plain) (k : Tree) (s : List ValType) → goes_on i ≡ false → marks_of c true p (plain i k) (known_types s) ≡ []
stopped_marks c p i k s h =
    ap (λ z. option_or [] (λ (b : BlockStack). place_marks true p i (known_types s).ops b.ops ++ marks_of c (true && z) (p + 1) k b) (apply (stack_effect c i) (known_types s))) h
    ∙ or_else_all [] (λ (b : BlockStack). place_marks true p i (known_types s).ops b.ops ++ marks_of c false (p + 1) k b) (apply (stack_effect c i) (known_types s))
    (λ b. ap₂ (λ x y. x ++ y) (unnoted p i (known_types s).ops b.ops h) (silent_marks c (p + 1) k b))

max-zero : (a b n : ℕ) → a ≡ n → b ≡ 0 → max a b ≡ n
max-zero a b n h k = omega arith

stopped_height : (c : Context) (below : ℕ) (i : Plain) (k : Tree) (s : List ValType) → goes_on i ≡ false → height_of c true below (plain i k) (known_types s) ≡ below + length s
stopped_height c below i k s h =
    ap (λ z. max (below + length (known_types s).ops) (option_or 0 (height_of c (true && z) below k) (apply (stack_effect c i) (known_types s)))) h
    ∙ max-zero _ _ (below + length s) (ap (λ z. below + z) (length_known s)) (or_else_all 0 (height_of c false below k) (apply (stack_effect c i) (known_types s)) (λ b. silent_height c below k b))

-- ---- what a typed sequence has

-- what an instruction and what follows it have, by whether it goes on
abbrev pub PlainHas : Context → (below p : ℕ) → Plain → Tree → List ValType → List Mark → (height : ℕ) → Bool → Type 0
PlainHas c below p i k s marks height true =
    (between : List ValType) × (more : List Mark) × (most : ℕ)
    × TypesPlain c i s between × HasMarks c below (p + 1) k between more most
    × (marks ≡ marks_at p i s ++ more) × (height ≡ max (below + length s) most)
PlainHas c below p i k s marks height false = (marks ≡ []) × (height ≡ below + length s)

plain_has : (c : Context) (below p : ℕ) (i : Plain) (k : Tree) (s u : List ValType) → TypesPlain c i s u
    → HasMarks c below (p + 1) k u (marks_of c true (p + 1) k (known_types u)) (height_of c true below k (known_types u))
    → (b : Bool) → goes_on i ≡ b → PlainHas c below p i k s (marks_of c true p (plain i k) (known_types s)) (height_of c true below (plain i k) (known_types s)) b
plain_has c below p i k s u t h true e =
    (u, marks_of c true (p + 1) k (known_types u), height_of c true below k (known_types u), t, h, goes_marks c p i k s u e t, goes_height c below i k s u e t)
plain_has c below p i k s u t h false e = (stopped_marks c p i k s e, stopped_height c below i k s e)

-- a block of a known type whose starts are known
block_known : (t : FuncType) (s under : List ValType) → s ≡ push t.params under → take_types (block_takes t) (known_types s) ≡ Some (known_types under)
block_known t s under f = ap (λ z. take_types t.params (known_types z)) f ∙ pop_all_known t.params under

if_known : (t : FuncType) (s under : List ValType) → s ≡ I32 ∷ push t.params under → take_types (if_takes t) (known_types s) ≡ Some (known_types under)
if_known t s under f =
    ap (λ z. take_types (t.params ++ I32 ∷ []) (known_types z)) (f ∙ sym (push_last t.params I32 under)) ∙ pop_all_known (t.params ++ I32 ∷ []) under

found_in : {A : Type 0} (d : A) (takes : FuncType → List ValType) (a b : BlockStack) (t : FuncType) (f : FuncType → BlockStack → A) (o : Option FuncType)
    → o ≡ Some t → take_types (takes t) a ≡ Some b → option_or d (λ (t : FuncType). option_or d (f t) (take_types (takes t) a)) o ≡ f t b
found_in d takes a b t f o e g = ap (option_or d (λ (t : FuncType). option_or d (f t) (take_types (takes t) a))) e ∙ ap (option_or d (f t)) g

known_notes : (c : Context) (p : ℕ) (label takes : FuncType → List ValType) (ty : BlockType) (body k : Tree) (t : FuncType) (s under : List ValType)
    → block_type c.types ty ≡ Some t → take_types (takes t) (known_types s) ≡ Some (known_types under)
    → option_or [] (λ (t : FuncType). option_or [] (block_notes c true p label body k t) (take_types (takes t) (known_types s))) (block_type c.types ty)
    ≡ marks_of (inside c (label t)) true (p + 1) body (known_types (push t.params [])) ++ marks_of c true (p + code_size body + 2) k (known_types (push t.results under))
known_notes c p label takes ty body k t s under e g =
    found_in [] takes (known_types s) (known_types under) t (block_notes c true p label body k) (block_type c.types ty) e g
    ∙ ap₂ (λ x y. marks_of (inside c (label t)) true (p + 1) body x ++ marks_of c true (p + code_size body + 2) k y) (push_all_known t.params []) (push_all_known t.results under)

known_most : (c : Context) (below : ℕ) (label takes : FuncType → List ValType) (ty : BlockType) (body k : Tree) (t : FuncType) (s under : List ValType)
    → block_type c.types ty ≡ Some t → take_types (takes t) (known_types s) ≡ Some (known_types under)
    → option_or 0 (λ (t : FuncType). option_or 0 (block_most c true below label body k t) (take_types (takes t) (known_types s))) (block_type c.types ty)
    ≡ max (height_of (inside c (label t)) true (below + length under) body (known_types (push t.params []))) (height_of c true below k (known_types (push t.results under)))
known_most c below label takes ty body k t s under e g =
    found_in 0 takes (known_types s) (known_types under) t (block_most c true below label body k) (block_type c.types ty) e g
    ∙ ap₂ (λ n z. max (height_of (inside c (label t)) true (below + n) body (starting t)) (height_of c true below k z)) (length_known under) (push_all_known t.results under)
    ∙ ap (λ z. max (height_of (inside c (label t)) true (below + length under) body z) (height_of c true below k (known_types (push t.results under)))) (push_all_known t.params [])

known_else_notes : (c : Context) (p : ℕ) (ty : BlockType) (body other k : Tree) (t : FuncType) (s under : List ValType)
    → block_type c.types ty ≡ Some t → take_types (if_takes t) (known_types s) ≡ Some (known_types under)
    → option_or [] (λ (t : FuncType). option_or [] (else_notes c true p body other k t) (take_types (if_takes t) (known_types s))) (block_type c.types ty)
    ≡ marks_of (inside c t.results) true (p + 1) body (known_types (push t.params []))
    ++ marks_of (inside c t.results) true (p + code_size body + 2) other (known_types (push t.params []))
    ++ marks_of c true (p + code_size body + code_size other + 3) k (known_types (push t.results under))
known_else_notes c p ty body other k t s under e g =
    found_in [] if_takes (known_types s) (known_types under) t (else_notes c true p body other k) (block_type c.types ty) e g
    ∙ ap₂ (λ x y. marks_of (inside c t.results) true (p + 1) body x ++ marks_of (inside c t.results) true (p + code_size body + 2) other x ++ marks_of c true (p + code_size body + code_size other + 3) k y)
    (push_all_known t.params []) (push_all_known t.results under)

known_else_most : (c : Context) (below : ℕ) (ty : BlockType) (body other k : Tree) (t : FuncType) (s under : List ValType)
    → block_type c.types ty ≡ Some t → take_types (if_takes t) (known_types s) ≡ Some (known_types under)
    → option_or 0 (λ (t : FuncType). option_or 0 (else_most c true below body other k t) (take_types (if_takes t) (known_types s))) (block_type c.types ty)
    ≡ max (max (height_of (inside c t.results) true (below + length under) body (known_types (push t.params []))) (height_of (inside c t.results) true (below + length under) other (known_types (push t.params []))))
    (height_of c true below k (known_types (push t.results under)))
known_else_most c below ty body other k t s under e g =
    found_in 0 if_takes (known_types s) (known_types under) t (else_most c true below body other k) (block_type c.types ty) e g
    ∙ ap₂ (λ n z. max (max (height_of (inside c t.results) true (below + n) body (starting t)) (height_of (inside c t.results) true (below + n) other (starting t))) (height_of c true below k z))
    (length_known under) (push_all_known t.results under)
    ∙ ap (λ z. max (max (height_of (inside c t.results) true (below + length under) body z) (height_of (inside c t.results) true (below + length under) other z)) (height_of c true below k (known_types (push t.results under))))
    (push_all_known t.params [])

pub typed_marks : (c : Context) (below p : ℕ) (k : Tree) (s u : List ValType) → TypesCode c k s u → HasMarks c below p k s (marks_of c true p k (known_types s)) (height_of c true below k (known_types s))
typed_marks c below p done s u t = (refl, ap (λ z. below + z) (length_known s))
typed_marks c below p (plain i k) s u (m, t, r) = plain_has c below p i k s m t (typed_marks c below (p + 1) k m u r) (goes_on i) refl
typed_marks c below p (block ty body k) s u (t, under, e, f, b, r) =
    let d = inside c t.results in
    let q = p + code_size body + 2 in
    let g = block_known t s under f in (
      t,
      under,
      marks_of d true (p + 1) body (known_types (push t.params [])),
      marks_of c true q k (known_types (push t.results under)),
      height_of d true (below + length under) body (known_types (push t.params [])),
      height_of c true below k (known_types (push t.results under)),
      e,
      f,
      typed_marks d (below + length under) (p + 1) body (push t.params []) (push t.results []) b,
      typed_marks c below q k (push t.results under) u r,
      known_notes c p label_results block_takes ty body k t s under e g,
      known_most c below label_results block_takes ty body k t s under e g,
    )
typed_marks c below p (loop ty body k) s u (t, under, e, f, b, r) =
    let d = inside c t.params in
    let q = p + code_size body + 2 in
    let g = block_known t s under f in (
      t,
      under,
      marks_of d true (p + 1) body (known_types (push t.params [])),
      marks_of c true q k (known_types (push t.results under)),
      height_of d true (below + length under) body (known_types (push t.params [])),
      height_of c true below k (known_types (push t.results under)),
      e,
      f,
      typed_marks d (below + length under) (p + 1) body (push t.params []) (push t.results []) b,
      typed_marks c below q k (push t.results under) u r,
      known_notes c p label_starts block_takes ty body k t s under e g,
      known_most c below label_starts block_takes ty body k t s under e g,
    )
typed_marks c below p (if_then ty body k) s u (t, under, e, f, same, b, r) =
    let d = inside c t.results in
    let q = p + code_size body + 2 in
    let g = if_known t s under f in (
      t,
      under,
      marks_of d true (p + 1) body (known_types (push t.params [])),
      marks_of c true q k (known_types (push t.results under)),
      height_of d true (below + length under) body (known_types (push t.params [])),
      height_of c true below k (known_types (push t.results under)),
      e,
      f,
      typed_marks d (below + length under) (p + 1) body (push t.params []) (push t.results []) b,
      typed_marks c below q k (push t.results under) u r,
      known_notes c p label_results if_takes ty body k t s under e g,
      ap₂ (λ x y. max (below + x) y) (length_known s) (known_most c below label_results if_takes ty body k t s under e g),
    )
typed_marks c below p (if_else ty body other k) s u (t, under, e, f, b, b2, r) =
    let d = inside c t.results in
    let o = p + code_size body + 2 in
    let q = p + code_size body + code_size other + 3 in
    let g = if_known t s under f in (
      t,
      under,
      marks_of d true (p + 1) body (known_types (push t.params [])),
      marks_of d true o other (known_types (push t.params [])),
      marks_of c true q k (known_types (push t.results under)),
      height_of d true (below + length under) body (known_types (push t.params [])),
      height_of d true (below + length under) other (known_types (push t.params [])),
      height_of c true below k (known_types (push t.results under)),
      e,
      f,
      typed_marks d (below + length under) (p + 1) body (push t.params []) (push t.results []) b,
      typed_marks d (below + length under) o other (push t.params []) (push t.results []) b2,
      typed_marks c below q k (push t.results under) u r,
      known_else_notes c p ty body other k t s under e g,
      ap₂ (λ x y. max (below + x) y) (length_known s) (known_else_most c below ty body other k t s under e g),
    )

-- ---- nothing else is had

plain_unique : (c : Context) (below p : ℕ) (i : Plain) (k : Tree) (s : List ValType) (m : List Mark) (h : ℕ)
    → ((u : List ValType) (more : List Mark) (most : ℕ) → HasMarks c below (p + 1) k u more most → (more ≡ marks_of c true (p + 1) k (known_types u)) × (most ≡ height_of c true below k (known_types u)))
    → (b : Bool) → goes_on i ≡ b → PlainHas c below p i k s m h b → (m ≡ marks_of c true p (plain i k) (known_types s)) × (h ≡ height_of c true below (plain i k) (known_types s))
plain_unique c below p i k s m h ih true e (u, more, most, t, r, em, eh) =
    let x = ih u more most r in
    (em ∙ ap (λ z. marks_at p i s ++ z) x.0 ∙ sym (goes_marks c p i k s u e t), eh ∙ ap (λ z. max (below + length s) z) x.1 ∙ sym (goes_height c below i k s u e t))
plain_unique c below p i k s m h ih false e (em, eh) = (em ∙ sym (stopped_marks c p i k s e), eh ∙ sym (stopped_height c below i k s e))

pub marks_unique : (c : Context) (below p : ℕ) (k : Tree) (s : List ValType) (m : List Mark) (h : ℕ) → HasMarks c below p k s m h → (m ≡ marks_of c true p k (known_types s)) × (h ≡ height_of c true below k (known_types s))
marks_unique c below p done s m h (em, eh) = (em, eh ∙ ap (λ z. below + z) (sym (length_known s)))
marks_unique c below p (plain i k) s m h w = plain_unique c below p i k s m h (λ u more most r. marks_unique c below (p + 1) k u more most r) (goes_on i) refl w
marks_unique c below p (block ty body k) s m h (t, under, inner, more, high, most, e, f, hi, hk, em, eh) =
    let g = block_known t s under f in
    let x = marks_unique (inside c t.results) (below + length under) (p + 1) body (push t.params []) inner high hi in
    let y = marks_unique c below (p + code_size body + 2) k (push t.results under) more most hk in (
      em ∙ ap₂ (λ a b. a ++ b) x.0 y.0 ∙ sym (known_notes c p label_results block_takes ty body k t s under e g),
      eh ∙ ap₂ (λ a b. max a b) x.1 y.1 ∙ sym (known_most c below label_results block_takes ty body k t s under e g),
    )
marks_unique c below p (loop ty body k) s m h (t, under, inner, more, high, most, e, f, hi, hk, em, eh) =
    let g = block_known t s under f in
    let x = marks_unique (inside c t.params) (below + length under) (p + 1) body (push t.params []) inner high hi in
    let y = marks_unique c below (p + code_size body + 2) k (push t.results under) more most hk in (
      em ∙ ap₂ (λ a b. a ++ b) x.0 y.0 ∙ sym (known_notes c p label_starts block_takes ty body k t s under e g),
      eh ∙ ap₂ (λ a b. max a b) x.1 y.1 ∙ sym (known_most c below label_starts block_takes ty body k t s under e g),
    )
marks_unique c below p (if_then ty body k) s m h (t, under, inner, more, high, most, e, f, hi, hk, em, eh) =
    let g = if_known t s under f in
    let x = marks_unique (inside c t.results) (below + length under) (p + 1) body (push t.params []) inner high hi in
    let y = marks_unique c below (p + code_size body + 2) k (push t.results under) more most hk in (
      em ∙ ap₂ (λ a b. a ++ b) x.0 y.0 ∙ sym (known_notes c p label_results if_takes ty body k t s under e g),
      eh ∙ ap₂ (λ n z. max (below + n) z) (sym (length_known s)) (ap₂ (λ a b. max a b) x.1 y.1 ∙ sym (known_most c below label_results if_takes ty body k t s under e g)),
    )
marks_unique c below p (if_else ty body other k) s m h (t, under, one, two, more, high, higher, most, e, f, hi, ho, hk, em, eh) =
    let g = if_known t s under f in
    let x = marks_unique (inside c t.results) (below + length under) (p + 1) body (push t.params []) one high hi in
    let w = marks_unique (inside c t.results) (below + length under) (p + code_size body + 2) other (push t.params []) two higher ho in
    let y = marks_unique c below (p + code_size body + code_size other + 3) k (push t.results under) more most hk in (
      em ∙ ap₂ (λ a b. a ++ b) (ap₂ (λ a b. a ++ b) x.0 w.0) y.0 ∙ sym (known_else_notes c p ty body other k t s under e g),
      eh ∙ ap₂ (λ n z. max (below + n) z) (sym (length_known s)) (ap₂ (λ a b. max a b) (ap₂ (λ a b. max a b) x.1 w.1) y.1 ∙ sym (known_else_most c below ty body other k t s under e g)),
    )

-- ---- at a live end each type is known

ends_dead : (k : Tree) → ends_live false k ≡ true → ⊥
ends_dead done h = cc
ends_dead (plain i k) h = ends_dead k h
ends_dead (block ty body k) h = ends_dead k h
ends_dead (loop ty body k) h = ends_dead k h
ends_dead (if_then ty body k) h = ends_dead k h
ends_dead (if_else ty body other k) h = ends_dead k h

plain_live : (c : Context) (i : Plain) (k : Tree) (s m u : List ValType) → TypesPlain c i s m → (b : Bool) → goes_on i ≡ b → ends_live (true && b) k ≡ true → (ends_live true k ≡ true → check c k (known_types m) ≡ Some (known_types u)) → check c (plain i k) (known_types s) ≡ Some (known_types u)
plain_live c i k s m u t true e l ih = ap (option_and_then (check c k)) (step_known c i s m e t) ∙ ih l
plain_live c i k s m u t false e l ih = absurd (ends_dead k l)

pub live_known : (c : Context) (k : Tree) (s u : List ValType) → TypesCode c k s u → ends_live true k ≡ true → check c k (known_types s) ≡ Some (known_types u)
live_known c done s u t l = ap (λ z. Some (known_types z)) t
live_known c (plain i k) s u (m, t, r) l = plain_live c i k s m u t (goes_on i) refl l (λ l. live_known c k m u r l)
live_known c (block ty body k) s u (t, under, e, f, b, r) l =
    let d : FuncType → Context = λ t. inside c t.results in
    let next : FuncType → Option BlockStack = λ t. option_and_then (check c k) (apply (block_effect t) (known_types s)) in
    ap (option_and_then (λ (t : FuncType). only_if (ends_with t.results (check (d t) body (starting t))) (next t))) e
    ∙ ap (λ z. only_if z (next t)) (body_sound (d t) body t (check_exact (d t) body) b)
    ∙ ap (option_and_then (check c k)) (apply_known (block_effect t) s (push t.results under) refl (under, f, refl)) ∙ live_known c k (push t.results under) u r l
live_known c (loop ty body k) s u (t, under, e, f, b, r) l =
    let d : FuncType → Context = λ t. inside c t.params in
    let next : FuncType → Option BlockStack = λ t. option_and_then (check c k) (apply (block_effect t) (known_types s)) in
    ap (option_and_then (λ (t : FuncType). only_if (ends_with t.results (check (d t) body (starting t))) (next t))) e
    ∙ ap (λ z. only_if z (next t)) (body_sound (d t) body t (check_exact (d t) body) b)
    ∙ ap (option_and_then (check c k)) (apply_known (block_effect t) s (push t.results under) refl (under, f, refl)) ∙ live_known c k (push t.results under) u r l
live_known c (if_then ty body k) s u (t, under, e, f, same, b, r) l =
    let d : FuncType → Context = λ t. inside c t.results in
    let next : FuncType → Option BlockStack = λ t. option_and_then (check c k) (apply (if_effect t) (known_types s)) in
    ap (option_and_then (λ (t : FuncType). only_if (same_types t.params t.results) (only_if (ends_with t.results (check (d t) body (starting t))) (next t)))) e
    ∙ ap₂ (λ y z. only_if y (only_if z (next t))) (same_types_by t.params t.results same) (body_sound (d t) body t (check_exact (d t) body) b)
    ∙ ap (option_and_then (check c k)) (apply_known (if_effect t) s (push t.results under) refl (under, f ∙ sym (push_last t.params I32 under), refl)) ∙ live_known c k (push t.results under) u r l
live_known c (if_else ty body other k) s u (t, under, e, f, b, b2, r) l =
    let d : FuncType → Context = λ t. inside c t.results in
    let next : FuncType → Option BlockStack = λ t. option_and_then (check c k) (apply (if_effect t) (known_types s)) in
    ap (option_and_then (λ (t : FuncType). only_if (ends_with t.results (check (d t) body (starting t))) (only_if (ends_with t.results (check (d t) other (starting t))) (next t)))) e
    ∙ ap₂ (λ y z. only_if y (only_if z (next t))) (body_sound (d t) body t (check_exact (d t) body) b) (body_sound (d t) other t (check_exact (d t) other) b2)
    ∙ ap (option_and_then (check c k)) (apply_known (if_effect t) s (push t.results under) refl (under, f ∙ sym (push_last t.params I32 under), refl)) ∙ live_known c k (push t.results under) u r l
