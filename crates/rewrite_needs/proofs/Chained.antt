-- The blocks around the places of a body: each place finds the blocks that the one before it leaves.
use Rattle.std.proofs.Common.{◌≡◌, ℕ, ◌+◌, List, [], ◌∷◌, ◌++◌, map, length, length-append, Bool, true, ◌&&◌, refl, sym, subst, append_assoc, arith}
use Rattle.wasm_sem.specs.Types.{BlockKind}
use Rattle.wasm_num.specs.declared.BlockKind.TheVariants as kinds
use Rattle.module_ast.specs.Places.{Scope, function_scope, block_scope, loop_scope, if_scope, then_scope, else_scope, Opcode, enters, opens, alternates, closes, Place, at, code_size, ends_live, goes_on, code_places, places}
use Rattle.module_ast.specs.Structure.{Tree, done, plain, block, loop, if_then, if_else}
use Rattle.wasm_sem.proofs.Placed.{places_length}

abbrev pub kinds_of : List Scope → List BlockKind
kinds_of scopes = map (λ (s : Scope). s.kind) scopes

-- the kinds of the open blocks before an opcode inside these, and behind it
abbrev pub open_before : Opcode → List BlockKind → List BlockKind
open_before (alternates a b live) around = a.kind ∷ around
open_before (closes s) around = s.kind ∷ around
open_before _ around = around

abbrev pub open_behind : Opcode → List BlockKind → List BlockKind
open_behind enters around = kinds.Function ∷ around
open_behind (opens s) around = s.kind ∷ around
open_behind (alternates a b live) around = b.kind ∷ around
open_behind _ around = around

abbrev pub kinds_before : Place → List BlockKind
kinds_before x = open_before x.opcode (kinds_of x.scopes)

abbrev pub kinds_behind : Place → List BlockKind
kinds_behind x = open_behind x.opcode (kinds_of x.scopes)

-- places in a row, the first inside these open blocks
abbrev pub AreChained : List BlockKind → List Place → Type 0
AreChained ks [] = Unit {0}
AreChained ks (x ∷ xs) = (ks ≡ kinds_before x) × AreChained (kinds_behind x) xs

-- a part of a body, the place at its end, and those behind it
part_chained : (ks : List BlockKind) (xs : List Place) (y : Place) (ys rest : List Place) → ((zs : List Place) → AreChained (kinds_before y) zs → AreChained ks (xs ++ zs)) → AreChained (kinds_behind y) (ys ++ rest)
    → AreChained ks ((xs ++ y ∷ ys) ++ rest)
part_chained ks xs y ys rest inner behind = subst (AreChained ks) (sym (append_assoc xs (y ∷ ys) rest)) (inner (y ∷ (ys ++ rest)) (refl, behind))

pub code_chained : (scopes : List Scope) (live : Bool) (p : ℕ) (k : Tree) (rest : List Place) → AreChained (kinds_of scopes) rest → AreChained (kinds_of scopes) (code_places scopes live p k ++ rest)
code_chained scopes live p done rest h = h
code_chained scopes live p (plain i k) rest h = (refl, code_chained scopes (live && goes_on i) (p + 1) k rest h)
code_chained scopes live p (block ty body k) rest h =
    let s = block_scope p body in (
      refl,
      part_chained (s.kind ∷ kinds_of scopes) (code_places (s ∷ scopes) live (p + 1) body) (at s.end (ends_live live body) (closes s) scopes) (code_places scopes live (s.end + 1) k) rest
          (code_chained (s ∷ scopes) live (p + 1) body) (code_chained scopes live (s.end + 1) k rest h),
    )
code_chained scopes live p (loop ty body k) rest h =
    let s = loop_scope p body in (
      refl,
      part_chained (s.kind ∷ kinds_of scopes) (code_places (s ∷ scopes) live (p + 1) body) (at s.end (ends_live live body) (closes s) scopes) (code_places scopes live (s.end + 1) k) rest
          (code_chained (s ∷ scopes) live (p + 1) body) (code_chained scopes live (s.end + 1) k rest h),
    )
code_chained scopes live p (if_then ty body k) rest h =
    let s = if_scope p body in (
      refl,
      part_chained (s.kind ∷ kinds_of scopes) (code_places (s ∷ scopes) live (p + 1) body) (at s.end (ends_live live body) (closes s) scopes) (code_places scopes live (s.end + 1) k) rest
          (code_chained (s ∷ scopes) live (p + 1) body) (code_chained scopes live (s.end + 1) k rest h),
    )
code_chained scopes live p (if_else ty body other k) rest h =
    let a = then_scope p body other in
    let b = else_scope p body other in
    let others = code_places (b ∷ scopes) live (a.end + 1) other in
    let last = at b.end (ends_live live other) (closes b) scopes in
    let behind = code_places scopes live (b.end + 1) k in (
      refl,
      part_chained (a.kind ∷ kinds_of scopes) (code_places (a ∷ scopes) live (p + 1) body) (at a.end live (alternates a b (ends_live live body)) scopes) (others ++ last ∷ behind) rest
          (code_chained (a ∷ scopes) live (p + 1) body)
          (part_chained (b.kind ∷ kinds_of scopes) others last behind rest (code_chained (b ∷ scopes) live (a.end + 1) other) (code_chained scopes live (b.end + 1) k rest h)),
    )

-- the places of a body begin inside no block
pub places_chained : (code : Tree) → AreChained [] (places code)
places_chained code =
    let f = function_scope code in
    (refl, code_chained (f ∷ []) true 0 code (at f.end (ends_live true code) (closes f) [] ∷ []) (refl, tt))

-- how many places there are
pub body_count : (code : Tree) → length (places code) ≡ code_size code + 2
body_count code =
    let f = function_scope code in
    omega (arith, length-append (code_places (f ∷ []) true 0 code) (at f.end (ends_live true code) (closes f) [] ∷ []), places_length (f ∷ []) true 0 code)
