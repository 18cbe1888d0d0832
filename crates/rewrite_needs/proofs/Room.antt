-- The room on the way over a body becomes what its templates need.
--     widened_more, widened_greatest, measured_last      lists of values in a row
--     entry, last_room, body_measured      from the entry of a function to its end
use Rattle.std.proofs.Common.{◌≡◌, List, [], ◌∷◌, ◌++◌, max, Bool, true, false, ◌&&◌, refl, sym, ap, ◌∙◌, arith}
use Rattle.std.proofs.lemmas.List.Sums.{fold-append}
use Rattle.wasm_sem.specs.Types.{ValType, Hooks}
use Rattle.wasm_num.specs.declared.BlockKind.TheVariants as kinds
use Rattle.module_ast.specs.Lists.{when}
use Rattle.module_ast.specs.Places.{ends_live}
use Rattle.hook_select.specs.declared.GroupName.TheVariants as groups
use Rattle.hook_select.specs.Groups.{has}
use Rattle.hook_mono.specs.Needed.{Site}
use Rattle.i64_split.specs.Split.{ints_in, longs_in}
use Rattle.rewrite_needs.specs.Temporaries.{greatest, close_temps, body_temps, code_temps}
use Rattle.rewrite_needs.specs.declared.pool.Measured.{Measured}
use Rattle.rewrite_needs.specs.declared.pool.Room.{Room}
use Rattle.rewrite_needs.specs.Room.{room_for, wider, widened, widened_where, no_room, behind_code}
use Rattle.rewrite_needs.proofs.TempsPlaced.{body_placed}

-- ---- lists in a row

widened_more : (r : Room) (xs ys : List (List ValType)) → widened (widened r xs) ys ≡ widened r (xs ++ ys)
widened_more r xs ys = sym (fold-append (λ (r : Room) (types : List ValType). wider r (room_for types)) r xs ys)

widened_greatest : (r : Room) (lists : List (List ValType)) → (let w = widened r lists in (w.ints ≡ max r.ints (greatest ints_in lists)) × (w.longs ≡ max r.longs (greatest longs_in lists)))
widened_greatest r [] = (omega arith, omega arith)
widened_greatest r (ts ∷ lists) =
    let h = widened_greatest (wider r (room_for ts)) lists in (omega (arith, h.0), omega (arith, h.1))

pub measured_last : (r : Room) (lists : List (List ValType)) → r ≡ widened no_room lists → (r.ints ≡ greatest ints_in lists) × (r.longs ≡ greatest longs_in lists)
measured_last r lists e =
    let h = widened_greatest no_room lists in
    let ints = ap (λ (r : Room). r.ints) e in
    let longs = ap (λ (r : Room). r.longs) e in
    (omega (arith, h.0), omega (arith, h.1))

-- ---- a function

both_when : (a b : Bool) (xs : List (List ValType)) → when (a && b) xs ≡ when a (when b xs)
both_when true b xs = refl
both_when false b xs = refl

abbrev pub entry : Measured
entry = record { room = record { ints = 0; longs = 0 }; live = true; position = 0 }

pub last_room : (end m : Measured) (w h : Bool) (rs ts : List ValType) → end ≡ m → w ≡ h → rs ≡ ts → widened_where (end.live && w) end.room rs ≡ widened_where (m.live && h) m.room ts
last_room end m w h rs ts a b c = λ i. widened_where ((a i).live && b i) (a i).room (c i)

-- where its end is live, enough for its results too
pub body_measured : (hooks : Hooks) (s : Site)
    → (let end = behind_code hooks s s.body.code entry in widened_where (end.live && has hooks groups.Return) end.room s.context.results) ≡ widened no_room (body_temps hooks s)
body_measured hooks s =
    let code = s.body.code in
    let all = code_temps hooks s 0 code in
    ap (widened (widened no_room all)) (both_when (ends_live true code) (has hooks groups.Return) (s.context.results ∷ []))
    ∙ widened_more no_room all (when (ends_live true code) (close_temps hooks s kinds.Function))
    ∙ ap (widened no_room) (sym (body_placed hooks s))
