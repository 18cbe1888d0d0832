-- How many temporaries of each type the templates of a body need at most, place by place.
use Rattle.std.specs.Prelude.{ℕ, ◌+◌, List, [], ◌∷◌, Bool, fold, max}
use Rattle.wasm_sem.specs.Types.{ValType, Instr, Hooks}
use Rattle.wasm_num.specs.declared.ValType.TheVariants.{I32, I64}
use Rattle.module_ast.specs.Lists.{when}
use Rattle.module_ast.specs.Structure.{plain_of, Tree}
use Rattle.module_ast.specs.Places.{code_size, ends_live}
use Rattle.hook_mono.specs.Needed.{Site}
use Rattle.i64_split.specs.Split.{ints_in, longs_in}
use Rattle.rewrite_needs.specs.Watching.{or_none}
use Rattle.rewrite_needs.specs.Temporaries.{plain_temps, code_temps}
use Rattle.rewrite_needs.specs.declared.pool.Measured.{Measured}
use Rattle.rewrite_needs.specs.declared.pool.Room.{Room}

-- room for values of these types at once
abbrev pub room_for : List ValType → Room
room_for types = record { ints = ints_in types; longs = longs_in types }

-- room for one value more
abbrev pub with_one : Room → ValType → Room
with_one r I32 = record r { ints = r.ints + 1 }
with_one r I64 = record r { longs = r.longs + 1 }

-- room that is enough for either
abbrev pub wider : Room → Room → Room
wider r more = record { ints = max r.ints more.ints; longs = max r.longs more.longs }

-- room that is enough for each of these lists too
abbrev pub widened : Room → List (List ValType) → Room
widened r lists = fold (λ r types. wider r (room_for types)) r lists

abbrev pub no_room : Room
no_room = record { ints = 0; longs = 0 }

-- the same for one list, if it is wanted
abbrev pub widened_where : Bool → Room → List ValType → Room
widened_where wanted r types = widened r (when wanted (types ∷ []))

-- ---- a place

abbrev pub instr_temps : Hooks → Site → (p : ℕ) → Instr → List (List ValType)
instr_temps hooks s p i = or_none (plain_temps hooks s p) (plain_of i)

-- ---- a body that is measured from a place on

-- after a sequence: room that is enough for its templates too, if it is live
abbrev pub behind_code : Hooks → Site → Tree → Measured → Measured
behind_code hooks s k m = record {
  room = widened m.room (when m.live (code_temps hooks s m.position k));
  live = ends_live m.live k;
  position = m.position + code_size k;
}

-- after the end of a part
abbrev pub behind_part : Hooks → Site → Tree → Measured → Measured
behind_part hooks s k m = record { room = (behind_code hooks s k m).room; live = m.live; position = m.position + code_size k + 1 }
