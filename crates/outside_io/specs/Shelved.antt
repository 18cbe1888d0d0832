-- What a shelf and a sink in memory hold, and how the shelf answers a read.
use Rattle.std.specs.Prelude.{◌≡◌, ◌<◌, ◌≤◌, ◌⊎◌, ℕ, List, length, Option, Some, None, option_map, Result, Err, String, string_bytes, Vec}
use Rattle.std.specs.Result.{IsOkAnd}
use Rattle.std.specs.BTreeMap.{is_at}
use Rattle.std.specs.Map.{lookup}
use Rattle.std.specs.Ordering.{nat_cmp}
use Rattle.std.specs.Cmp.Lexicographic.{slice_cmp}
use Rattle.std.specs.declared.alloc.Global.{Global}
use Rattle.outside_io.specs.Calls.{CallCount}
use Rattle.outside_io.specs.Outside.{Contents, ShelfState, PrintState}
use Rattle.outside_io.specs.declared.outside.ReadFault.{ReadFault}
use Rattle.outside_io.specs.declared.outside.ReadFault.TheVariants.{Missing, TooLong, NoMemory}

-- a shelf in memory: its names with their bytes, its numbered calls, its counts of reads and writes, and of the faults of each
pub record ShelfInMemory : Type 0 where
  pub held : List (String Global × Vec ℕ Global)
  pub calls : CallCount
  pub reads : ℕ
  pub writes : ℕ
  pub read_faults : ℕ
  pub write_faults : ℕ

-- a sink in memory: what was printed, its numbered calls, and its counts of prints and of faults
pub record SinkInMemory : Type 0 where
  pub printed : List ℕ
  pub calls : CallCount
  pub prints : ℕ
  pub faults : ℕ

-- the bytes under each name
abbrev pub map_contents : List (String Global × Vec ℕ Global) → Contents
map_contents held name =
    option_map (λ bytes. bytes.items) (lookup (is_at (λ key. slice_cmp nat_cmp name (string_bytes key))) held)

-- the contents of a shelf in memory, which are known
abbrev pub contents_of : List (String Global × Vec ℕ Global) → Option Contents
contents_of held = Some (map_contents held)

-- what contracts see of a shelf in memory
abbrev pub seen_shelf : ShelfInMemory → ShelfState
seen_shelf s =
    record { contents = contents_of s.held; reads = s.reads; writes = s.writes; read_faults = λ name. s.read_faults; write_faults = s.write_faults }

-- what contracts see of a sink in memory: what was printed is known
abbrev pub seen_sink : SinkInMemory → PrintState
seen_sink s = record { text = Some s.printed; prints = s.prints; faults = s.faults }

-- the answer of a read that is not made to fail, by what is under the name and by the cap
abbrev pub AnswersRead : {Z : Type 0} → Option (List ℕ) → ℕ → Result (Vec ℕ Z) ReadFault → Type 0
AnswersRead None cap answer = answer ≡ Err Missing
AnswersRead (Some bytes) cap answer =
    ((cap < length bytes) × (answer ≡ Err (TooLong (length bytes))))
    ⊎ ((length bytes ≤ cap) × ((answer ≡ Err NoMemory) ⊎ IsOkAnd answer (λ copy. copy.items ≡ bytes)))
