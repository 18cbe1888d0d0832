-- Marks on the bytes and values of a state, which are true for what comes from a source; and the warnings so far.
use Rattle.std.specs.Prelude.{ℕ, suc, ◌*◌, List, [], ◌∷◌, ◌++◌, map, take, drop, replicate, Option, Some, None, Bool, false, ◌==◌, slice_index_or, slice_set}
use Rattle.std.specs.List.{list_any}
use Rattle.wasm_sem.specs.Types.{Loc}
use Rattle.module_ast.specs.Lists.{first_or, when}
use Rattle.module_ast.specs.Memory.{page_size, overlay}
use Rattle.wasm_sem.specs.declared.HostWrite.{HostWrite}
use Rattle.shadow_replay.specs.declared.Warning.{Warning}

-- the imports whose results are marked, and the imports of which marked arguments are warned of
pub record Watch : Type 0 where
  pub sources : List ℕ
  pub sinks : List ℕ

-- A mark for each byte and each value. The operands of all labels of all frames are one list, topmost first; the locals
-- are a list for each frame, innermost first.
pub record Taint : Type 0 where
  pub memory : List Bool
  pub globals : List Bool
  pub locals : List (List Bool)
  pub operands : List Bool
  pub warnings : List Warning

-- ---- marks

abbrev pub is_watched : List ℕ → ℕ → Bool
is_watched fs f = list_any (λ g. g == f) fs

-- the same mark for each element
abbrev pub each_marked : {A : Type 0} → Bool → List A → List Bool
each_marked k xs = map (λ x. k) xs

abbrev pub some_marked : List Bool → Bool
some_marked ks = list_any (λ k. k) ks

abbrev pub nth_mark : List Bool → ℕ → Bool
nth_mark ks n = slice_index_or ks n false

-- ---- operands

-- takes the topmost `takes` marks, and pushes others
abbrev pub exchange : (takes : ℕ) → (pushed : List Bool) → Taint → Taint
exchange n ks t = record t { operands = ks ++ drop n t.operands }

-- takes the topmost `takes` marks, and pushes one that is set if one of them was
abbrev pub join : (takes : ℕ) → Taint → Taint
join n t = exchange n (some_marked (take n t.operands) ∷ []) t

-- ---- variables

abbrev pub local_mark : (index : ℕ) → Taint → Bool
local_mark x t = nth_mark (first_or t.locals []) x

abbrev pub set_first : (index : ℕ) → Bool → List (List Bool) → List (List Bool)
set_first x k [] = []
set_first x k (l ∷ ls) = slice_set l x k ∷ ls

abbrev pub mark_local : (index : ℕ) → Bool → Taint → Taint
mark_local x k t = record t { locals = set_first x k t.locals }

abbrev pub mark_global : (index : ℕ) → Bool → Taint → Taint
mark_global x k t = record t { globals = slice_set t.globals x k }

-- ---- memory

-- whether one of `width` bytes from an address on is marked
abbrev pub read_mark : (address width : ℕ) → Taint → Bool
read_mark a n t = some_marked (take n (drop a t.memory))

abbrev pub mark_bytes : (address width : ℕ) → Bool → Taint → Taint
mark_bytes a n k t = record t { memory = overlay a (replicate n k) t.memory }

abbrev pub add_pages : ℕ → Taint → Taint
add_pages n t = record t { memory = t.memory ++ replicate (n * page_size) false }

abbrev pub unmarked_by : List HostWrite → List Bool → List Bool
unmarked_by [] ks = ks
unmarked_by (w ∷ ws) ks = unmarked_by ws (overlay w.address (each_marked false w.bytes) ks)

-- what a host function writes is not marked
abbrev pub unmark_writes : List HostWrite → Taint → Taint
unmark_writes ws t = record t { memory = unmarked_by ws t.memory }

-- ---- frames

abbrev pub begin_frame : (locals : List Bool) → Taint → Taint
begin_frame ks t = record t { locals = ks ∷ t.locals }

abbrev pub end_frame : Taint → Taint
end_frame t = record t { locals = drop 1 t.locals }

-- with no frame there are no locals and no operands
abbrev pub no_frames : Taint → Taint
no_frames t = record t { locals = []; operands = [] }

-- ---- warnings

-- a warning for each marked argument; the first argument has this number
abbrev pub argument_warnings : Loc → («import» number : ℕ) → (args : List Bool) → List Warning
argument_warnings p f n [] = []
argument_warnings p f n (k ∷ ks) = when k (record { loc = p; «import» = f; argument = n } ∷ []) ++ argument_warnings p f (suc n) ks

-- a host function is called by an instruction, or by none
abbrev pub warnings_by : Watch → (func : ℕ) → (call : Option Loc) → (args : List Bool) → List Warning
warnings_by w f None ks = []
warnings_by w f (Some p) ks = when (is_watched w.sinks f) (argument_warnings p f 0 ks)

abbrev pub warn : Watch → Option Loc → («import» : ℕ) → (args : List Bool) → Taint → Taint
warn w p f ks t = record t { warnings = t.warnings ++ warnings_by w f p ks }
