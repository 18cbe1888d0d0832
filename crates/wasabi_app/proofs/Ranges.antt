-- The numbers of the events that hook calls are read as are of their sizes.
use Rattle.std.proofs.Common.{◌≡◌, ℕ, zero, suc, ◌+◌, ◌-◌, ◌^◌, ◌≤◌, ℤ, List, [], ◌∷◌, length, take, drop, filter, map, reverse, cond, nat_lt, option_and_then, Bool, true, false, All, IfSome, Option, Some, None, slice_get, refl, sym, subst, arith}
use Rattle.std.specs.Int.{w32, cast_signed}
use Rattle.std.specs.Prelude.{pos, negsuc, ◌≤ℤ◌}
use Rattle.std.specs.List.{AllByRecursion, slice_index}
use Rattle.std.proofs.lemmas.Int.{ints}
use Rattle.std.proofs.lemmas.List.{reverse-append}
use Rattle.std.proofs.lemmas.List.Elements.{All-nil, All-cons, All-head, All-tail, All-filter, All-from_recursion, All-map, All-push, All-take, All-weaker, recursion_from_All}
use Rattle.module_ast.specs.Validation.Limits.{deepest}
use Rattle.wasm_sem.specs.Types.{ValType, NumOp, Value, Loc, GroupName, Event, HookKey}
use Rattle.wasm_num.specs.declared.ValType.TheVariants as types
use Rattle.wasm_num.specs.declared.Value.TheVariants.{I32, I64}
use Rattle.wasm_num.specs.Shapes.{num_operands}
use Rattle.hook_select.specs.declared.GroupName.TheVariants as groups
use Rattle.hook_mono.specs.declared.HookKey.TheVariants as keys
use Rattle.hook_select.specs.Fields.{FieldType, place, number, signed, value, callee, values, Each}
use Rattle.hook_select.specs.Events.{Row, row_of, types_at, event_row}
use Rattle.hook_mono.specs.Told.{InKey, Told, event_told, values_told, word_fields, told_types, fields_from, told_event, num_told, plain_told, key_told}
use Rattle.hook_mono.specs.Values.{IsWord, AreWords, value_number, numbers, values_from, number_at}
use Rattle.hook_mono.specs.Words.{value_types}
use Rattle.hook_mono.proofs.TypesTold.{types_told}
use Rattle.branch_resolve.specs.declared.Block.{Block}
use Rattle.index_remap.specs.declared.Remap.{Remap}
use Rattle.index_remap.specs.Remap.{unmap_index}
use Rattle.wasm_sem.specs.Execution.{in_slot}
use Rattle.wasm_sem.specs.Typed.{HasType, HaveTypes}
use Rattle.wasm_sem.proofs.SoundCallees.{every_at}
use Rattle.static_info.specs.declared.TableInfo.{TableInfo}
use Rattle.static_info.specs.declared.FuncInfo.{FuncInfo}
use Rattle.static_info.specs.declared.Info.{Info}
use Rattle.static_info.specs.Form.{IsPosition, AreBlocksAfter, AreBlocks, IsDefined, IsWellFormed}
use Rattle.static_info.specs.Read.{info_remap, callee_in, chosen_label, contains, within_block, table_at, end_event, jump_events, table_events, known_events, func_events, found_events, is_selected, loc_of, hook_events, read_hook}
use Rattle.static_info.proofs.EventsTold.{events_told}
use Rattle.trace_file.specs.Fields.{FitsNumber, FitsSigned, FitsLocation, FitsValue, FitsCallee, FitFields}
use Rattle.trace_file.specs.Rows.{FitsRow, FitsEvent}
use Rattle.app_runs.proofs.FewEvents.{few_label, table_labels, formed_there}

-- ---- signed numbers

in_size : (z : ℤ) → negsuc (2 ^ 31 - 1) ≤ℤ z → z ≤ℤ pos (2 ^ 31 - 1) → FitsSigned z
in_size (pos n) l h = omega (arith, ints)
in_size (negsuc n) l h = omega (arith, ints)

signed_fits : (n : ℕ) → FitsNumber n → FitsSigned (cast_signed w32 n)
signed_fits n f = in_size (cast_signed w32 n) (omega (arith, ints)) (omega (arith, ints))

position_fits : (p : ℤ) → IsPosition p → FitsSigned p
position_fits p h = in_size p (omega (arith, ints, h.0)) (omega (arith, ints, h.1))

-- ---- words

-- so few that they can be counted, and each of 32 bits
pub record FitWords (ws : List ℕ) : Type 0 where
  pub few : FitsNumber (length ws)
  pub fit : AllByRecursion FitsNumber ws

pub numbers_fit : (ts : List ValType) (vs : List Value) → AreWords vs → HaveTypes ts vs → AllByRecursion FitsNumber (numbers vs)
numbers_fit [] [] words have = tt
numbers_fit [] (v ∷ vs) words have = absurd have
numbers_fit (t ∷ ts) [] words have = absurd have
numbers_fit (t ∷ ts) (v ∷ vs) words have = (one t v (All-head IsWord v vs words) have.0, numbers_fit ts vs (All-tail IsWord v vs words) have.1)
  where
    one : (t : ValType) (v : Value) → IsWord v → HasType t v → FitsNumber (value_number v)
    one types.I32 (I32 n) w h = h
    one types.I64 (I32 n) w h = absurd h
    one t (I64 n) w h = absurd w

index_fits : (ws : List ℕ) (i : ℕ) → AllByRecursion FitsNumber ws → FitsNumber (slice_index ws i)
index_fits [] i fit = omega arith
index_fits (w ∷ ws) zero fit = fit.0
index_fits (w ∷ ws) (suc i) fit = index_fits ws i fit.1

rest_fit : (n : ℕ) (ws : List ℕ) → FitWords ws → FitWords (drop n ws)
rest_fit zero ws h = h
rest_fit (suc n) [] h = h
rest_fit (suc n) (w ∷ ws) h = rest_fit n ws (record { few = omega (arith, h.few); fit = h.fit.1 })

place_fits : (ws : List ℕ) → FitWords ws → FitsLocation (loc_of ws)
place_fits ws h = (index_fits ws 0 h.fit, signed_fits (slice_index ws 1) (index_fits ws 1 h.fit))

-- ---- values

-- these are of the first of these types
abbrev HaveFirst : List ValType → List Value → Type 0
HaveFirst ts [] = Unit {0}
HaveFirst [] (v ∷ vs) = ⊥
HaveFirst (t ∷ ts) (v ∷ vs) = HasType t v × HaveFirst ts vs

-- and so few that they can be counted
record AreFirst (ts : List ValType) (vs : List Value) : Type 0 where
  first : HaveFirst ts vs
  few : FitsNumber (length vs)

have_first : (ts : List ValType) (ws : List ℕ) → AllByRecursion FitsNumber ws → HaveFirst ts (values_from ts ws)
have_first [] ws fit = tt
have_first (types.I32 ∷ ts) [] fit = tt
have_first (types.I32 ∷ ts) (w ∷ ws) fit = (fit.0, have_first ts ws fit.1)
have_first (types.I64 ∷ ts) [] fit = tt
have_first (types.I64 ∷ ts) (low ∷ []) fit = tt
have_first (types.I64 ∷ ts) (low ∷ (high ∷ ws)) fit = (omega (arith, fit.0, fit.1.0), have_first ts ws fit.1.1)

values_few : (ts : List ValType) (ws : List ℕ) → length (values_from ts ws) ≤ length ws
values_few [] ws = omega arith
values_few (types.I32 ∷ ts) [] = omega arith
values_few (types.I32 ∷ ts) (w ∷ ws) = omega (arith, values_few ts ws)
values_few (types.I64 ∷ ts) [] = omega arith
values_few (types.I64 ∷ ts) (low ∷ []) = omega arith
values_few (types.I64 ∷ ts) (low ∷ (high ∷ ws)) = omega (arith, values_few ts ws)

value_fits : (t : ValType) (v : Value) → HasType t v → FitsValue v
value_fits types.I32 (I32 n) h = h
value_fits types.I32 (I64 n) h = absurd h
value_fits types.I64 (I32 n) h = absurd h
value_fits types.I64 (I64 n) h = h

each_fits : (ts : List ValType) (vs : List Value) → HaveFirst ts vs → AllByRecursion FitsValue vs
each_fits ts [] h = tt
each_fits [] (v ∷ vs) h = absurd h
each_fits (t ∷ ts) (v ∷ vs) h = (value_fits t v h.0, each_fits ts vs h.1)

are_first : (ts : List ValType) (ws : List ℕ) → FitWords ws → AreFirst ts (values_from ts ws)
are_first ts ws h = record { first = have_first ts ws h.fit; few = omega (arith, values_few ts ws, h.few) }

-- a word among them
word_fits : (v : Value) → HasType types.I32 v → FitsNumber (value_number v)
word_fits (I32 n) h = h
word_fits (I64 n) h = absurd h

first_word : (ts : List ValType) (vs : List Value) → HaveFirst (types.I32 ∷ ts) vs → FitsNumber (number_at vs 0)
first_word ts [] h = omega arith
first_word ts (v ∷ vs) h = word_fits v h.0

-- ---- functions in slots

-- each slot's function has an index of 32 bits
abbrev pub FitSlots : List (Option ℕ) → Type 0
FitSlots slots = All (λ slot. IfSome slot FitsNumber) slots

unmapped_fits : (r : Remap) (f : ℕ) → FitsNumber f → FitsCallee (unmap_index r f)
unmapped_fits r f fit = by (nat_lt f r.imports) (nat_lt f (r.imports + r.added))
  where
    by : (imported hook : Bool) → FitsCallee (cond imported (Some f) (cond hook None (Some (f - r.added))))
    by true hook = fit
    by false true = tt
    by false false = omega (arith, fit)

callee_fits : (info : Info) (slots : List (Option ℕ)) (slot : ℕ) → FitSlots slots → FitsCallee (callee_in info slots slot)
callee_fits info slots slot fit = by (slice_get slots slot) refl
  where
    by : (o : Option (Option ℕ)) → slice_get slots slot ≡ o → FitsCallee (option_and_then (unmap_index (info_remap info)) (in_slot o))
    by None e = tt
    by (Some None) e = tt
    by (Some (Some f)) e =
        let P : Option ℕ → Type 0 = λ s. IfSome s FitsNumber in
        unmapped_fits (info_remap info) f (every_at P slots slot (Some f) (recursion_from_All P slots fit) e)

-- ---- the events of a key

abbrev pub Fit : List Event → Type 0
Fit es = AllByRecursion FitsEvent es

module _ (at : ℕ → Option ℕ) (called : (slot : ℕ) → FitsCallee (at slot)) (loc : Loc) (there : FitsLocation loc) where
  fields_fit : (slot : ℕ) (ts : List FieldType) (key : Each InKey ts) (vs : List Value) → HaveFirst (word_fields ts key) vs → FitsNumber (length vs) → FitFields ts (fields_from at loc slot ts key vs)
  fields_fit slot [] key vs h few = tt
  fields_fit slot (place ∷ ts) key vs h few = (there, fields_fit slot ts key.1 vs h few)
  fields_fit slot (number ∷ ts) key [] h few = (omega arith, fields_fit 0 ts key.1 [] tt few)
  fields_fit slot (number ∷ ts) key (v ∷ vs) h few = (word_fits v h.0, fields_fit (value_number v) ts key.1 vs h.1 (omega (arith, few)))
  fields_fit slot (signed ∷ ts) key [] h few = (signed_fits 0 (omega arith), fields_fit slot ts key.1 [] tt few)
  fields_fit slot (signed ∷ ts) key (v ∷ vs) h few = (signed_fits (value_number v) (word_fits v h.0), fields_fit slot ts key.1 vs h.1 (omega (arith, few)))
  fields_fit slot (value ∷ ts) key [] h few = (omega arith, fields_fit slot ts key.1 [] tt few)
  fields_fit slot (value ∷ ts) key (v ∷ vs) h few = (value_fits key.0 v h.0, fields_fit slot ts key.1 vs h.1 (omega (arith, few)))
  fields_fit slot (values ∷ ts) key vs h few = ((few, each_fits key.0 vs h), fields_fit slot ts key.1 [] tt (omega arith))
  fields_fit slot (callee ∷ ts) key vs h few = (called slot, fields_fit slot ts key.1 vs h few)
  fields_fit slot (t ∷ ts) key vs h few = (tt, fields_fit slot ts key.1 vs h few)

  -- the fields that a call tells
  abbrev told_rows : Told → List Value → List Row
  told_rows (event_told n key) vs = row_of n (fields_from at loc 0 (types_at n) key vs) ∷ []
  told_rows (values_told ts) vs = []

  told_fit : (told : Told) (vs : List Value) → AreFirst (told_types told) vs → AllByRecursion FitsRow (told_rows told vs)
  told_fit (event_told n key) vs h = (fields_fit 0 (types_at n) key vs h.first h.few, tt)
  told_fit (values_told ts) vs h = tt

  -- they are those of the events of the key
  abbrev AreTold : Told → Type 0
  AreTold told = (vs : List Value) → map event_row (told_event at told loc vs) ≡ told_rows told vs

  plain_rows : (g : GroupName) → AreTold (plain_told g)
  plain_rows groups.Start vs = refl
  plain_rows g vs = refl

  num_rows : (op : NumOp) (ts : List ValType) → AreTold (num_told op ts)
  num_rows op [] vs = refl
  num_rows op (t ∷ []) vs = refl
  num_rows op (t ∷ (u ∷ ts)) vs = refl

  key_rows : (key : HookKey) → AreTold (key_told key)
  key_rows (keys.Plain g) vs = plain_rows g vs
  key_rows (keys.Num op) vs = num_rows op (num_operands op) vs
  key_rows key vs = refl

  rows_fit : (es : List Event) → AllByRecursion FitsRow (map event_row es) → Fit es
  rows_fit [] h = tt
  rows_fit (e ∷ es) h = (h.0, rows_fit es h.1)

  key_fits : (key : HookKey) (vs : List Value) → AreFirst (value_types key) vs → Fit (told_event at (key_told key) loc vs)
  key_fits key vs h = rows_fit _ (subst (AllByRecursion FitsRow) (sym (key_rows key vs)) (told_fit (key_told key) vs (subst (λ ts. AreFirst ts vs) (types_told key) h)))

-- ---- the events of a br_table

abbrev FitsBlock : Block → Type 0
FitsBlock b = FitsSigned b.begin × FitsSigned b.end × FitsSigned b.target

after_fit : (last : ℤ) (bs : List Block) → AreBlocksAfter last bs → All FitsBlock bs
after_fit last [] h = All-nil FitsBlock
after_fit last (b ∷ bs) (k, l, begin, end, target, rest) =
    All-cons FitsBlock b bs (position_fits b.begin begin, position_fits b.end end, position_fits b.target target) (after_fit b.begin bs rest)

blocks_fit : (bs : List Block) → AreBlocks bs → All FitsBlock bs
blocks_fit [] h = absurd h
blocks_fit (f ∷ bs) (k, begin, end, target, rest) =
    All-cons FitsBlock f bs (subst FitsSigned (sym begin) (omega arith), position_fits f.end end, position_fits f.target target) (after_fit (negsuc 0) bs rest)

all_reverse : (P : Block → Type 0) (bs : List Block) → All P bs → All P (reverse bs)
all_reverse P [] h = h
all_reverse P (b ∷ bs) h =
    subst (All P) (sym (reverse-append (b ∷ []) bs)) (All-push P (reverse bs) b (all_reverse P bs (All-tail P b bs h)) (All-head P b bs h))

module _ (hook : ℕ) (few : FitsNumber hook) (loc : Loc) (there : FitsLocation loc) (index : ℕ) (small : FitsNumber index) where
  jump_fits : (label : ℕ) (blocks : List Block) (o : Option Block) → label ≤ deepest → All FitsBlock blocks → slice_get blocks label ≡ o
      → Fit (jump_events hook loc index label blocks o)
  jump_fits label blocks None low fit e = ((few, tt), tt)
  jump_fits label blocks (Some b) low fit e =
      let here : FitsBlock b = every_at FitsBlock blocks label b (recursion_from_All FitsBlock blocks fit) e in
      let left = take (label + 1) blocks in
      let ends : All (λ c. FitsEvent (end_event loc.func c)) left =
      All-weaker FitsBlock (λ c. FitsEvent (end_event loc.func c)) (λ c h. ((there.0, h.1), (tt, (h.0, tt)))) left (All-take FitsBlock (label + 1) blocks fit) in
      ((there, (small, (omega (arith, low), (here.2, tt)))), recursion_from_All FitsEvent (map (end_event loc.func) left) (All-map FitsEvent (end_event loc.func) left ends))

  table_fits : (blocks : List Block) (o : Option TableInfo) → All FitsBlock blocks → ((t : TableInfo) → o ≡ Some t → All (λ l. l ≤ deepest) t.labels)
      → Fit (table_events hook loc index blocks o)
  table_fits blocks None fit low = ((few, tt), tt)
  table_fits blocks (Some t) fit low =
      let label = chosen_label t.labels index in
      let around = within_block loc.instr blocks in
      jump_fits label around (slice_get around label) (few_label t.labels index (low t refl))
      (all_reverse FitsBlock (filter (contains loc.instr) blocks) (All-filter (contains loc.instr) FitsBlock blocks fit)) refl

-- ---- the events of a hook call

module _ (info : Info) (formed : IsWellFormed info) (slots : List (Option ℕ)) (table : FitSlots slots) (hook : ℕ) (few : FitsNumber hook) where
  module _ (loc : Loc) (there : FitsLocation loc) (vs : List Value) where
    known_fits : (f : FuncInfo) (key : HookKey) → IsDefined f → AreFirst (value_types key) vs → Fit (known_events info slots hook f key loc vs)
    known_fits f (keys.Plain groups.BrTable) is h =
        table_fits hook few loc there (number_at vs 0) (first_word [] vs h.first) f.blocks (table_at loc.instr f.tables) (blocks_fit f.blocks is.1)
        (λ t e. table_labels loc.instr (negsuc 0) f.tables t is.2 e)
    known_fits f key is h =
        subst Fit (sym (events_told info slots key loc vs)) (key_fits (callee_in info slots) (λ slot. callee_fits info slots slot table) loc there key vs h)

    func_fits : (defined : Bool) (f : FuncInfo) (key : HookKey) → (defined ≡ true → IsDefined f) → AreFirst (value_types key) vs
        → Fit (func_events info slots hook defined f key loc vs)
    func_fits false f key is h = ((few, tt), tt)
    func_fits true f key is h = known_fits f key (is refl) h

    found_fits : (o : Option FuncInfo) (key : HookKey) → slice_get info.functions loc.func ≡ o → AreFirst (value_types key) vs
        → Fit (found_events info slots hook o key loc vs)
    found_fits None key e h = ((few, tt), tt)
    found_fits (Some f) key e h = func_fits f.defined f key (formed_there info loc.func f formed e) h

  words_fit : (ws : List ℕ) (key : Option HookKey) → FitWords ws → Fit (hook_events info slots hook ws key)
  words_fit ws None h = tt
  words_fit ws (Some key) h =
      let loc = loc_of ws in
      found_fits loc (place_fits ws h) (values_from (value_types key) (drop 2 ws)) (slice_get info.functions loc.func) key refl
      (are_first (value_types key) (drop 2 ws) (rest_fit 2 ws h))

  -- the events that are read of words
  pub read_fits : (ws : List ℕ) → FitWords ws → Fit (read_hook info slots hook ws)
  read_fits ws h =
      let all = hook_events info slots hook ws (slice_get info.hooks hook) in
      recursion_from_All FitsEvent (filter (is_selected info.groups) all)
      (All-filter (is_selected info.groups) FitsEvent all (All-from_recursion FitsEvent all (words_fit ws (slice_get info.hooks hook) h)))
