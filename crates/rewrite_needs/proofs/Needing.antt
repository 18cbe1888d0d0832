-- Place by place the table becomes what the body needs.
--     PlaceAdded, place_added      what a place adds, and the open blocks behind it
--     IsUnderway, underway_first, underway_next      the table on the way over the places
--     few_added      how much it adds at most
use Rattle.std.proofs.Common.{◌≡◌, inl, ℕ, zero, suc, ◌+◌, ◌-◌, ◌*◌, ◌≤◌, ℤ, nat_abs, List, [], ◌∷◌, ◌++◌, length, take, Bool, true, false, cond, Option, Some, None, leb, refl, sym, ap, ap₂, ◌∙◌, subst, subst₂, flat_map, append-nil, length-append, min, arith}
use Rattle.std.proofs.lemmas.List.{take_min, take_all, length-map}
use Rattle.std.proofs.lemmas.List.Sums.{fold-append}
use Rattle.wasm_sem.specs.Types.{BlockKind, Hooks, HookKey}
use Rattle.wasm_num.specs.declared.BlockKind.TheVariants as kinds
use Rattle.module_ast.specs.Lists.{when}
use Rattle.module_ast.specs.Structure.{plain_of, Plain, br, br_if, return_}
use Rattle.module_ast.specs.Places.Positions as positions
use Rattle.module_ast.specs.Places.{Scope, at, closes, code_size, places}
use Rattle.module_ast.specs.Validation.Limits.{longest_file}
use Rattle.branch_resolve.specs.Scopes.{block_of, blocks_around}
use Rattle.branch_resolve.specs.Walks.{IsOpcodeOf, IsPlaceOf}
use Rattle.branch_resolve.specs.declared.Block.{Block}
use Rattle.branch_resolve.specs.declared.place.Place.{Place}
use Rattle.branch_resolve.specs.declared.place.Opcode.{Opcode}
use Rattle.branch_resolve.specs.declared.place.Opcode.TheVariants.{Enters, Acts, Opens, Alternates, Closes}
use Rattle.hook_select.specs.declared.GroupName.TheVariants as groups
use Rattle.hook_mono.specs.declared.HookKey.TheVariants as keys
use Rattle.hook_mono.specs.Needed as needed
use Rattle.hook_mono.specs.Needed.{Site, end_keys, plain_keys, open_keys, close_keys, place_keys, live_keys}
use Rattle.rewrite_needs.specs.declared.needs.OpenBlock.{OpenBlock}
use Rattle.rewrite_needs.specs.declared.needs.Needs.{Needs}
use Rattle.rewrite_needs.specs.Needing.{with_wanted, with_each_wanted, own_keys, told_keys, blocks_kept, blocks_kept_at, rest_left, all_left, with_ends, kind_opened, with_open_block, left_out_to, after_live, into_block, after_place}
use Rattle.rewrite_needs.proofs.Known.{wanted_each, few_more, few_each}
use Rattle.rewrite_needs.proofs.Unended.{AreUnended, ends_of, entry_of, leave_none, leave_one, unended_each, left_ends, branched}
use Rattle.rewrite_needs.proofs.Chained.{kinds_of, kinds_before, kinds_behind, open_before, open_behind, AreChained, places_chained, body_count}

-- ---- the keys of a place are its own and those of the ends of the blocks that it leaves

ends_all : (scopes : List Scope) → ends_of (kinds_of scopes) ≡ end_keys scopes
ends_all [] = refl
ends_all (s ∷ ss) = ap (λ ks. keys.End s.kind ∷ ks) (ends_all ss)

ends_taken : (n : ℕ) (scopes : List Scope) → ends_of (take n (kinds_of scopes)) ≡ end_keys (take n scopes)
ends_taken zero scopes = refl
ends_taken (suc n) [] = refl
ends_taken (suc n) (s ∷ ss) = ap (λ ks. keys.End s.kind ∷ ks) (ends_taken n ss)

-- the ends of n blocks, or of as many as there are
ends_left : (n : ℕ) (scopes : List Scope) → left_ends (length (kinds_of scopes) - n) (kinds_of scopes) ≡ end_keys (take n scopes)
ends_left n scopes =
    let ks = kinds_of scopes in
    let m : length ks - (length ks - n) ≡ min n (length ks) = omega arith in
    ap (λ k. ends_of (take k ks)) m ∙ ap ends_of (take_min n ks) ∙ ends_taken n scopes

-- of none
ends_none : (scopes : List Scope) → left_ends (length (kinds_of scopes)) (kinds_of scopes) ≡ []
ends_none scopes =
    let ks = kinds_of scopes in
    let m : length ks - length ks ≡ 0 = omega arith in
    ap (λ k. ends_of (take k ks)) m

-- and of all
ends_each : (scopes : List Scope) → left_ends 0 (kinds_of scopes) ≡ end_keys scopes
ends_each scopes =
    let ks = kinds_of scopes in
    let m : length ks - 0 ≡ length ks = omega arith in
    ap (λ k. ends_of (take k ks)) m ∙ ap ends_of (take_all (length ks) ks (omega arith)) ∙ ends_all scopes

taken_none : (n : ℕ) → end_keys (take n []) ≡ []
taken_none zero = refl
taken_none (suc n) = refl

-- what leaves no block
alone : (scopes : List Scope) (own : List HookKey) → own ++ left_ends (length (kinds_of scopes)) (kinds_of scopes) ≡ own
alone scopes own = ap (λ ks. own ++ ks) (ends_none scopes) ∙ append-nil own

plain_whole : (s : Site) (scopes : List Scope) (p : ℕ) (i : Plain) → own_keys s p (Some i) ++ left_ends (blocks_kept (length (kinds_of scopes)) (Some i)) (kinds_of scopes) ≡ plain_keys s scopes p i
plain_whole s scopes p (br l) = ap₂ (λ xs ys. keys.Plain groups.Br ∷ (xs ++ ys)) (taken_none (l + 1)) (ends_left (l + 1) scopes)
plain_whole s scopes p (br_if l) = ap₂ (λ xs ys. keys.Plain groups.BrIf ∷ (xs ++ ys)) (taken_none (l + 1)) (ends_left (l + 1) scopes)
plain_whole s scopes p return_ = ap (λ ks. keys.Return s.context.results ∷ ks) (ends_each scopes)
plain_whole s scopes p i = alone scopes (plain_keys s [] p i)

opcode_whole : (s : Site) (scopes : List Scope) (p : ℤ) (x : positions.Opcode) (y : Opcode) → IsOpcodeOf x y
    → told_keys s p y ++ left_ends (blocks_kept_at (length (kinds_of scopes)) y) (kinds_of scopes) ≡ needed.opcode_keys s scopes p x
opcode_whole s scopes p x Enters e = alone scopes (told_keys s p Enters) ∙ ap (needed.opcode_keys s scopes p) (sym e)
opcode_whole s scopes p x (Acts i) (q, e, f) =
    ap (λ o. own_keys s (nat_abs p) o ++ left_ends (blocks_kept (length (kinds_of scopes)) o) (kinds_of scopes)) e
    ∙ plain_whole s scopes (nat_abs p) q
    ∙ ap (needed.opcode_keys s scopes p) (sym f)
opcode_whole s scopes p x (Opens b) (t, e, f) =
    alone scopes (told_keys s p (Opens b)) ∙ ap (λ (b : Block). told_keys s p (Opens b)) e ∙ ap (needed.opcode_keys s scopes p) (sym f)
opcode_whole s scopes p x (Alternates a b live) (t, u, e, f, g) =
    alone scopes (told_keys s p (Alternates a b live))
    ∙ ap₂ (λ (a b : Block). told_keys s p (Alternates a b live)) e f
    ∙ ap (needed.opcode_keys s scopes p) (sym g)
opcode_whole s scopes p x (Closes b) (t, e, f) =
    alone scopes (told_keys s p (Closes b)) ∙ ap (λ (b : Block). told_keys s p (Closes b)) e ∙ ap (needed.opcode_keys s scopes p) (sym f)

-- ---- a place

module _ (hooks : Hooks) (table : List HookKey) (around : List BlockKind) (stack : List OpenBlock) where
  -- out of the block that ends at a place, if one ends there
  left_before : (x : positions.Opcode) → AreUnended hooks table (open_before x around) stack → AreUnended hooks table around (rest_left (length around) stack)
  left_before (positions.closes s) h = leave_one hooks table s.kind around stack h
  left_before (positions.alternates a b live) h = leave_one hooks table a.kind around stack h
  left_before x h = subst (AreUnended hooks table around) (sym (leave_none hooks table around stack h)) h

  opened : (k : BlockKind) → AreUnended hooks table around stack → AreUnended hooks table (k ∷ around) (entry_of k (length around) ∷ stack)
  opened k h = inl (stack, refl, h)

  opened_as : (j k : BlockKind) → j ≡ k → AreUnended hooks table around stack → AreUnended hooks table (k ∷ around) (entry_of j (length around) ∷ stack)
  opened_as j k e h = subst (λ i. AreUnended hooks table (k ∷ around) (entry_of i (length around) ∷ stack)) (sym e) (opened k h)

  -- into the block that opens there
  entered_behind : (x : positions.Opcode) (y : Opcode) → IsOpcodeOf x y → AreUnended hooks table around stack
      → AreUnended hooks table (open_behind x around) (with_open_block (length around) (kind_opened y) stack)
  entered_behind x y at h = go y at
    where
      moved : (z : positions.Opcode) (bs : List OpenBlock) → x ≡ z → AreUnended hooks table (open_behind z around) bs → AreUnended hooks table (open_behind x around) bs
      moved z bs e k = subst (λ o. AreUnended hooks table (open_behind o around) bs) (sym e) k

      go : (y : Opcode) → IsOpcodeOf x y → AreUnended hooks table (open_behind x around) (with_open_block (length around) (kind_opened y) stack)
      go Enters e = moved positions.enters _ e (opened kinds.Function h)
      go (Acts i) (q, e, f) = moved (positions.acts q) _ f h
      go (Opens b) (t, e, f) = moved (positions.opens t) _ f (opened_as b.kind t.kind (ap (λ (b : Block). b.kind) e) h)
      go (Alternates a b live) (t, u, e, f, g) = moved (positions.alternates t u live) _ g (opened_as b.kind u.kind (ap (λ (b : Block). b.kind) f) h)
      go (Closes b) (t, e, f) = moved (positions.closes t) _ f h

pub record PlaceAdded (s : Site) (x : positions.Place) (n n2 : Needs) : Type 0 where
  pub hooks : n2.hooks ≡ n.hooks
  pub table : n2.table ≡ with_each_wanted n.hooks n.table (live_keys s x)
  pub unended : AreUnended n.hooks n2.table (kinds_behind x) n2.stack

module _ (s : Site) (x : positions.Place) (y : Place) (n : Needs) (at : IsPlaceOf x y) (h : AreUnended n.hooks n.table (kinds_before x) n.stack) where
  abbrev around : List BlockKind
  around = kinds_of x.scopes

  abbrev depth : ℕ
  depth = length around

  abbrev stack : List OpenBlock
  stack = rest_left depth n.stack

  inside : AreUnended n.hooks n.table around stack
  inside = left_before n.hooks n.table around n.stack x.opcode h

  added : (b : Bool) → x.live ≡ b → PlaceAdded s x n (into_block depth y.opcode (cond b (after_live s depth y.position y.opcode (left_out_to depth n)) (left_out_to depth n)))
  added true e =
      let own = told_keys s y.position y.opcode in
      let table = with_each_wanted n.hooks n.table own in
      let kept = blocks_kept_at depth y.opcode in
      let branch = branched n.hooks kept table around stack (unended_each n.hooks n.table own around stack inside) in
      let all = with_ends n.hooks kept stack table in
      record {
        hooks = refl;
        table =
            branch.told
            ∙ sym (fold-append (with_wanted n.hooks) n.table own (left_ends kept around))
            ∙ ap (with_each_wanted n.hooks n.table) (opcode_whole s x.scopes y.position x.opcode y.opcode at.2)
            ∙ ap (λ p. with_each_wanted n.hooks n.table (needed.opcode_keys s x.scopes p x.opcode)) (sym at.0)
            ∙ ap (λ b. with_each_wanted n.hooks n.table (when b (place_keys s x))) (sym e);
        unended = entered_behind n.hooks all around (all_left kept stack) x.opcode y.opcode at.2 branch.unended;
      }
  added false e = record {
    hooks = refl;
    table = ap (λ b. with_each_wanted n.hooks n.table (when b (place_keys s x))) (sym e);
    unended = entered_behind n.hooks n.table around stack x.opcode y.opcode at.2 inside;
  }

  pub place_added : (d : ℕ) → d ≡ length around → PlaceAdded s x n (after_place s d y n)
  place_added d e = subst (λ d. PlaceAdded s x n (after_place s d y n)) (sym e) (added y.live at.1)

-- ---- how much is added

own_few : (s : Site) (p : ℕ) (o : Option Plain) → length (own_keys s p o) ≤ 2
own_few s p None = omega arith
own_few s p (Some (br l)) = let none = ap length (taken_none (l + 1)) in omega arith
own_few s p (Some (br_if l)) = let none = ap length (taken_none (l + 1)) in omega arith
own_few s p (Some i) = omega arith

when_few : (b : Bool) (key : HookKey) → length (when b (key ∷ [])) ≤ 1
when_few true key = omega arith
when_few false key = omega arith

open_few : (k : BlockKind) → length (open_keys k) ≤ 2
open_few kinds.If = omega arith
open_few k = omega arith

close_few : (s : Site) (k : BlockKind) → length (close_keys s k) ≤ 2
close_few s kinds.Function = omega arith
close_few s k = omega arith

pub keys_few : (s : Site) (p : ℤ) (y : Opcode) → length (told_keys s p y) ≤ 2
keys_few s p Enters = let start = when s.starts (keys.Plain groups.Start ∷ []) in omega (arith, when_few s.starts (keys.Plain groups.Start), length-append start (keys.Begin kinds.Function ∷ []))
keys_few s p (Acts i) = own_few s (nat_abs p) (plain_of i.now)
keys_few s p (Opens b) = open_few b.kind
keys_few s p (Alternates a b live) = let end = when live (keys.End a.kind ∷ []) in omega (arith, when_few live (keys.End a.kind), length-append end (keys.Begin b.kind ∷ []))
keys_few s p (Closes b) = close_few s b.kind

-- an end for each block that is left
pub ends_few : (hooks : Hooks) (kept : ℕ) (stack : List OpenBlock) (table : List HookKey) → length (with_ends hooks kept stack table) + length (all_left kept stack) ≤ length table + length stack
ends_few hooks kept [] table = omega arith
ends_few hooks kept (b ∷ bs) table = go (leb kept b.around) (ends_few hooks kept bs (with_wanted hooks table (keys.End b.kind))) (few_more hooks table (keys.End b.kind))
  where
    go : (c : Bool) → length (with_ends hooks kept bs (with_wanted hooks table (keys.End b.kind))) + length (all_left kept bs) ≤ length (with_wanted hooks table (keys.End b.kind)) + length bs
        → length (with_wanted hooks table (keys.End b.kind)) ≤ length table + 1
        → length (cond c (with_ends hooks kept bs (with_wanted hooks table (keys.End b.kind))) table) + length (cond c (all_left kept bs) (b ∷ bs)) ≤ length table + length (b ∷ bs)
    go true l m = omega arith
    go false l m = omega arith

pub rest_few : (kept : ℕ) (stack : List OpenBlock) → length (rest_left kept stack) ≤ length stack
rest_few kept [] = omega arith
rest_few kept (b ∷ bs) = go (leb kept b.around)
  where
    go : (c : Bool) → length (cond c bs (b ∷ bs)) ≤ length (b ∷ bs)
    go true = omega arith
    go false = omega arith

block_few : (d : ℕ) (k : Option BlockKind) (stack : List OpenBlock) → length (with_open_block d k stack) ≤ length stack + 1
block_few d None stack = omega arith
block_few d (Some k) stack = omega arith

pub few_added : (s : Site) (d : ℕ) (y : Place) (n : Needs) → (let n2 = after_place s d y n in length n2.table + length n2.stack ≤ length n.table + length n.stack + 3)
few_added s d y n = go y.live
  where
    go : (b : Bool) → (let n2 = into_block d y.opcode (cond b (after_live s d y.position y.opcode (left_out_to d n)) (left_out_to d n)) in length n2.table + length n2.stack ≤ length n.table + length n.stack + 3)
    go true =
        let own = told_keys s y.position y.opcode in
        let table = with_each_wanted n.hooks n.table own in
        let kept = blocks_kept_at d y.opcode in
        let stack = rest_left d n.stack in
        omega (
          arith,
          rest_few d n.stack,
          keys_few s y.position y.opcode,
          few_each n.hooks n.table own,
          ends_few n.hooks kept stack table,
          block_few d (kind_opened y.opcode) (all_left kept stack),
        )
    go false = omega (arith, rest_few d n.stack, block_few d (kind_opened y.opcode) (rest_left d n.stack))

-- ---- all places

-- the keys so far, the open blocks, and the places that are left
pub record IsUnderway (hooks : Hooks) (s : Site) (n : Needs) (left : List positions.Place) : Type 0 where
  pub around : List BlockKind
  pub chained : AreChained around left
  pub same : n.hooks ≡ hooks
  pub unended : AreUnended hooks n.table around n.stack
  pub rest : with_each_wanted hooks n.table (flat_map (live_keys s) left) ≡ needed.needs_of hooks s
  pub few : length n.table + length n.stack + 3 * length left ≤ 805306371

pub underway_first : (hooks : Hooks) (s : Site) → code_size s.body.code + 1 ≤ longest_file → IsUnderway hooks s (record { hooks = hooks; table = []; stack = [] }) (places s.body.code)
underway_first hooks s few = record {
  around = [];
  chained = places_chained s.body.code;
  same = refl;
  unended = refl;
  rest = sym (wanted_each hooks [] (flat_map (live_keys s) (places s.body.code)));
  few = omega (arith, body_count s.body.code);
}

pub underway_next : (hooks : Hooks) (s : Site) (n : Needs) (x : positions.Place) (left : List positions.Place) (y : Place) (d : ℕ) → IsPlaceOf x y → d ≡ length (blocks_around x.scopes)
    → IsUnderway hooks s n (x ∷ left) → IsUnderway hooks s (after_place s d y n) left
underway_next hooks s n x left y d is e h =
    let before : AreUnended n.hooks n.table (kinds_before x) n.stack = subst₂ (λ w ks. AreUnended w n.table ks n.stack) (sym h.same) h.chained.0 h.unended in
    let count : d ≡ length (kinds_of x.scopes) = e ∙ length-map x.scopes block_of ∙ sym (length-map x.scopes (λ (s : Scope). s.kind)) in
    let a = place_added s x y n is before d count in
    let n2 = after_place s d y n in
    record {
      around = kinds_behind x;
      chained = h.chained.1;
      same = a.hooks ∙ h.same;
      unended = subst (λ w. AreUnended w n2.table (kinds_behind x) n2.stack) h.same a.unended;
      rest =
          ap (λ t. with_each_wanted hooks t (flat_map (live_keys s) left)) (a.table ∙ ap (λ w. with_each_wanted w n.table (live_keys s x)) h.same)
          ∙ sym (fold-append (with_wanted hooks) n.table (live_keys s x) (flat_map (live_keys s) left))
          ∙ h.rest;
      few = omega (arith, h.few, few_added s d y n);
    }
