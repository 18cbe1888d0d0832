-- The information on a valid and whole module is of its form.
--     body_formed      the blocks and tables of a body stand in order
--     needed_proper      the keys that a module needs are proper
--     infos_have_form      the whole
use Rattle.std.proofs.Common.{◌≡◌, ℕ, suc, ◌+◌, ◌<◌, ◌≤◌, ℤ, pos, negsuc, ◌<ℤ◌, List, [], ◌∷◌, ◌++◌, length, map, flat_map, get_or, All, Bool, true, false, cond, Some, refl, sym, subst, slice_get, length-append, arith}
use Rattle.std.specs.Prelude.{is_some}
use Rattle.std.specs.List.{AllByRecursion}
use Rattle.std.proofs.lemmas.Grind.{flat_map-append}
use Rattle.std.proofs.lemmas.Int.{ints}
use Rattle.std.proofs.lemmas.List.{take_at, drop_at, length-map}
use Rattle.std.proofs.lemmas.List.Elements.{All-from_recursion, All-cons, All-nil, All-append}
use Rattle.std.proofs.lemmas.Option.{slice_get-get_or, slice_get_within, get_or_from_slice_get}
use Rattle.wasm_sem.specs.Types.{BlockKind, FuncType, Body, Module, Hooks, Selection, HookKey}
use Rattle.hook_select.specs.Selections.{hooks_at}
use Rattle.wasm_num.specs.declared.BlockKind.TheVariants as kinds
use Rattle.module_ast.specs.Lists.{when}
use Rattle.module_ast.specs.Validation.{IsWhole, push, IsValid, function_types, body_context, deepest, longest_file}
use Rattle.module_ast.specs.Places.{Scope, Place, Opcode, enters, acts, opens, alternates, closes, at, code_size, code_places, ends_live, places, function_scope}
use Rattle.module_ast.specs.Structure.{imported_funcs, Tree, Plain, br, br_if, br_table, return_, call, call_indirect}
use Rattle.module_ast.proofs.Each.{all_both, all_when, all_each, all_filtered, all_flat}
use Rattle.code_valid.proofs.Few.{entries_fit, imported_few}
use Rattle.code_valid.proofs.Sizes.{few_positions, flat}
use Rattle.hook_mono.specs.Keys.{IsProper, is_wanted, find_key, with_keys}
use Rattle.hook_mono.specs.Needed.{Site, sites, end_keys, plain_keys, open_keys, close_keys, opcode_keys, live_keys, wanted_keys, wanted_by, needed_keys, import_count}
use Rattle.branch_resolve.specs.declared.Block.{Block}
use Rattle.branch_resolve.specs.Scopes.{block_of}
use Rattle.static_info.specs.declared.TableInfo.{TableInfo}
use Rattle.static_info.specs.Form.{IsPosition, AreBlocksAfter, AreBlocks, AreTablesAfter, IsImported, IsDefined}
use Rattle.static_info.specs.Info.{place_blocks, live_blocks, place_tables, live_tables, type_of_index, imported_info, defined_info, defined_infos, InfosHaveForm}
use Rattle.static_info.proofs.Along.{IsInner, Tells, code_in, EachPlain, HasFewLabels, labels_few}
use Rattle.static_info.proofs.KeysRead.{all_distinct}

-- ---- blocks and tables

position_of : (n : ℕ) → n ≤ longest_file → IsPosition (pos n)
position_of n l = (omega (arith, ints), omega (arith, ints))

pub when_nil : {A : Type 0} (b : Bool) → when {A = A} b [] ≡ []
when_nil true = refl
when_nil false = refl

-- a block that opens at a place
one_block : (p : ℕ) (live : Bool) (s : Scope) → IsInner s p → (last : ℤ) (rest : List Block) → last <ℤ pos p → ((l : ℤ) → l <ℤ pos (p + 1) → AreBlocksAfter l rest)
    → AreBlocksAfter last (when live (block_of s ∷ []) ++ rest)
one_block p false s h last rest m k = k last (omega (arith, ints))
one_block p true s h last rest m k =
    let begin = h.begin in
    (h.kind, omega (arith, ints), subst IsPosition (sym h.begin) (position_of p h.within), position_of s.end h.end, position_of s.target h.target, k s.begin (omega (arith, ints)))

no_block : (p : ℕ) (live : Bool) (last : ℤ) (rest : List Block) → last <ℤ pos p → ((l : ℤ) → l <ℤ pos (p + 1) → AreBlocksAfter l rest) → AreBlocksAfter last (when live [] ++ rest)
no_block p false last rest m k = k last (omega (arith, ints))
no_block p true last rest m k = k last (omega (arith, ints))

blocks_tell : Tells place_blocks AreBlocksAfter HasFewLabels
blocks_tell = record {
  acting = λ p live i scopes l h. no_block p live;
  opening = λ p live s scopes inner. one_block p live s inner;
  turning = λ p live a b then_live scopes inner. one_block p live b inner;
  closing = λ p live s scopes. when_nil live;
}

last_label : (ls : List ℕ) (l : ℕ) → ls ++ l ∷ [] ≡ [] → ⊥
last_label [] l e = cc
last_label (m ∷ ls) l e = cc

acted : (p : ℕ) (live : Bool) (i : Plain) (scopes : List Scope) → p ≤ longest_file → HasFewLabels i → (last : ℤ) (rest : List TableInfo) → last <ℤ pos p
    → ((l : ℤ) → l <ℤ pos (p + 1) → AreTablesAfter l rest) → AreTablesAfter last (place_tables (at p live (acts i) scopes) ++ rest)
acted p false i scopes le h last rest m k = k last (omega (arith, ints))
acted p true (br_table ls l) scopes le h last rest m k =
    (m, position_of p le, (last_label ls l, All-append (λ x. x ≤ deepest) ls (l ∷ []) h.1 (All-cons (λ x. x ≤ deepest) l [] h.0 (All-nil (λ x. x ≤ deepest)))), k (pos p) (omega (arith, ints)))
acted p true i scopes le h last rest m k = k last (omega (arith, ints))

no_table : (p : ℕ) (live : Bool) (last : ℤ) (rest : List TableInfo) → last <ℤ pos p → ((l : ℤ) → l <ℤ pos (p + 1) → AreTablesAfter l rest) → AreTablesAfter last (when live [] ++ rest)
no_table p false last rest m k = k last (omega (arith, ints))
no_table p true last rest m k = k last (omega (arith, ints))

tables_tell : Tells place_tables AreTablesAfter HasFewLabels
tables_tell = record {
  acting = acted;
  opening = λ p live s scopes inner. no_table p live;
  turning = λ p live a b then_live scopes inner. no_table p live;
  closing = λ p live s scopes. when_nil live;
}

before_zero : negsuc 0 <ℤ pos 0
before_zero = omega (arith, ints)

-- the places of a body but its entry
told_body : {A : Type 0} (f : Place → List A) (After : ℤ → List A → Type 0) (t : Tells f After HasFewLabels) (none : (l : ℤ) → After l []) (code : Tree)
    → code_size code ≤ 268435455 → EachPlain HasFewLabels code → (let s = function_scope code in After (negsuc 0) (flat_map f (code_places (s ∷ []) true 0 code ++ at s.end (ends_live true code) (closes s) [] ∷ [])))
told_body f After t none code few labels =
    let s = function_scope code in
    let last = at s.end (ends_live true code) (closes s) [] in
    subst (After (negsuc 0)) (sym (flat_map-append f (code_places (s ∷ []) true 0 code) (last ∷ [])))
    (code_in f After HasFewLabels t (s ∷ []) true 0 code (omega arith) labels (negsuc 0) (f last ++ []) before_zero
    (λ l n. subst (λ xs. After l (xs ++ [])) (sym (t.closing s.end (ends_live true code) s [])) (none l)))

pub body_formed : (code : Tree) → code_size code + 1 ≤ longest_file → EachPlain HasFewLabels code → AreBlocks (live_blocks code) × AreTablesAfter (negsuc 0) (live_tables code)
body_formed code few labels = (
  (refl, refl, position_of (code_size code) (omega arith), position_of (code_size code + 1) few, told_body place_blocks AreBlocksAfter blocks_tell (λ l. tt) code (omega arith) labels),
  told_body place_tables AreTablesAfter tables_tell (λ l. tt) code (omega arith) labels,
)

-- ---- keys

abbrev AreProper : List HookKey → Type 0
AreProper keys = AllByRecursion IsProper keys

ends_proper : (scopes : List Scope) → AreProper (end_keys scopes)
ends_proper [] = tt
ends_proper (s ∷ ss) = (refl, ends_proper ss)

plain_proper : (s : Site) (scopes : List Scope) (p : ℕ) (i : Plain) → AreProper (plain_keys s scopes p i)
plain_proper s scopes p (br l) = (refl, ends_proper _)
plain_proper s scopes p (br_if l) = (refl, ends_proper _)
plain_proper s scopes p return_ = (refl, ends_proper _)
plain_proper s scopes p (call f) = (refl, (refl, tt))
plain_proper s scopes p (call_indirect t) = (refl, (refl, tt))
plain_proper s scopes p i = (refl, tt)

open_proper : (k : BlockKind) → AreProper (open_keys k)
open_proper kinds.If = (refl, (refl, tt))
open_proper k = (refl, tt)

close_proper : (s : Site) (k : BlockKind) → AreProper (close_keys s k)
close_proper s kinds.Function = (refl, (refl, tt))
close_proper s k = (refl, tt)

opcode_proper : (s : Site) (scopes : List Scope) (p : ℤ) (o : Opcode) → AreProper (opcode_keys s scopes p o)
opcode_proper s scopes p enters = all_both IsProper _ _ (all_when IsProper s.starts _ (refl, tt)) (refl, tt)
opcode_proper s scopes p (acts i) = plain_proper s scopes _ i
opcode_proper s scopes p (opens o) = open_proper o.kind
opcode_proper s scopes p (alternates a b live) = all_both IsProper _ _ (all_when IsProper live _ (refl, tt)) (refl, tt)
opcode_proper s scopes p (closes o) = close_proper s o.kind

site_proper : (hooks : Hooks) (s : Site) → AreProper (wanted_keys hooks s)
site_proper hooks s =
    all_filtered IsProper (is_wanted hooks) _
    (all_flat IsProper (live_keys s) (places s.body.code)
    (all_each (λ (x : Place). AreProper (live_keys s x)) (places s.body.code) (λ x. all_when IsProper x.live _ (opcode_proper s x.scopes x.position x.opcode))))

with_proper : (acc more : List HookKey) → AreProper acc → AreProper more → AreProper (with_keys acc more)
with_proper acc [] h i = h
with_proper acc (k ∷ more) h i = with_proper (cond (is_some (find_key acc k)) acc (acc ++ k ∷ [])) more (by (is_some (find_key acc k))) i.1
  where
    by : (b : Bool) → AreProper (cond b acc (acc ++ k ∷ []))
    by true = h
    by false = all_both IsProper acc (k ∷ []) h (i.0, tt)

pub needed_proper : (m : Module) (hooks : Selection) → All IsProper (needed_keys m hooks)
needed_proper m hooks =
    All-from_recursion IsProper (needed_keys m hooks)
    (with_proper [] _ tt (all_flat IsProper (wanted_by hooks) (sites m) (all_each (λ (s : Site). AreProper (wanted_by hooks s)) (sites m) (λ s. site_proper (hooks_at hooks s.func) s))))

-- ---- functions

imports_formed : (m : Module) (tys : List ℕ) → AllByRecursion IsImported (map (imported_info m) tys)
imports_formed m [] = tt
imports_formed m (ty ∷ tys) = ((refl, refl, refl), imports_formed m tys)

each_defined : (m : Module) (tys : List ℕ) (bs : List Body) → ((i ty : ℕ) (b : Body) → slice_get tys i ≡ Some ty → slice_get bs i ≡ Some b → IsDefined (defined_info (type_of_index m ty) b))
    → AllByRecursion IsDefined (defined_infos m tys bs)
each_defined m [] bs h = tt
each_defined m (ty ∷ tys) [] h = tt
each_defined m (ty ∷ tys) (b ∷ bs) h = (h 0 ty b refl refl, each_defined m tys bs (λ i u c e f. h (suc i) u c e f))

defined_count : (m : Module) (tys : List ℕ) (bs : List Body) → length (defined_infos m tys bs) ≤ length tys
defined_count m [] bs = omega arith
defined_count m (ty ∷ tys) [] = omega arith
defined_count m (ty ∷ tys) (b ∷ bs) = let h = defined_count m tys bs in omega arith

body_defined : (m : Module) → IsValid m → IsWhole m → (i ty : ℕ) (b : Body) → slice_get m.funcs i ≡ Some ty → slice_get m.bodies i ≡ Some b → IsDefined (defined_info (type_of_index m ty) b)
body_defined m valid whole i ty b f e =
    let d : FuncType = record { params = []; results = [] } in
    let known : ty < length m.types = subst (λ x. x < length m.types) (get_or_from_slice_get m.funcs i ty ty f) (valid.rules function_types i ty (slice_get_within m.funcs i ty f)) in
    let t = get_or m.types ty d in
    let typed = valid.bodies i ty t b f (slice_get-get_or m.types ty d known) e in
    let nesting = flat m i b whole e in
    let labels = labels_few (body_context m t b) b.code [] (push t.results []) (omega arith) typed in
    let formed = body_formed b.code (few_positions m i b whole e) labels in
    (refl, formed.0, formed.1)

pub infos_have_form : InfosHaveForm
infos_have_form m hooks valid whole =
    let imported = map (imported_info m) (imported_funcs m.imports) in
    let defined = defined_infos m m.funcs m.bodies in
    let few = entries_fit m whole in
    let imports = imported_few m.imports in
    let own = defined_count m m.funcs m.bodies in
    let both = length-append imported defined in
    let mapped = length-map (imported_funcs m.imports) (imported_info m) in
    record {
      proper = needed_proper m hooks;
      distinct = all_distinct [] (flat_map (wanted_by hooks) (sites m)) (λ i j d l k. absurd (omega arith));
      count = omega arith;
      enough = omega arith;
      imported = subst (All IsImported) (sym (take_at imported defined (import_count m) mapped)) (All-from_recursion IsImported imported (imports_formed m (imported_funcs m.imports)));
      defined = subst (All IsDefined) (sym (drop_at imported defined (import_count m) mapped)) (All-from_recursion IsDefined defined (each_defined m m.funcs m.bodies (body_defined m valid whole)));
    }
