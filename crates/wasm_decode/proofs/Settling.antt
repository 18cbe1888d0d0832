-- A draft without floating nodes is a module, but for code that is too deep.
use Rattle.std.proofs.Common.{◌≡◌, ℕ, ◌+◌, inl, inr, List, [], ◌∷◌, ◌++◌, refl, sym, ap, ◌∙◌, subst, append_assoc, arith}
use Rattle.std.specs.Prelude.{map, Bool, true, false, Option, Some, None, cond, nat_lt}
use Rattle.std.proofs.lemmas.Bool.{ltb-true, ltb-false}
use Rattle.leb_binary.specs.Texts.{Text}
use Rattle.module_ast.specs.declared.module.Module.{Module}
use Rattle.module_ast.specs.declared.module.Body.{Body}
use Rattle.module_ast.specs.declared.module.Group.{Group}
use Rattle.module_ast.specs.declared.module.GlobalDef.{GlobalDef}
use Rattle.module_ast.specs.declared.module.Element.{Element}
use Rattle.module_ast.specs.declared.module.Segment.{Segment}
use Rattle.module_ast.specs.declared.module.Which.TheVariants.{Nesting}
use Rattle.module_ast.specs.declared.module.Range.{Range}
use Rattle.module_ast.specs.Binary.Grammar as grammar
use Rattle.module_ast.specs.Binary.{local_count, custom_section, type_section, import_section, function_section, table_section, memory_section, global_section, export_section, start_section, element_section, code_section, data_section, tree_of, locals_of, limited_counts, AreWithin, IsFirstAbove}
use Rattle.module_ast.specs.Binary.Profile as profile
use Rattle.wasm_decode.specs.declared.draft.Draft.{Draft}
use Rattle.wasm_decode.specs.Forms.{Form, draft_items, first_above, ItemsStandFor}
use Rattle.wasm_decode.specs.Kinds.{func_type_form, import_form, global_form, element_form, segment_form, body_form}
use Rattle.wasm_decode.specs.Drafts.{IsDraft, HaveFewLocals}
use Rattle.wasm_decode.specs.Counts.{AreFew}
use Rattle.wasm_decode.specs.Settled.{FloatsNowhere, module_in, without_deep, or_else, deep_in}
use Rattle.wasm_decode.proofs.Flat.{all_items, plain_items, map_same}

-- ---- the first number above a bound

choice : (b : Bool) (n : ℕ) (r s t : Option ℕ) → r ≡ or_else s t → cond b (Some n) r ≡ or_else (cond b (Some n) s) t
choice true n r s t h = refl
choice false n r s t h = h

pub first_append : (bound : ℕ) (xs ys : List ℕ) → first_above bound (xs ++ ys) ≡ or_else (first_above bound xs) (first_above bound ys)
first_append bound [] ys = refl
first_append bound (x ∷ xs) ys = choice (nat_lt bound x) x (first_above bound (xs ++ ys)) (first_above bound xs) (first_above bound ys) (first_append bound xs ys)

-- where nothing is above
none_choice : (b : Bool) (n : ℕ) (r : Option ℕ) → cond b (Some n) r ≡ None → (b ≡ false) × (r ≡ None)
none_choice true n r h = cc
none_choice false n r h = (refl, h)

pub none_within : (bound : ℕ) (ns : List ℕ) → first_above bound ns ≡ None → AreWithin bound ns
none_within bound [] h = tt
none_within bound (n ∷ ns) h =
    let k = none_choice (nat_lt bound n) n (first_above bound ns) h in
    (ltb-false bound n k.0, none_within bound ns k.1)

some_choice : (bound n : ℕ) (ns : List ℕ) (v : ℕ) (b : Bool) → nat_lt bound n ≡ b → cond b (Some n) (first_above bound ns) ≡ Some v → (first_above bound ns ≡ Some v → IsFirstAbove bound ns v) → IsFirstAbove bound (n ∷ ns) v
some_choice bound n ns v true e h f = let k : v ≡ n = cc in inl (ltb-true bound n e, k)
some_choice bound n ns v false e h f = inr (ltb-false bound n e, f h)

pub some_above : (bound : ℕ) (ns : List ℕ) (v : ℕ) → first_above bound ns ≡ Some v → IsFirstAbove bound ns v
some_above bound [] v h = cc
some_above bound (n ∷ ns) v h = some_choice bound n ns v (nat_lt bound n) refl h (some_above bound ns v)

pub none_parts : (a b : Option ℕ) → or_else a b ≡ None → (a ≡ None) × (b ≡ None)
none_parts None b h = (refl, h)
none_parts (Some x) b h = cc

-- ---- parts with code

pub stood : {T G : Type 0} (f : Form T G) (bound : ℕ) (a : Bool) (xs : List T) (deep : Option ℕ) (gs : List G) → ItemsStandFor f bound a xs deep gs → a ≡ false → ItemsStandFor f bound false xs deep gs
stood f bound true xs deep gs p h = cc
stood f bound false xs deep gs p h = p

choose : {T G : Type 0} (f : Form T G) (x : T) → Bool → T
choose f x b = cond b (f.blank x) x

pub drafted_none : {T G : Type 0} (f : Form T G) (bound : ℕ) (ys : List T) → first_above bound (map f.nests ys) ≡ None → map (draft_items f bound) ys ≡ ys
unfolding choose
drafted_none f bound [] h = refl
drafted_none f bound (y ∷ ys) h =
    let k = none_choice (nat_lt bound (f.nests y)) (f.nests y) (first_above bound (map f.nests ys)) h in
    ap (λ b. choose f y b ∷ map (draft_items f bound) ys) k.0 ∙ ap (λ l. y ∷ l) (drafted_none f bound ys k.1)

-- ---- few locals

groups_count : (gs : List Group) → local_count (map profile.group_node gs) ≡ locals_of gs
groups_count [] = refl
groups_count (g ∷ gs) = ap (λ n. g.count + n) (groups_count gs)

pub body_groups : (b : Bool) (x : Body) → (cond b (body_form.blank x) x).groups ≡ x.groups
body_groups true x = refl
body_groups false x = refl

few_drafted : (bound : ℕ) (ys : List Body) → HaveFewLocals (map profile.body_node ys) → AreFew (map (draft_items body_form bound) ys)
few_drafted bound [] h = tt
few_drafted bound (y ∷ ys) h =
    (let e = ap locals_of (body_groups (nat_lt bound (body_form.nests y)) y) in let k = groups_count y.groups in omega (arith, e, k, h.0), few_drafted bound ys h.1)

pub few_in : (bound : ℕ) (d : Draft) (g : grammar.ModuleNode) → IsDraft bound d g → d.bodies.floats ≡ false → AreFew d.bodies.items.items
few_in bound d g h e =
    let (ys, v, w, a) = stood body_form bound d.bodies.floats d.bodies.items.items d.bodies.deep g.bodies (h code_section).0.0 e in
    subst AreFew (sym w) (few_drafted bound ys (subst HaveFewLocals v (h code_section).1))

-- ---- the module

abbrev tree_by : List grammar.FuncTypeNode → List grammar.ImportNode → List ℕ → List Range → List Range → List grammar.GlobalNode → List grammar.ExportNode → Option ℕ → List grammar.ElementNode → List grammar.BodyNode → List grammar.SegmentNode → List Text → grammar.ModuleNode
tree_by a b c d e f g h i j k l = record {
  types = a;
  imports = b;
  funcs = c;
  tables = d;
  memories = e;
  globals = f;
  exports = g;
  start = h;
  elements = i;
  bodies = j;
  segments = k;
  customs = l;
}

-- two trees of one module, part by part
record SameParts (m n : grammar.ModuleNode) : Type 0 where
  types : m.types ≡ n.types
  imports : m.imports ≡ n.imports
  funcs : m.funcs ≡ n.funcs
  tables : m.tables ≡ n.tables
  memories : m.memories ≡ n.memories
  globals : m.globals ≡ n.globals
  exports : m.exports ≡ n.exports
  start : m.start ≡ n.start
  elements : m.elements ≡ n.elements
  bodies : m.bodies ≡ n.bodies
  segments : m.segments ≡ n.segments
  customs : m.customs ≡ n.customs

same_module : (m n : grammar.ModuleNode) → SameParts m n → m ≡ n
same_module m n s =
    ap (λ v. tree_by v m.imports m.funcs m.tables m.memories m.globals m.exports m.start m.elements m.bodies m.segments m.customs) s.types
    ∙ ap (λ v. tree_by n.types v m.funcs m.tables m.memories m.globals m.exports m.start m.elements m.bodies m.segments m.customs) s.imports
    ∙ ap (λ v. tree_by n.types n.imports v m.tables m.memories m.globals m.exports m.start m.elements m.bodies m.segments m.customs) s.funcs
    ∙ ap (λ v. tree_by n.types n.imports n.funcs v m.memories m.globals m.exports m.start m.elements m.bodies m.segments m.customs) s.tables
    ∙ ap (λ v. tree_by n.types n.imports n.funcs n.tables v m.globals m.exports m.start m.elements m.bodies m.segments m.customs) s.memories
    ∙ ap (λ v. tree_by n.types n.imports n.funcs n.tables n.memories v m.exports m.start m.elements m.bodies m.segments m.customs) s.globals
    ∙ ap (λ v. tree_by n.types n.imports n.funcs n.tables n.memories n.globals v m.start m.elements m.bodies m.segments m.customs) s.exports
    ∙ ap (λ v. tree_by n.types n.imports n.funcs n.tables n.memories n.globals n.exports v m.elements m.bodies m.segments m.customs) s.start
    ∙ ap (λ v. tree_by n.types n.imports n.funcs n.tables n.memories n.globals n.exports n.start v m.bodies m.segments m.customs) s.elements
    ∙ ap (λ v. tree_by n.types n.imports n.funcs n.tables n.memories n.globals n.exports n.start n.elements v m.segments m.customs) s.bodies
    ∙ ap (λ v. tree_by n.types n.imports n.funcs n.tables n.memories n.globals n.exports n.start n.elements n.bodies v m.customs) s.segments
    ∙ ap (λ v. tree_by n.types n.imports n.funcs n.tables n.memories n.globals n.exports n.start n.elements n.bodies n.segments v) s.customs

-- the draft, with other items that have code
abbrev with_code : Draft → List GlobalDef → List Element → List Body → List Segment → Module
with_code d gs es bs ss = record (module_in d) { globals = gs; elements = es; bodies = bs; segments = ss }

-- the module that a draft stands for
pub record IsSettled (bound : ℕ) (d : Draft) (g : grammar.ModuleNode) : Type 0 where
  pub module_of : Module
  pub tree : tree_of module_of ≡ g
  pub draft : module_in d ≡ without_deep bound module_of
  pub deep : deep_in d ≡ first_above bound (limited_counts module_of Nesting)

pub first_four : (bound : ℕ) (a b c d : List ℕ) → or_else (first_above bound a) (or_else (first_above bound b) (or_else (first_above bound c) (first_above bound d))) ≡ first_above bound (a ++ b ++ c ++ d)
first_four bound a b c d = sym (simp (append_assoc, first_append) refl)

pub settled : (bound : ℕ) (d : Draft) (g : grammar.ModuleNode) → IsDraft bound d g → FloatsNowhere d → IsSettled bound d g
settled bound d g h n =
    let (gs, ge, gd, ga) = stood global_form bound d.globals.floats d.globals.items.items d.globals.deep g.globals (h global_section).0 n.globals in
    let (es, ee, ed, ea) = stood element_form bound d.elements.floats d.elements.items.items d.elements.deep g.elements (h element_section).0 n.elements in
    let (bs, be, bd, ba) = stood body_form bound d.bodies.floats d.bodies.items.items d.bodies.deep g.bodies (h code_section).0.0 n.bodies in
    let (ss, se, sd, sa) = stood segment_form bound d.segments.floats d.segments.items.items d.segments.deep g.segments (h data_section).0 n.segments in
    let m : Module = with_code d gs es bs ss in
    record {
      module_of = m;
      tree = same_module (tree_of m) g (record {
        types = sym (all_items func_type_form.floats profile.func_type_node bound d.types.floats d.types.items.items d.types.deep g.types (h type_section).0 n.types);
        imports = sym (all_items import_form.floats profile.import_node bound d.imports.floats d.imports.items.items d.imports.deep g.imports (h import_section).0 n.imports);
        funcs = sym (plain_items (λ (x : ℕ). x) bound d.funcs.floats d.funcs.items.items d.funcs.deep g.funcs (h function_section).0 ∙ map_same d.funcs.items.items);
        tables = sym (plain_items (λ (x : Range). x) bound d.tables.floats d.tables.items.items d.tables.deep g.tables (h table_section).0 ∙ map_same d.tables.items.items);
        memories = sym (plain_items (λ (x : Range). x) bound d.memories.floats d.memories.items.items d.memories.deep g.memories (h memory_section).0 ∙ map_same d.memories.items.items);
        globals = sym ge;
        exports = sym (plain_items profile.export_node bound d.exports.floats d.exports.items.items d.exports.deep g.exports (h export_section).0);
        start = h start_section;
        elements = sym ee;
        bodies = sym be;
        segments = sym se;
        customs = h custom_section;
      });
      draft = ap (λ v. with_code d v d.elements.items.items d.bodies.items.items d.segments.items.items) gd
          ∙ ap (λ v. with_code d (map (draft_items global_form bound) gs) v d.bodies.items.items d.segments.items.items) ed
          ∙ ap (λ v. with_code d (map (draft_items global_form bound) gs) (map (draft_items element_form bound) es) v d.segments.items.items) bd
          ∙ ap (λ v. with_code d (map (draft_items global_form bound) gs) (map (draft_items element_form bound) es) (map (draft_items body_form bound) bs) v) sd;
      deep = ap (λ v. or_else v (or_else d.elements.deep (or_else d.bodies.deep d.segments.deep))) ga
          ∙ ap (λ v. or_else (first_above bound (map global_form.nests gs)) (or_else v (or_else d.bodies.deep d.segments.deep))) ea
          ∙ ap (λ v. or_else (first_above bound (map global_form.nests gs)) (or_else (first_above bound (map element_form.nests es)) (or_else v d.segments.deep))) ba
          ∙ ap (λ v. or_else (first_above bound (map global_form.nests gs)) (or_else (first_above bound (map element_form.nests es)) (or_else (first_above bound (map body_form.nests bs)) v))) sa
          ∙ first_four bound (map global_form.nests gs) (map element_form.nests es) (map body_form.nests bs) (map segment_form.nests ss);
    }
