-- Where no group is selected, the output is the module as it is, without its custom sections.
use Rattle.std.proofs.Common.{◌≡◌, ℕ, ◌+◌, List, [], ◌∷◌, ◌++◌, length, map, Bool, true, false, cond, nat_lt, Option, Some, None, option_map, refl, sym, ap, ap₂, ◌∙◌, arith}
use Rattle.std.proofs.lemmas.List.{append-nil}
use Rattle.wasm_sem.specs.Types.{Body, Module, Selection, HookKey}
use Rattle.hook_select.specs.Selections.{no_hooks, hooks_at}
use Rattle.module_ast.specs.Lists.{when}
use Rattle.module_ast.specs.Places.{Scope, block_scope, loop_scope, if_scope, then_scope, else_scope, function_scope, goes_on, left_by}
use Rattle.module_ast.specs.Structure.{Tree, done, plain, plains, block, loop, if_then, if_else, Plain, call, br, br_if, num, return_}
use Rattle.module_ast.specs.Binary.{module_bytes, without_customs}
use Rattle.module_ast.specs.declared.module.Element.{Element}
use Rattle.module_ast.specs.declared.module.Export.{Export}
use Rattle.module_ast.specs.declared.module.ExportKind.{ExportKind}
use Rattle.module_ast.specs.declared.module.ExportKind.TheVariants as kinds
use Rattle.hook_mono.specs.declared.HookKey.TheVariants as keys
use Rattle.hook_mono.specs.Needed.{Site, import_count, site_of, sites_from, sites, needed_keys}
use Rattle.i64_split.specs.Split.{ints_in, longs_in, pool_groups}
use Rattle.index_remap.specs.declared.Remap.{Remap}
use Rattle.index_remap.specs.Remap.{map_index, map_plain, map_tree, map_reference, map_export, map_element}
use Rattle.rewrite_needs.specs.Temporaries.{greatest}
use Rattle.rewrite.specs.Setting.{Setting, remap, tell_ends}
use Rattle.rewrite.specs.Templates.{template, end_code}
use Rattle.rewrite.specs.Rewrite.{instr_code, live_code, setting_of, rewritten_code, rewritten_body}
use Rattle.instrument.specs.Output.{hook_remap, output_body, output_with, output_bytes}
use Rattle.instrument.specs.Plan.{HookPlan}
use Rattle.instrument.specs.Laws.{LeftOutAreCopied}
use Rattle.rewrite_needs.proofs.Sites.{site_there}
use Rattle.std.proofs.lemmas.Option.{slice_get-map}
use Rattle.instrument.proofs.NoneNeeded.{none_wanted, none_temps, IsEmpty, none_needed}

-- ---- no hook is added, so each index stays

either : {A : Type 0} (b : Bool) (x y z : A) → x ≡ z → y ≡ z → cond b x y ≡ z
either true x y z e f = e
either false x y z e f = f

each_same : {A : Type 0} (f : A → A) → ((x : A) → f x ≡ x) → (xs : List A) → map f xs ≡ xs
each_same f same [] = refl
each_same f same (x ∷ xs) = ap₂ (λ y ys. y ∷ ys) (same x) (each_same f same xs)

abbrev unmoved : ℕ → Remap
unmoved imports = record { imports = imports; added = 0 }

module _ (imports : ℕ) where
  index_same : (f : ℕ) → map_index (unmoved imports) f ≡ f
  index_same f = either (nat_lt f imports) f (f + 0) f refl (omega arith)

  plain_same : (i : Plain) → map_plain (unmoved imports) i ≡ i
  plain_same (call f) = ap call (index_same f)
  plain_same i = refl

  tree_same : (k : Tree) → map_tree (unmoved imports) k ≡ k
  tree_same done = refl
  tree_same (plain i k) = ap₂ plain (plain_same i) (tree_same k)
  tree_same (block ty body k) = ap₂ (block ty) (tree_same body) (tree_same k)
  tree_same (loop ty body k) = ap₂ (loop ty) (tree_same body) (tree_same k)
  tree_same (if_then ty body k) = ap₂ (if_then ty) (tree_same body) (tree_same k)
  tree_same (if_else ty body other k) = λ i. if_else ty (tree_same body i) (tree_same other i) (tree_same k i)

  reference_same : (kind : ExportKind) (i : ℕ) → map_reference (unmoved imports) kind i ≡ i
  reference_same kinds.Func i = index_same i
  reference_same kinds.Table i = refl
  reference_same kinds.Memory i = refl
  reference_same kinds.Global i = refl

  export_same : (e : Export) → map_export (unmoved imports) e ≡ e
  export_same e = ap (λ n. record { name = e.name; kind = e.kind; index = n }) (reference_same e.kind e.index)

  element_same : (e : Element) → map_element (unmoved imports) e ≡ e
  element_same e = ap (λ fs. record { table = e.table; offset = e.offset; funcs = fs }) (each_same (map_index (unmoved imports)) index_same e.funcs)

  start_same : (start : Option ℕ) → option_map (map_index (unmoved imports)) start ≡ start
  start_same None = refl
  start_same (Some f) = ap Some (index_same f)

-- ---- no hook is called, so each body stays, with its calls remapped

module _ (table : List HookKey) (imports : ℕ) (s : Site) where
  abbrev w : Setting
  w = setting_of no_hooks table imports s

  ends_none : (ss : List Scope) → tell_ends w ss ≡ []
  ends_none [] = refl
  ends_none (b ∷ bs) = ends_none bs

  end_none : (ss : List Scope) → end_code w ss ≡ []
  end_none [] = refl
  end_none (b ∷ []) = refl
  end_none (b ∷ (outer ∷ more)) = refl

  template_same : (ss : List Scope) (p : ℕ) (i : Plain) → template w ss p i ≡ map_plain (remap w) i ∷ []
  template_same ss p (br l) = ap (λ (ends : List Plain). ends ++ br l ∷ []) (ends_none (left_by ss l))
  template_same ss p return_ = ap (λ (ends : List Plain). ends ++ return_ ∷ []) (ends_none ss)
  template_same ss p (call f) = refl
  template_same ss p (num op) = search (none_wanted (keys.Num op))
  template_same ss p i = refl

  instr_same : (ss : List Scope) (p : ℕ) (i : Plain) (k : Tree) → instr_code w ss p i k ≡ plain (map_plain (remap w) i) k
  instr_same ss p (br_if l) k = refl
  instr_same ss p i k = ap (λ is. plains is k) (template_same ss p i)

  live_same : (ss : List Scope) (p : ℕ) (k : Tree) → live_code w ss p k ≡ map_tree (remap w) k
  live_same ss p done = ap (λ is. plains is done) (end_none ss)
  live_same ss p (plain i k) =
      instr_same ss p i _ ∙ ap (plain (map_plain (remap w) i)) (either (goes_on i) _ _ (map_tree (remap w) k) (live_same ss (p + 1) k) refl)
  live_same ss p (block ty body k) =
      let b = block_scope p body in ap₂ (block ty) (live_same (b ∷ ss) (p + 1) body) (live_same ss (b.end + 1) k)
  live_same ss p (loop ty body k) =
      let b = loop_scope p body in ap₂ (loop ty) (live_same (b ∷ ss) (p + 1) body) (live_same ss (b.end + 1) k)
  live_same ss p (if_then ty body k) =
      let b = if_scope p body in ap₂ (if_then ty) (live_same (b ∷ ss) (p + 1) body) (live_same ss (b.end + 1) k)
  live_same ss p (if_else ty body other k) =
      let a = then_scope p body other in
      let b = else_scope p body other in
      λ i. if_else ty (live_same (a ∷ ss) (p + 1) body i) (live_same (b ∷ ss) (a.end + 1) other i) (live_same ss (b.end + 1) k i)

  nothing_when : (b : Bool) → when b (let nothing : List Plain = [] in nothing) ≡ []
  nothing_when true = refl
  nothing_when false = refl

  code_same : (k : Tree) → rewritten_code w k ≡ map_tree (remap w) k
  code_same k =
      ap (λ is. plains (is ++ []) (live_code w (function_scope k ∷ []) 0 k)) (nothing_when s.starts) ∙ live_same (function_scope k ∷ []) 0 k

  pool_none : pool_groups w.pool ≡ []
  pool_none = ap (λ ts. pool_groups (record { base = length s.context.locals; ints = greatest ints_in ts; longs = greatest longs_in ts })) (none_temps s)

  -- so the body of a function without hooks is that of the original with its indices moved
  pub body_copied : rewritten_body w ≡ record { groups = s.body.groups; code = map_tree (remap w) s.body.code }
  body_copied = λ i. record { groups = (ap (λ gs. s.body.groups ++ gs) pool_none ∙ append-nil s.body.groups) i; code = code_same s.body.code i }

-- the body of a function that is not selected is such a copy
pub unselected_copied : (m : Module) (hooks : Selection) (keys : List HookKey) (s : Site) → hooks_at hooks s.func ≡ no_hooks
    → output_body m hooks keys s ≡ record { groups = s.body.groups; code = map_tree (hook_remap m keys) s.body.code }
unselected_copied m hooks keys s none = ap (λ h. rewritten_body (setting_of h keys (import_count m) s)) none ∙ body_copied keys (import_count m) s

-- where no hook is added either, it is the body itself
body_same : (m : Module) (hooks : Selection) (s : Site) → hooks_at hooks s.func ≡ no_hooks → output_body m hooks [] s ≡ s.body
body_same m hooks s none = unselected_copied m hooks [] s none ∙ ap (λ (k : Tree). record { groups = s.body.groups; code = k }) (tree_same (import_count m) s.body.code)

module _ (m : Module) (hooks : Selection) (empty : IsEmpty hooks) where
  bodies_same : (f : ℕ) (tys : List ℕ) (bs : List Body) → length tys ≡ length bs → map (output_body m hooks []) (sites_from m f tys bs) ≡ bs
  bodies_same f [] [] e = refl
  bodies_same f [] (b ∷ bs) e = absurd (omega (arith, e))
  bodies_same f (ty ∷ tys) [] e = absurd (omega (arith, e))
  bodies_same f (ty ∷ tys) (b ∷ bs) e =
      ap₂ (λ (x : Body) xs. x ∷ xs) (body_same m hooks (site_of m f ty b) (empty f)) (bodies_same (f + 1) tys bs (omega (arith, e)))

  module_same : length m.funcs ≡ length m.bodies → output_with m hooks [] ≡ without_customs m
  module_same e =
      let imports = import_count m in
      λ i. record m {
        types = append-nil m.types i;
        imports = append-nil m.imports i;
        exports = each_same _ (export_same imports) m.exports i;
        start = start_same imports m.start i;
        elements = each_same _ (element_same imports) m.elements i;
        bodies = bodies_same imports m.funcs m.bodies e i;
        customs = [];
      }

  output_none : length m.funcs ≡ length m.bodies → output_bytes m hooks ≡ module_bytes m
  output_none e = ap (λ ks. module_bytes (output_with m hooks ks)) (none_needed m hooks empty) ∙ ap module_bytes (module_same e)

-- the bytes of a plan's module are those of its output
pub output_same : (q p : HookPlan) (m : Module) → q ≡ p → m ≡ q.module → IsEmpty q.hooks → length q.module.funcs ≡ length q.module.bodies
    → module_bytes m ≡ output_bytes p.module p.hooks
output_same q p m view of empty e =
    ap module_bytes of ∙ sym (output_none q.module q.hooks empty e) ∙ ap (λ (p : HookPlan). output_bytes p.module p.hooks) view

-- so is the body of the output of each defined function that is left out
pub left_out_copied : LeftOutAreCopied
left_out_copied m hooks defined ty b func body out =
    let keys = needed_keys m hooks in
    let s = site_of m (import_count m + defined) ty b in
    slice_get-map (output_body m hooks keys) (sites m) defined
    ∙ ap (option_map (output_body m hooks keys)) (site_there m (import_count m) m.funcs m.bodies defined ty b func body)
    ∙ ap Some (unselected_copied m hooks keys s (ap (λ c. cond c hooks.groups no_hooks) out))
