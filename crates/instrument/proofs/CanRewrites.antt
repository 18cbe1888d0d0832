-- Valid modules within the narrow limits have what the rewriting of bodies and the remapping ask.
use Rattle.std.proofs.Common.{◌≡◌, ℕ, ◌+◌, ◌^◌, ◌<◌, ◌≤◌, List, [], ◌∷◌, length, Option, Some, All, IfSome, sym, subst, arith, slice_get, length-append}
use Rattle.std.proofs.lemmas.List.Elements.{All-weaker, recursion_from_All}
use Rattle.std.proofs.lemmas.Option.{slice_get_within}
use Rattle.wasm_sem.specs.Types.{ValType, ExportKind, Export, Element, Body, Module, Hooks, Selection, HookKey}
use Rattle.hook_select.specs.Selections.{everywhere}
use Rattle.module_ast.specs.declared.module.ExportKind.TheVariants.{Func, Table, Memory, Global}
use Rattle.module_ast.specs.declared.module.Which.TheVariants.{Functions, Types, Locals}
use Rattle.module_ast.specs.Binary.{locals_of, IsWithin}
use Rattle.module_ast.specs.Validation.{narrow, Context, push, TypesPlain, TypesCode, function_types, export_indices, start_index, element_funcs, declared_locals, count_of, body_context, IsValid}
use Rattle.module_ast.specs.Places.{func_type_or}
use Rattle.module_ast.specs.Structure.{imported_funcs, funcs_of, Tree, done, plain, block, loop, if_then, if_else, Plain, call}
use Rattle.module_ast.proofs.Each.{all_at}
use Rattle.module_ast.proofs.Indexed.{each_in}
use Rattle.module_ast.proofs.Sizes.{within_all}
use Rattle.hook_mono.specs.Needed.{Site, import_count, site_of, needed_keys}
use Rattle.index_remap.specs.declared.Remap.{Remap}
use Rattle.index_remap.specs.Remap.{MapsIndex, MapsPlain, Maps, MapsReference, MapsModule}
use Rattle.wasm_sem.proofs.Variables.{get_within}
use Rattle.rewrite.specs.Conditions.{HasNumbers, CanRewrite}
use Rattle.rewrite.specs.Rewrite.{setting_of}
use Rattle.rewrite.proofs.TypedPlains.{labelled}
use Rattle.instrument.specs.Output.{hook_remap}
use Rattle.instrument.proofs.OutputBodies.{site_is}
use Rattle.instrument.proofs.OutputNeeds.{named_types, named, needed_count}
use Rattle.instrument.proofs.OutputSpelled.{declared_count}
use Rattle.instrument.proofs.OutputWithin.{HasFew, types_few, pool_few}

-- ---- calls

-- typed code calls functions that are there
module _ (r : Remap) (c : Context) (few : length c.funcs + r.added ≤ 2 ^ 32) where
  plain_maps : (labels : List (List ValType)) (i : Plain) (a b : List ValType) → TypesPlain (labelled c labels) i a b → MapsPlain r i
  plain_maps labels (call f) a b h = let within = slice_get_within c.funcs f h.0 h.2 in λ k. omega arith
  plain_maps labels i a b h = tt

  code_maps : (labels : List (List ValType)) (k : Tree) (a b : List ValType) → TypesCode (labelled c labels) k a b → Maps r k
  code_maps labels done a b h = tt
  code_maps labels (plain i k) a b (m, t, h) = (plain_maps labels i a m t, code_maps labels k m b h)
  code_maps labels (block ty body k) a b (t, below, e, at, h, rest) =
      (code_maps (t.results ∷ labels) body (push t.params []) (push t.results []) h, code_maps labels k (push t.results below) b rest)
  code_maps labels (loop ty body k) a b (t, below, e, at, h, rest) =
      (code_maps (t.params ∷ labels) body (push t.params []) (push t.results []) h, code_maps labels k (push t.results below) b rest)
  code_maps labels (if_then ty body k) a b (t, below, e, at, alike, h, rest) =
      (code_maps (t.results ∷ labels) body (push t.params []) (push t.results []) h, code_maps labels k (push t.results below) b rest)
  code_maps labels (if_else ty body other k) a b (t, below, e, at, h, o, rest) = (
    code_maps (t.results ∷ labels) body (push t.params []) (push t.results []) h,
    code_maps (t.results ∷ labels) other (push t.params []) (push t.results []) o,
    code_maps labels k (push t.results below) b rest,
  )

-- ---- how many hooks there are

module _ (m : Module) (hooks : Selection) (limits : IsWithin narrow m) where
  pub keys_few : length (needed_keys m hooks) ≤ 400260
  keys_few = omega (arith, needed_count m hooks, (limits Types).0)

  -- with all functions of the module
  pub funcs_few : length (needed_keys m hooks) + length (funcs_of m) ≤ 500260
  funcs_few = omega (arith, keys_few, (limits Functions).0)

-- ---- functions that are named outside bodies

module _ (m : Module) (hooks : Selection) (valid : IsValid m) (limits : IsWithin narrow m) where
  maps_index : (f : ℕ) → f < length (funcs_of m) → MapsIndex (hook_remap m (needed_keys m hooks)) f
  maps_index f h = λ k. omega (arith, funcs_few m hooks limits)

  maps_reference : (kind : ExportKind) (i : ℕ) → i < count_of m kind → MapsReference (hook_remap m (needed_keys m hooks)) kind i
  maps_reference Func i h = maps_index i h
  maps_reference Table i h = tt
  maps_reference Memory i h = tt
  maps_reference Global i h = tt

  -- what the remapping of a module asks
  pub maps_module : MapsModule (hook_remap m (needed_keys m hooks)) m
  maps_module =
      let r = hook_remap m (needed_keys m hooks) in
      let within = λ (f : ℕ). f < length (funcs_of m) in
      record {
        exports =
            All-weaker (λ (e : Export). e.index < count_of m e.kind) (λ (e : Export). MapsReference r e.kind e.index) (λ e l. maps_reference e.kind e.index l)
            m.exports (valid.rules export_indices);
        start = λ f e. maps_index f (subst (λ (o : Option ℕ). IfSome o within) e (valid.rules start_index));
        elements =
            All-weaker (λ (e : Element). All within e.funcs) (λ (e : Element). All (MapsIndex r) e.funcs) (λ e l. All-weaker within (MapsIndex r) maps_index e.funcs l)
            m.elements (valid.rules element_funcs);
      }

-- ---- bodies

-- with any groups and hooks, where these and the module's functions are few
module _ (m : Module) (groups : Hooks) (valid : IsValid m) (limits : IsWithin narrow m) (keys : List HookKey) (few : length keys + length (funcs_of m) < 2 ^ 32) where
  -- a defined function
  site_numbers : (defined func ty : ℕ) (b : Body) → slice_get m.funcs defined ≡ Some ty → slice_get m.bodies defined ≡ Some b
      → HasNumbers (setting_of groups keys (import_count m) (site_of m func ty b))
  site_numbers defined func ty b typed there =
      let (t, is) = get_within m.types ty (all_at (λ (ty : ℕ). ty < length m.types) m.funcs defined ty (recursion_from_All (λ (ty : ℕ). ty < length m.types) m.funcs (valid.rules function_types)) typed) in
      let own = func_type_or (slice_get m.types ty) in
      let short = types_few m (everywhere groups) valid limits in
      let params = each_in (HasFew 400) (named_types m) own (named m ty) short in
      let locals = all_at (λ (b : Body). locals_of b.groups ≤ 50000) m.bodies defined b (within_all (λ (b : Body). locals_of b.groups) 50000 m.bodies (limits Locals)) there in
      record {
        hooks = omega (arith, few, length-append (imported_funcs m.imports) m.funcs);
        calls =
            code_maps (hook_remap m keys) (body_context m t b) (omega (arith, few)) (t.results ∷ []) b.code [] (push t.results [])
            (valid.bodies defined ty t b typed is there);
        locals = omega (arith, params.0, locals, pool_few 400 m short groups func ty b, declared_count b.groups, length-append own.params (declared_locals b.groups));
      }

  -- what the rewriting of a body asks
  pub can_rewrite_with : (defined : ℕ) → CanRewrite m defined groups keys (import_count m)
  can_rewrite_with defined s at =
      let r = site_is m defined s at in
      subst (λ (s : Site). HasNumbers (setting_of groups keys (import_count m) s)) (sym r.is) (site_numbers defined r.func r.ty r.body r.type_is r.body_is)

-- with all hooks that the module needs
pub can_rewrite : (m : Module) (groups : Hooks) (hooks : Selection) → IsValid m → IsWithin narrow m → (defined : ℕ) → CanRewrite m defined groups (needed_keys m hooks) (import_count m)
can_rewrite m groups hooks valid limits = can_rewrite_with m groups valid limits (needed_keys m hooks) (omega (arith, funcs_few m hooks limits))
