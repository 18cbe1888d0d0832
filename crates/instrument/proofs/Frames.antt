-- How much larger a frame of the output is: the temporaries of its body.
use Rattle.std.proofs.Common.{◌≡◌, ◌+◌, ◌*◌, ◌≤◌, max, length, Option, Some, None, option_map, slice_get, refl, sym, ap, ◌∙◌, arith}
use Rattle.std.specs.List.{AllByRecursion}
use Rattle.std.proofs.lemmas.Option.{slice_get-map}
use Rattle.wasm_sem.specs.Types.{FuncType, Body, Module}
use Rattle.wasm_sem.proofs.Straight.{some_is, none_some}
use Rattle.module_ast.specs.Binary.{locals_of}
use Rattle.module_ast.proofs.Each.{all_by_place}
use Rattle.module_ast.proofs.Indexed.{in_at}
use Rattle.hook_select.specs.Selections.{hooks_at}
use Rattle.hook_mono.specs.Needed.{Site, site_of, sites, needed_keys}
use Rattle.rewrite_needs.specs.Temporaries.{pool_of}
use Rattle.rewrite.specs.Cost.{type_width}
use Rattle.rewrite.proofs.PoolRoom.{greatest_over}
use Rattle.instrument.specs.Output.{output_body}
use Rattle.instrument.specs.Laws.{OutputsHaveFewLocals}
use Rattle.instrument.proofs.OutputBodies.{site_is}
use Rattle.instrument.proofs.OutputNeeds.{named_types}
use Rattle.instrument.proofs.OutputWithin.{HasFew, pool_count, pool_few}

-- no type is wider than the widest
widths : (m : Module) → AllByRecursion (HasFew (type_width m)) (named_types m)
widths m = (
  (omega arith, omega arith),
  all_by_place (HasFew (type_width m)) m.types (λ i t e.
      let most = greatest_over (λ (t : FuncType). max (length t.params) (length t.results)) m.types t (in_at m.types i t e) in
      (omega (arith, most), omega (arith, most))),
)

pub few_locals : OutputsHaveFewLocals
few_locals m hooks defined b made there new = by (slice_get (sites m) defined) refl
  where
    by : (o : Option Site) → slice_get (sites m) defined ≡ o → locals_of made.groups ≤ locals_of b.groups + (2 * type_width m + 6)
    by None e = absurd (none_some (sym (ap (option_map (output_body m hooks (needed_keys m hooks))) e) ∙ sym (slice_get-map (output_body m hooks (needed_keys m hooks)) (sites m) defined) ∙ new))
    by (Some s) e =
        let r = site_is m defined s e in
        let same : r.body ≡ b = some_is (sym r.body_is ∙ there) in
        let made_is : output_body m hooks (needed_keys m hooks) s ≡ made =
        some_is (sym (ap (option_map (output_body m hooks (needed_keys m hooks))) e) ∙ sym (slice_get-map (output_body m hooks (needed_keys m hooks)) (sites m) defined) ∙ new) in
        let pool = pool_of (hooks_at hooks r.func) (site_of m r.func r.ty r.body) in
        let site_made : output_body m hooks (needed_keys m hooks) (site_of m r.func r.ty r.body) ≡ made = ap (output_body m hooks (needed_keys m hooks)) (sym r.is) ∙ made_is in
        let count : locals_of (output_body m hooks (needed_keys m hooks) (site_of m r.func r.ty r.body)).groups ≡ locals_of r.body.groups + (pool.ints + pool.longs) = pool_count r.body.groups pool in
        omega (
          arith,
          count,
          ap (λ (b : Body). locals_of b.groups) site_made,
          ap (λ (b : Body). locals_of b.groups) same,
          pool_few (type_width m) m (widths m) (hooks_at hooks r.func) r.func r.ty r.body,
        )
