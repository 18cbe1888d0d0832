-- How many more operands a frame of the output has at once: those of the hook calls of its body.
use Rattle.std.proofs.Common.{◌≡◌, ℕ, ◌+◌, ◌*◌, ◌≤◌, [], max, length, Some, refl, sym, ap, ◌∙◌, subst, slice_get, arith}
use Rattle.wasm_sem.specs.Types.{FuncType, Body, Module, Selection}
use Rattle.module_ast.specs.Places.{func_type_or, height}
use Rattle.module_ast.specs.Validation.{push, TypesCode, body_context}
use Rattle.module_ast.proofs.Each.{all_by_place}
use Rattle.module_ast.proofs.Indexed.{in_at, mapped_back}
use Rattle.wasm_sem.proofs.Straight.{some_is}
use Rattle.hook_mono.specs.Needed.{import_count, site_of, sites, needed_keys}
use Rattle.rewrite.specs.Cost.{type_width}
use Rattle.rewrite.proofs.PoolRoom.{greatest_over}
use Rattle.rewrite.proofs.HeightsTemplates.{IsTold, HasRise}
use Rattle.rewrite.proofs.HeightsBodies.{rewritten_high}
use Rattle.instrument.specs.Output.{setting_by, output_body, output}
use Rattle.instrument.specs.Laws.{OutputsHaveFewOperands}
use Rattle.instrument.proofs.OutputBodies.{site_is}
use Rattle.instrument.proofs.OutputContext.{widened}
use Rattle.instrument.proofs.OutputHooks.{HasHooks, hooks_found}

-- each type of the module is told within twice the widest and eight
told_within : (m : Module) (i : ℕ) (t : FuncType) → slice_get m.types i ≡ Some t → IsTold (2 * type_width m + 8) t
told_within m i t e =
    let most = greatest_over (λ (t : FuncType). max (length t.params) (length t.results)) m.types t (in_at m.types i t e) in
    (omega (arith, most), omega (arith, most))

body_rise : (m : Module) (ty : ℕ) (t : FuncType) (b : Body) → slice_get m.types ty ≡ Some t → HasRise (body_context m t b) (2 * type_width m + 8)
body_rise m ty t b e = record {
  types = all_by_place (IsTold (2 * type_width m + 8)) m.types (told_within m);
  results = (told_within m ty t e).1;
  some = omega arith;
}

module _ (m : Module) (hooks : Selection) where
  -- the body of a site, rewritten
  site_high : (i f ty : ℕ) (b : Body) → slice_get (sites m) i ≡ Some (site_of m f ty b) → HasRise (body_context m (func_type_or (slice_get m.types ty)) b) (2 * type_width m + 8)
      → TypesCode (body_context m (func_type_or (slice_get m.types ty)) b) b.code [] (push (func_type_or (slice_get m.types ty)).results [])
      → height (body_context (output m hooks) (func_type_or (slice_get m.types ty)) (output_body m hooks (needed_keys m hooks) (site_of m f ty b)))
      (output_body m hooks (needed_keys m hooks) (site_of m f ty b)).code ≤ height (body_context m (func_type_or (slice_get m.types ty)) b) b.code + (2 * type_width m + 8)
  site_high i f ty b e room h =
      let t = func_type_or (slice_get m.types ty) in
      let s = site_of m f ty b in
      let keys = needed_keys m hooks in
      let w = setting_by hooks keys (import_count m) s in
      let o = output_body m hooks keys s in
      let d = body_context (output m hooks) t o in
      let has : HasHooks m keys d = record { types = refl; funcs = refl } in
      rewritten_high w d (widened m hooks keys t b w.pool o refl) (2 * type_width m + 8) room b.code h (hooks_found m hooks i s d e has)

pub few_operands : OutputsHaveFewOperands
few_operands m hooks defined ty t b made valid e1 e2 there new =
    let (s, es, eo) = mapped_back (output_body m hooks (needed_keys m hooks)) (sites m) defined made new in
    let r = site_is m defined s es in
    let same_ty : r.ty ≡ ty = some_is (sym r.type_is ∙ e1) in
    let same : r.body ≡ b = some_is (sym r.body_is ∙ there) in
    let u = func_type_or (slice_get m.types r.ty) in
    let at : slice_get m.types r.ty ≡ Some t = ap (slice_get m.types) same_ty ∙ e2 in
    let is : u ≡ t = ap func_type_or at in
    let room : HasRise (body_context m u r.body) (2 * type_width m + 8) = subst (λ (t : FuncType). HasRise (body_context m t r.body) (2 * type_width m + 8)) (sym is) (body_rise m r.ty t r.body at) in
    let h : TypesCode (body_context m u r.body) r.body.code [] (push u.results []) =
    subst (λ (t : FuncType). TypesCode (body_context m t r.body) r.body.code [] (push t.results [])) (sym is) (valid.bodies defined ty t r.body e1 e2 r.body_is) in
    let high = site_high m hooks defined r.func r.ty r.body (es ∙ ap (λ s. Some s) r.is) room h in
    let body : output_body m hooks (needed_keys m hooks) (site_of m r.func r.ty r.body) ≡ made = ap (output_body m hooks (needed_keys m hooks)) (sym r.is) ∙ eo in
    let by_type = subst (λ (t : FuncType). height (body_context (output m hooks) t (output_body m hooks (needed_keys m hooks) (site_of m r.func r.ty r.body)))
    (output_body m hooks (needed_keys m hooks) (site_of m r.func r.ty r.body)).code ≤ height (body_context m t r.body) r.body.code + (2 * type_width m + 8)) is high in
    let by_made = subst (λ (o : Body). height (body_context (output m hooks) t o) o.code ≤ height (body_context m t r.body) r.body.code + (2 * type_width m + 8)) body by_type in
    subst (λ (b : Body). height (body_context (output m hooks) t made) made.code ≤ height (body_context m t b) b.code + (2 * type_width m + 8)) same by_made
