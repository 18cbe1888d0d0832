-- The site of a body, among those of its module.
use Rattle.std.proofs.Common.{◌≡◌, ◌∙◌, ℕ, zero, suc, ◌+◌, ◌<◌, List, [], ◌∷◌, length, Some, None, Bool, sym, ap, ap₂, subst, slice_get, get_or, arith}
use Rattle.std.proofs.lemmas.Option.{slice_get-get_or}
use Rattle.wasm_sem.specs.Types.{Body, FuncType, Module}
use Rattle.module_ast.specs.Places.{Mark, marks, func_type_or}
use Rattle.module_ast.specs.Structure.{is_start}
use Rattle.module_ast.specs.Validation.{Context, push, body_context, function_types}
use Rattle.code_valid.specs.Bodies.{body_of, IsContextOf, IsTypedBody}
use Rattle.code_valid.specs.declared.marks.Marks.{Marks}
use Rattle.code_valid.proofs.Computed.{computed}
use Rattle.hook_mono.specs.Needed.{Site, import_count, site_of, sites_from, sites}
use Rattle.wasm_sem.proofs.Straight.{none_some, some_is}
use Rattle.rewrite_needs.specs.Rising.{MarksRiseFrom}
use Rattle.rewrite_needs.proofs.Rising.{code_rises}

-- by the index of its type and its body
pub site_there : (m : Module) (f : ℕ) (tys : List ℕ) (bs : List Body) (k ty : ℕ) (b : Body) → slice_get tys k ≡ Some ty → slice_get bs k ≡ Some b → slice_get (sites_from m f tys bs) k ≡ Some (site_of m (f + k) ty b)
site_there m f [] bs k ty b h i = absurd (none_some h)
site_there m f (ty1 ∷ tys) [] k ty b h i = absurd (none_some i)
site_there m f (ty1 ∷ tys) (b1 ∷ bs) zero ty b h i =
    let e : f ≡ f + 0 = omega arith in
    ap₂ (λ (ty : ℕ) (b : Body). Some (site_of m f ty b)) (some_is h) (some_is i) ∙ ap (λ g. Some (site_of m g ty b)) e
site_there m f (ty1 ∷ tys) (b1 ∷ bs) (suc k) ty b h i =
    let e : (f + 1) + k ≡ f + suc k = omega arith in site_there m (f + 1) tys bs k ty b h i ∙ ap (λ g. Some (site_of m g ty b)) e

abbrev pub site_with : (func : ℕ) (starts : Bool) → (env : Context) → Body → List Mark → Site
site_with func starts env b ms = record { func = func; starts = starts; context = body_of env; body = b; marks = ms }

-- the type of a function of a typed body
record HasType (m : Module) (defined : ℕ) : Type 0 where
  ty : ℕ
  t : FuncType
  func : slice_get m.funcs defined ≡ Some ty
  type : slice_get m.types ty ≡ Some t

has_type : (m : Module) (defined : ℕ) (found : Marks) → IsTypedBody m defined found → HasType m defined
has_type m defined found h =
    let bodies = h.whole.bodies in
    let few : defined < length m.funcs = omega (arith, h.in_range) in
    let ty = get_or m.funcs defined 0 in
    let none : FuncType = func_type_or None in
    record {
      ty = ty;
      t = get_or m.types ty none;
      func = slice_get-get_or m.funcs defined 0 few;
      type = slice_get-get_or m.types ty none (h.rules function_types defined 0 few);
    }

module _ (m : Module) (defined : ℕ) (found : Marks) (h : IsTypedBody m defined found) (b : Body) (body : slice_get m.bodies defined ≡ Some b) where
  abbrev type : HasType m defined
  type = has_type m defined found h

  abbrev context : Context
  context = body_context m type.t b

  -- its marks are those that are computed
  same_marks : found.types ≡ marks context b.code
  same_marks =
      (computed context 0 0 b.code [] (push type.t.results []) found.types found.height (h.typed type.ty type.t b type.func type.type body)
      (h.marks type.ty type.t b type.func type.type body)).0

  pub marks_rise : MarksRiseFrom 0 found.types
  marks_rise = subst (MarksRiseFrom 0) (sym same_marks) (code_rises context 0 b.code [])

  pub site_is : (env : Context) (func : ℕ) (starts : Bool) → IsContextOf m defined env → func ≡ import_count m + defined → starts ≡ is_start m.start func
      → slice_get (sites m) defined ≡ Some (site_with func starts env b found.types)
  site_is env func starts of at start =
      let found_type : func_type_or (slice_get m.types type.ty) ≡ type.t = ap func_type_or type.type in
      let c : body_of env ≡ body_context m (func_type_or (slice_get m.types type.ty)) b = of type.ty type.t b type.func type.type body ∙ ap (λ t. body_context m t b) (sym found_type) in
      let ms : found.types ≡ marks (body_context m (func_type_or (slice_get m.types type.ty)) b) b.code = same_marks ∙ ap (λ t. marks (body_context m t b) b.code) (sym found_type) in
      let s : starts ≡ is_start m.start (import_count m + defined) = start ∙ ap (is_start m.start) at in
      site_there m (import_count m) m.funcs m.bodies defined type.ty b type.func body
      ∙ sym (λ i. Some (record { func = at i; starts = s i; context = c i; body = b; marks = ms i }))
