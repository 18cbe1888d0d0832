-- The functions of a module, one after another.
use Rattle.std.proofs.Common.{◌≡◌, ℕ, ◌+◌, ◌<◌, List, [], ◌∷◌, ◌++◌, length, map, drop, Option, Some, slice_get, slice_index_or, sym, ap, ap₂, subst, ◌∙◌, append_assoc, arith}
use Rattle.std.proofs.lemmas.List.{drop_more, map-append, length-map}
use Rattle.std.proofs.lemmas.Option.{slice_get-get_or, get_or_from_slice_get, slice_get-map}
use Rattle.std.specs.Prelude.{option_map}
use Rattle.wasm_sem.specs.Types.{Body, FuncType, Import, Module}
use Rattle.module_ast.specs.Validation.{IsWhole, push, KeepsRules, function_types, body_context, declared_locals}
use Rattle.module_ast.specs.Places.{height}
use Rattle.code_valid.specs.declared.marks.Marks.{Marks}
use Rattle.code_valid.specs.Bodies.{IsTypedBody}
use Rattle.code_valid.proofs.Computed.{computed}
use Rattle.wasm_sem.specs.Execution.{Callee, own, is_hook, item_callees, import_callees, own_callee, own_callees, callees_of}
use Rattle.wasm_sem.specs.Heights.{function_context}
use Rattle.wasm_sem.proofs.SoundCallees.{has_at}
use Rattle.wasm_sem.proofs.Straight.{some_is}
use Rattle.run_store.specs.declared.functions.Function.{Function}
use Rattle.run_store.specs.Resolved.{callee_for, HasSize, AreFunctionsOf}

-- one more, whatever is left
behind_one : (fs : List Function) (f : Function) (rest : List Callee) → map callee_for (fs ++ f ∷ []) ++ rest ≡ map callee_for fs ++ (callee_for f ∷ rest)
behind_one fs f rest = ap (λ cs. cs ++ rest) (map-append callee_for fs (f ∷ [])) ∙ append_assoc (map callee_for fs) (callee_for f ∷ []) rest

module _ (types : List FuncType) (is : List Import) (k : ℕ) (i : Import) (fs : List Function) (whole : List Callee) (lt : k < length is) (at : i ≡ slice_index_or is k i)
    (before : map callee_for fs ++ import_callees types (drop k is) ≡ whole) where
  left : import_callees types (drop k is) ≡ item_callees types (is_hook i) i.item ++ import_callees types (drop (k + 1) is)
  left = ap (import_callees types) (drop_more is k i lt ∙ ap (λ x. x ∷ drop (k + 1) is) (sym at))

  -- an import of a function
  pub import_more : (f : Function) → item_callees types (is_hook i) i.item ≡ callee_for f ∷ [] → map callee_for (fs ++ f ∷ []) ++ import_callees types (drop (k + 1) is) ≡ whole
  import_more f stands =
      behind_one fs f (import_callees types (drop (k + 1) is))
      ∙ ap (λ cs. map callee_for fs ++ (cs ++ import_callees types (drop (k + 1) is))) (sym stands)
      ∙ ap (λ cs. map callee_for fs ++ cs) (sym left)
      ∙ before

  -- another import
  pub import_none : item_callees types (is_hook i) i.item ≡ [] → map callee_for fs ++ import_callees types (drop (k + 1) is) ≡ whole
  import_none none =
      ap (λ cs. map callee_for fs ++ (cs ++ import_callees types (drop (k + 1) is))) (sym none)
      ∙ ap (λ cs. map callee_for fs ++ cs) (sym left)
      ∙ before

-- a function of the module's own
pub own_more : (m : Module) (k : ℕ) (fs : List Function) (f : Function) → IsWhole m → k < length m.bodies → map callee_for fs ++ own_callees m.types (drop k m.funcs) (drop k m.bodies) ≡ callees_of m
    → ((ty : ℕ) (b : Body) → slice_get m.funcs k ≡ Some ty → slice_get m.bodies k ≡ Some b → own_callee (slice_get m.types ty) b ≡ callee_for f ∷ [])
    → map callee_for (fs ++ f ∷ []) ++ own_callees m.types (drop (k + 1) m.funcs) (drop (k + 1) m.bodies) ≡ callees_of m
own_more m k fs f whole within before stands =
    let bodies = whole.bodies in
    let in_funcs : k < length m.funcs = omega (arith, within) in
    let ty = has_at m.funcs k in_funcs in
    let b = has_at m.bodies k within in
    let left_tys = drop_more m.funcs k ty.item in_funcs ∙ ap (λ x. x ∷ drop (k + 1) m.funcs) (get_or_from_slice_get m.funcs k ty.item ty.item ty.at) in
    let left_bs = drop_more m.bodies k b.item within ∙ ap (λ x. x ∷ drop (k + 1) m.bodies) (get_or_from_slice_get m.bodies k b.item b.item b.at) in
    let left = ap (λ ts. own_callees m.types ts (drop k m.bodies)) left_tys ∙ ap (own_callees m.types (ty.item ∷ drop (k + 1) m.funcs)) left_bs in
    behind_one fs f (own_callees m.types (drop (k + 1) m.funcs) (drop (k + 1) m.bodies))
    ∙ ap (λ cs. map callee_for fs ++ (cs ++ own_callees m.types (drop (k + 1) m.funcs) (drop (k + 1) m.bodies))) (sym (stands ty.item b.item ty.at b.at))
    ∙ ap (λ cs. map callee_for fs ++ cs) (sym left)
    ∙ before

-- ---- a function of the module's own, by its number among these

module _ (m : Module) (defined : ℕ) (whole : IsWhole m) (rules : KeepsRules m) (within : defined < length m.bodies) where
  abbrev type_index : ℕ
  type_index = slice_index_or m.funcs defined 0

  in_funcs : defined < length m.funcs
  in_funcs = let bodies = whole.bodies in omega (arith, within)

  pub type_within : slice_index_or m.funcs defined 0 < length m.types
  type_within = rules function_types defined 0 in_funcs

  index_at : slice_get m.funcs defined ≡ Some type_index
  index_at = slice_get-get_or m.funcs defined 0 in_funcs

  module _ (t : FuncType) (is : t ≡ slice_index_or m.types (slice_index_or m.funcs defined 0) t) (b : Body) (body : slice_get m.bodies defined ≡ Some b) where
    type_at : slice_get m.types type_index ≡ Some t
    type_at = slice_get-get_or m.types type_index t type_within ∙ ap Some (sym is)

    -- it is this one
    pub own_stands : (ty : ℕ) (c : Body) → slice_get m.funcs defined ≡ Some ty → slice_get m.bodies defined ≡ Some c
        → own_callee (slice_get m.types ty) c ≡ own t (declared_locals b.groups) b.code ∷ []
    own_stands ty c func at =
        ap₂ (λ (o : Option FuncType) (d : Body). own_callee o d) (ap (slice_get m.types) (some_is (sym func ∙ index_at)) ∙ type_at) (some_is (sym at ∙ body))

    -- the height that was noted is its body's
    pub own_height : (found : Marks) → IsTypedBody m defined found → found.height ≡ height (function_context m t (declared_locals b.groups)) b.code
    own_height found h =
        (computed (body_context m t b) 0 0 b.code [] (push t.results []) found.types found.height (h.typed type_index t b index_at type_at body)
        (h.marks type_index t b index_at type_at body)).1

-- ---- a function by its index

module _ (m : Module) (fs : List Function) (k : ℕ) (f : Function) (are : AreFunctionsOf m fs) (there : k < length (callees_of m)) (at : f ≡ slice_index_or fs k f) where
  within_functions : k < length fs
  within_functions = omega (arith, there, ap length are.stand, length-map fs callee_for)

  pub function_at : slice_get (callees_of m) k ≡ Some (callee_for f)
  function_at =
      ap (λ cs. slice_get cs k) (sym are.stand) ∙ slice_get-map callee_for fs k
      ∙ ap (option_map callee_for) (slice_get-get_or fs k f within_functions ∙ ap Some (sym at))

  pub function_size : HasSize m f
  function_size = subst (HasSize m) (sym at) (are.sizes k f within_functions)
