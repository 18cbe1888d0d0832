use Rattle.std.proofs.Common.{arith, ◌≡◌, ◌∙◌, ◌<◌, List, ℕ, Some, length, slice_get, slice_index_or, ap, ap₂, subst, sym}
use Rattle.wasm_sem.specs.Types.{FuncType, Group, Module}
use Rattle.module_ast.specs.Binary.{locals_of}
use Rattle.code_valid.specs.declared.marks.Marks.{Marks}
use Rattle.code_valid.specs.Bodies.{IsTypedBody}
use Rattle.code_valid.proofs.Sizes.{few_locals, flat}
use Rattle.run_store.proofs.Resolving.{type_within, own_stands, own_height}
use Rattle.run_store.proofs.functions.own_function.Goals as goal

pub bounds-as_slice-as_slice : goal.bounds-as_slice-as_slice
bounds-as_slice-as_slice c =
    subst (λ (fs : List ℕ). slice_index_or fs c.args.defined 0 < length c.as_slice.result.now) (sym (c.as_slice-2.ensures ∙ ap (λ (m : Module). m.funcs) c.module-module.ensures.module))
    (subst (λ (ts : List FuncType). slice_index_or c.args.valid.now.funcs c.args.defined 0 < length ts) (sym (c.as_slice.ensures ∙ ap (λ (m : Module). m.types) c.module-module.ensures.module))
    (type_within c.args.valid.now c.args.defined c.module-module.ensures.whole c.module-module.ensures.valid.rules c.requires))

pub count_locals-requires : goal.count_locals-requires
count_locals-requires c =
    let body_at : slice_get c.args.valid.now.bodies c.args.defined ≡ Some c.body-body.result.now = sym (ap₂ (λ (m : Module) (k : ℕ). slice_get m.bodies k) c.typed-typed.ensures.of c.typed-typed.ensures.at) ∙ c.body-body.ensures in
    subst (λ (gs : List Group). locals_of gs < 4294967296) (sym c.as_slice-3.ensures) (few_locals c.args.valid.now c.args.defined c.body-body.result.now c.module-module.ensures.whole body_at)

pub nesting-requires : goal.nesting-requires
nesting-requires c =
    let body_at : slice_get c.args.valid.now.bodies c.args.defined ≡ Some c.body-body.result.now = sym (ap₂ (λ (m : Module) (k : ℕ). slice_get m.bodies k) c.typed-typed.ensures.of c.typed-typed.ensures.at) ∙ c.body-body.ensures in
    flat c.args.valid.now c.args.defined c.body-body.result.now c.module-module.ensures.whole body_at

pub returns-clause-size : goal.returns-clause-size
returns-clause-size c =
    let body_at : slice_get c.args.valid.now.bodies c.args.defined ≡ Some c.body-body.result.now = sym (ap₂ (λ (m : Module) (k : ℕ). slice_get m.bodies k) c.typed-typed.ensures.of c.typed-typed.ensures.at) ∙ c.body-body.ensures in
    let type_is = c.index-as_slice-as_slice.is ∙ ap₂ (λ (ts : List FuncType) (fs : List ℕ). slice_index_or ts (slice_index_or fs c.args.defined 0) c.index-as_slice-as_slice.result)
    (c.as_slice.ensures ∙ ap (λ (m : Module). m.types) c.module-module.ensures.module) (c.as_slice-2.ensures ∙ ap (λ (m : Module). m.funcs) c.module-module.ensures.module) in
    let typed : IsTypedBody c.args.valid.now c.args.defined c.typed-typed.result.marks =
    subst (λ (m : Module). IsTypedBody m c.args.defined c.typed-typed.result.marks) c.typed-typed.ensures.of
    (subst (λ k. IsTypedBody c.typed-typed.result.module k c.typed-typed.result.marks) c.typed-typed.ensures.at c.marks.ensures.typed) in
    let few = few_locals c.args.valid.now c.args.defined c.body-body.result.now c.module-module.ensures.whole body_at in
    let flat_body = flat c.args.valid.now c.args.defined c.body-body.result.now c.module-module.ensures.whole body_at in
    let locals = c.count_locals.ensures ∙ ap locals_of c.as_slice-3.ensures in (
      record {
        locals_are = c.count_locals.ensures ∙ ap locals_of c.as_slice-3.ensures;
        high_is = c.in-Ok.ensures.1 ∙ ap (λ (found : Marks). found.height) c.marks.ensures.marks
            ∙ own_height c.args.valid.now c.args.defined c.module-module.ensures.whole c.module-module.ensures.valid.rules c.requires c.index-as_slice-as_slice.result type_is c.body-body.result.now body_at c.typed-typed.result.marks typed;
        nesting_is = c.nesting.ensures;
      },
      record { values = omega (arith, c.in-Ok.ensures, few, locals); labels = omega (arith, c.nesting.ensures, flat_body) },
    )

pub returns-clause-stands : goal.returns-clause-stands
returns-clause-stands c =
    let body_at : slice_get c.args.valid.now.bodies c.args.defined ≡ Some c.body-body.result.now = sym (ap₂ (λ (m : Module) (k : ℕ). slice_get m.bodies k) c.typed-typed.ensures.of c.typed-typed.ensures.at) ∙ c.body-body.ensures in
    let type_is = c.index-as_slice-as_slice.is ∙ ap₂ (λ (ts : List FuncType) (fs : List ℕ). slice_index_or ts (slice_index_or fs c.args.defined 0) c.index-as_slice-as_slice.result)
    (c.as_slice.ensures ∙ ap (λ (m : Module). m.types) c.module-module.ensures.module) (c.as_slice-2.ensures ∙ ap (λ (m : Module). m.funcs) c.module-module.ensures.module) in
    own_stands c.args.valid.now c.args.defined c.module-module.ensures.whole c.module-module.ensures.valid.rules c.requires c.index-as_slice-as_slice.result type_is c.body-body.result.now body_at
