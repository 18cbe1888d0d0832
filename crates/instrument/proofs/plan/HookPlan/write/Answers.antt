use Rattle.std.proofs.Common.{◌≡◌, ◌<◌, ◌^◌, ℕ, List, Result, Ok, Err, IfOk, length, refl, ap, ◌∙◌, subst, arith}
use Rattle.std.proofs.lemmas.Result.{IfOk-weaker}
use Rattle.module_ast.specs.Binary.{Fits, IsModule, module_bytes, tree_of, without_customs}
use Rattle.module_ast.proofs.ReadFits.{read_fits}
use Rattle.wasm_sem.specs.Types.{Module}
use Rattle.instrument.specs.Plan.{HookPlan}
use Rattle.instrument.proofs.NoneNeeded.{none_is_empty}
use Rattle.instrument.proofs.Unhooked.{output_same}
use Rattle.instrument.proofs.plan.HookPlan.write.Goals as goal

-- a module whose canonical bytes are in the grammar has numbers of their sizes: custom sections have none
spelled_fits : (m : Module) (bytes : List ℕ) → IsModule bytes (tree_of (without_customs m)) → length bytes < 2 ^ 32 → Fits m
spelled_fits m bytes spelled short =
    let fits = read_fits bytes (without_customs m) spelled short in
    record {
      imports = fits.imports;
      funcs = fits.funcs;
      tables = fits.tables;
      memories = fits.memories;
      globals = fits.globals;
      exports = fits.exports;
      start = fits.start;
      elements = fits.elements;
      bodies = fits.bodies;
      segments = fits.segments;
      counts = fits.counts;
      size = fits.size;
    }

both_ok : {X E : Type 0} (r : Result X E) (P Q : X → Type 0) (R : Type 0) → ((x : X) → P x → Q x → R) → IfOk r P → IfOk r Q → IfOk r (λ _. R)
both_ok (Ok x) P Q R f p q = f x p q
both_ok (Err e) P Q R f p q = tt

pub returns-then-is_empty-clause-ok : goal.returns-then-is_empty-clause-ok
returns-then-is_empty-clause-ok g c =
    let q : HookPlan = record { «module» = c.self.inside.module.now; hooks = c.self.inside.hooks.now } in
    let same = output_same q c.args.self.now c.module.result.now c.self.view_is c.module.ensures.module (none_is_empty q.hooks (c.if-is_empty.ensures.0 refl)) c.module.ensures.whole.bodies in
    IfOk-weaker c.encode.result _ _ (λ bytes is. is ∙ same) c.encode.ensures.ok

pub returns-then-is_empty-clause-fit : goal.returns-then-is_empty-clause-fit
returns-then-is_empty-clause-fit g c =
    let of : c.module.result.now ≡ c.args.self.now.module = c.module.ensures.module ∙ ap (λ (p : HookPlan). p.module) c.self.view_is in
    both_ok c.encode.result _ _ (Fits c.args.self.now.module)
    (λ bytes spelled few. subst Fits of (spelled_fits c.module.result.now bytes.items spelled (omega (arith, few, c.requires.most)))) c.encode.ensures.grammar c.encode.ensures.few

pub returns-clause-fit : goal.returns-clause-fit
returns-clause-fit g c =
    let of : c.module-2.result.now ≡ c.args.self.now.module = c.module-2.ensures.module ∙ ap (λ (p : HookPlan). p.module) c.self.view_is in
    subst Fits of (c.encoded_length.ensures.fit (omega (arith, c.module-2.ensures.whole.size, ap (λ (m : Module). length (module_bytes m)) c.module-2.ensures.module)))

pub returns-then-is_empty-clause-large : goal.returns-then-is_empty-clause-large
returns-then-is_empty-clause-large g c =
    let q : HookPlan = record { «module» = c.self.inside.module.now; hooks = c.self.inside.hooks.now } in
    let same = output_same q c.args.self.now c.module.result.now c.self.view_is c.module.ensures.module (none_is_empty q.hooks (c.if-is_empty.ensures.0 refl)) c.module.ensures.whole.bodies in
    λ n is. let large = c.encode.ensures.large n is in (large.0 ∙ ap length same, large.1)
