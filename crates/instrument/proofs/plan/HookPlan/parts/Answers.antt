use Rattle.std.proofs.Common.{◌≡◌, ℕ, length, Option, All, ap, sym, ◌∙◌, subst, arith, length-append}
use Rattle.std.specs.Option.{ForSome}
use Rattle.wasm_sem.specs.Types.{Element, Export, Module}
use Rattle.index_remap.specs.declared.Remap.{Remap}
use Rattle.index_remap.specs.Remap.{MapsIndex, MapsReference, MapsModule}
use Rattle.instrument.specs.Output.{hook_types}
use Rattle.instrument.specs.Plan.{HookPlan, plan_keys}
use Rattle.instrument.proofs.CanRewrites.{maps_module}
use Rattle.instrument.proofs.PlannedBytes.{planned_types}
use Rattle.instrument.proofs.plan.HookPlan.parts.Goals as goal

pub hook_imports-requires-clause-few : goal.hook_imports-requires-clause-few
hook_imports-requires-clause-few c =
    let m = c.self.inside.module.now in
    let q : HookPlan = record { «module» = m; hooks = c.self.inside.hooks.now } in
    let types : c.in_ok-types.types ≡ hook_types (plan_keys q) = c.in_ok-types.ensures ∙ ap hook_types (c.as_slice-keys.ensures ∙ c.self.invariant.keys_are) in
    omega (arith, ap length types, planned_types q c.self.inside.table c.self.inside.remap c.self.invariant, length-append m.types (hook_types (plan_keys q)), ap (λ (m : Module). length m.types) c.module-m.ensures.module)

pub map_exports-requires : goal.map_exports-requires
map_exports-requires c =
    let m = c.self.inside.module.now in
    let r = c.self.inside.remap in
    let maps : MapsModule r m = subst (λ (r : Remap). MapsModule r m) (sym c.self.invariant.remap_is) (maps_module m c.self.inside.hooks.now c.self.invariant.valid c.self.invariant.limits) in
    subst (All (λ (e : Export). MapsReference r e.kind e.index)) (sym (c.as_slice.ensures ∙ ap (λ (m : Module). m.exports) c.module-m.ensures.module)) maps.exports

pub map_start-requires : goal.map_start-requires
map_start-requires c =
    let m = c.self.inside.module.now in
    let r = c.self.inside.remap in
    let maps : MapsModule r m = subst (λ (r : Remap). MapsModule r m) (sym c.self.invariant.remap_is) (maps_module m c.self.inside.hooks.now c.self.invariant.valid c.self.invariant.limits) in
    subst (λ (o : Option ℕ). ForSome o (MapsIndex r)) (sym (ap (λ (m : Module). m.start) c.module-m.ensures.module)) maps.start

pub map_elements-requires : goal.map_elements-requires
map_elements-requires c =
    let m = c.self.inside.module.now in
    let r = c.self.inside.remap in
    let maps : MapsModule r m = subst (λ (r : Remap). MapsModule r m) (sym c.self.invariant.remap_is) (maps_module m c.self.inside.hooks.now c.self.invariant.valid c.self.invariant.limits) in
    subst (All (λ (e : Element). All (MapsIndex r) e.funcs)) (sym (c.as_slice-2.ensures ∙ ap (λ (m : Module). m.elements) c.module-m.ensures.module)) maps.elements
