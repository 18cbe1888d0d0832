use Rattle.std.proofs.Common.{◌≡◌, ◌∙◌, List, false, Some, None, IsSome, slice_get, refl, sym, ap, subst}
use Rattle.std.specs.Prelude.{option_map}
use Rattle.wasm_sem.specs.Execution.{callees_of, entry}
use Rattle.shadow_replay.specs.declared.marked.Marked.{Marked}
use Rattle.shadow_replay.specs.Events.{effect}
use Rattle.shadow_replay.specs.Stacked.{Standing}
use Rattle.shadow_replay.specs.Tainted.{TaintedShadow}
use Rattle.run_store.specs.Resolved.{callee_for}
use Rattle.shadow_replay.specs.Resolved.{begun_with}
use Rattle.shadow_replay.specs.Replayed.{Replay, shadow_seen, marked_values}
use Rattle.shadow_replay.proofs.ShadowTakes.{takes}
use Rattle.shadow_replay.proofs.ShadowEnters.{enter_is}
use Rattle.shadow_replay.proofs.shadow.Shadow.enter.Goals as goal

pub returns-clause-ok : goal.returns-clause-ok
returns-clause-ok c =
    let s = c.self.inside in
    let f = c.args.func in
    let args = c.args.args.now in
    let callee = callee_for c.function-function.result in
    let seen : TaintedShadow = shadow_seen s.memory.bytes s.memory_marks.items s.globals.items s.stack s.prepared s.held (option_map (λ v. v.items) s.given) s.warnings.items in
    let after : Standing → List Marked → TaintedShadow = λ st ms. shadow_seen s.memory.bytes s.memory_marks.items s.globals.items st (Some (record { call = None; locals = ms })) None None s.warnings.items in
    let locals : c.in_ok-locals.locals.items ≡ begun_with callee (marked_values false args) = c.in_ok-locals.ensures ∙ ap (begun_with callee) c.in_ok-marked_values.ensures in
    let found : slice_get (callees_of s.valid.now) f ≡ Some callee = ap (λ (r : Replay). slice_get (callees_of r.module) f) c.self.view_is ∙ c.function-function.ensures in
    let fit = subst (λ (r : Replay). IsSome (effect r.module r.limit r.shadow.state (entry (record { func = f; args = args })))) (sym c.self.view_is) c.requires.fit.effect in
    takes (entry (record { func = f; args = args })) _ c.args.self.now _ c.self.view_is
    (enter_is s.valid.now s.memory.max (record { sources = s.sources.items; sinks = s.sinks.items }) seen f args callee found fit ∙ (ap (λ st. Some (after st (begun_with callee (marked_values false args)))) (sym c.clear.ensures) ∙ ap (λ ms. Some (after c.clear.new.self ms)) (sym locals))) refl refl refl
