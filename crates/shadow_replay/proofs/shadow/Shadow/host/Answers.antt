use Rattle.std.proofs.Common.{length, arith, ◌≡◌, ◌∙◌, ◌++◌, List, Bool, Some, None, IsSome, ℕ, refl, sym, ap, subst}
use Rattle.std.specs.Prelude.{option_map}
use Rattle.std.specs.Vec.{with_items}
use Rattle.std.proofs.lemmas.List.{with_items_is}
use Rattle.run_store.specs.Held.{Held}
use Rattle.shadow_replay.specs.declared.Warning.{Warning}
use Rattle.shadow_replay.specs.declared.marked.Marked.{Marked}
use Rattle.shadow_replay.specs.Events.{effect, tainted_effect}
use Rattle.shadow_replay.specs.Taint.{Watch, is_watched, unmarked_by}
use Rattle.shadow_replay.specs.Tainted.{TaintedShadow}
use Rattle.shadow_replay.specs.Replayed.{Replay, shadow_seen, marks_prepared, answered, marked_values, call_warnings}
use Rattle.shadow_replay.proofs.ShadowTakes.{becomes}
use Rattle.shadow_replay.proofs.ShadowHosts.{host_is}
use Rattle.shadow_replay.proofs.shadow.Shadow.host.Goals as goal

pub returns-clause-ok : goal.returns-clause-ok
returns-clause-ok c =
    let s = c.self.inside in
    let f = c.args.import in
    let vs = c.args.results.now in
    let ws = c.args.writes.now in
    let watch : Watch = record { sources = s.sources.items; sinks = s.sinks.items } in
    let after : List ℕ → List Bool → List Marked → List Warning → TaintedShadow = λ memory ks ms ws. shadow_seen memory ks s.globals.items s.stack None s.held (Some ms) ws in
    let fit = subst (λ (r : Replay). IsSome (effect r.module r.limit r.shadow.state (answered f vs ws r.shadow.state))) (sym c.self.view_is) c.requires.fit.effect in
    let bytes = ap (λ (m : Held). m.bytes) c.write_all.ensures.memory in
    let size : length c.write_all.new.marks ≡ s.memory_marks.len = omega (arith, c.write_all.auto.marks, s.memory_marks.ok.0, ap length c.as_mut_slice.ensures.value) in
    let kept = with_items s.memory_marks c.write_all.new.marks in
    let ks : kept.items ≡ unmarked_by ws s.memory_marks.items = with_items_is s.memory_marks c.write_all.new.marks size ∙ c.write_all.ensures.marks ∙ ap (unmarked_by ws) c.as_mut_slice.ensures.value in
    let given : c.in_ok-given.given.items ≡ marked_values (is_watched watch.sources f) vs =
    c.in_ok-given.ensures ∙ ap (λ k. marked_values k vs) (c.is_watched-source.ensures ∙ ap (λ fs. is_watched fs f) c.as_slice.ensures.value) in
    let told : c.extend_from_slice.new.self.items ≡ s.warnings.items ++ call_warnings watch f (marks_prepared s.prepared) =
    c.in_ok-extend_from_slice.ensures.items ∙ ap (λ ws. s.warnings.items ++ ws) (c.as_slice-2.ensures.value ∙ (c.in_ok-warnings.ensures ∙ ap (λ (r : Replay). call_warnings r.watch f r.shadow.marks.prepared) (sym c.self.view_is))) in
    becomes (λ (r : Replay). tainted_effect r.module r.limit r.watch r.shadow (answered f vs ws r.shadow.state)) _ c.args.self.now _ c.self.view_is
    (host_is s.valid.now s.memory.max watch s.memory.bytes s.memory_marks.items s.globals.items s.stack s.prepared s.held (option_map (λ v. v.items) s.given) s.warnings.items f vs ws fit
    ∙ (ap (λ memory. Some (after memory (unmarked_by ws s.memory_marks.items) (marked_values (is_watched watch.sources f) vs) (s.warnings.items ++ call_warnings watch f (marks_prepared s.prepared)))) (sym bytes)
    ∙ (ap (λ ks. Some (after c.write_all.new.memory.bytes ks (marked_values (is_watched watch.sources f) vs) (s.warnings.items ++ call_warnings watch f (marks_prepared s.prepared)))) (sym ks)
    ∙ (ap (λ ms. Some (after c.write_all.new.memory.bytes kept.items ms (s.warnings.items ++ call_warnings watch f (marks_prepared s.prepared)))) (sym given)
    ∙ ap (λ told. Some (after c.write_all.new.memory.bytes kept.items c.in_ok-given.given.items told)) (sym told))))) refl (ap (λ (m : Held). m.max) c.write_all.ensures.memory) refl
