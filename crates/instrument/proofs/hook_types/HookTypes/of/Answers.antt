use Rattle.std.proofs.Common.{◌≡◌, List, ◌==◌, ◌∷◌, [], ◌++◌, ℕ, not, if◌then◌else◌, length, map, take, ap, sym, ◌∙◌, true≢false}
use Rattle.std.specs.List.{list_any}
use Rattle.wasm_sem.specs.Types.{FuncType}
use Rattle.hook_mono.specs.Words.{hook_type}
use Rattle.instrument.specs.Output.{with_type, distinct_types}
use Rattle.instrument.proofs.DistinctTypes.{width, HasType, type_added, types_next}
use Rattle.instrument.proofs.hook_types.HookTypes.of.Goals as goal
use Rattle.instrument.proofs.hook_types.HookTypes.of.Goals.{then-is_new+in_ok-push, else-is_new}

pub loop-key-preserved : goal.loop-key-preserved
loop-key-preserved c =
    let types = c.loop-key.types.items in
    let widths = c.loop-key.lengths.keys in
    let t = c.in_ok-ty.ty in
    let n : length c.as_slice.result.now ≡ width t = ap length c.as_slice.ensures in
    let added : HasType types t c.if-is_new.types.items c.insert_full.new.self.keys =
    type_added types c.if-is_new.types.items widths c.insert_full.new.self.keys t c.in_ok-is_new.is_new c.loop-key.invariant.lengths
    (c.in_ok-is_new.ensures.added ∙ ap (λ (k : ℕ). not (list_any (λ n. k == n) widths)) n)
    (c.in_ok-is_new.ensures.keys ∙ ap (λ (k : ℕ). (if list_any (λ n. k == n) widths then widths else widths ++ k ∷ [])) n)
    (elim c.if-is_new.branch [ then-is_new+in_ok-push w ↦ (λ e. rw w.types-is w.in_ok-push.ensures.items) | else-is_new w ↦ (λ e. absurd (true≢false (sym e ∙ w.if-is_new.false))) ])
    (elim c.if-is_new.branch [ then-is_new+in_ok-push w ↦ (λ e. absurd (true≢false (sym w.if-is_new.true ∙ e))) | else-is_new w ↦ (λ e. rw w.types-is) ]) in
    record {
      so_far = added.types_are ∙ ap (λ (ts : List FuncType). with_type ts t) c.loop-key.invariant.so_far
          ∙ ap (with_type (distinct_types (map hook_type (take c.loop-key.key-index c.args.keys.now)))) c.in_ok-ty.ensures ∙ sym (types_next c.args.keys.now c.loop-key.key-index c.key-item.result c.loop-key-test.true c.key-item.is);
      lengths = added.widths_are;
    }
