use Rattle.std.proofs.Common.{◌≡◌, ◌≤◌, ◌∙◌, false, sym, ap, subst}
use Rattle.std.proofs.lemmas.Result.{IfOk-weaker}
use Rattle.wasm_sem.specs.Types.{Module}
use Rattle.module_ast.specs.Structure.{memories_of}
use Rattle.wasm_sem.specs.Execution.{least_size, page_limit}
use Rattle.run_store.proofs.Ranges.{begins_within}
use Rattle.shadow_replay.specs.Opened.{opening_replay, replay_with}
use Rattle.shadow_replay.specs.Replayed.{marked_values}
use Rattle.shadow_replay.specs.Taint.{Watch}
use Rattle.shadow_replay.proofs.Openings.{opens}
use Rattle.shadow_replay.proofs.shadow.Shadow.new.Goals as goal

pub open_memory-requires-clause-least : goal.open_memory-requires-clause-least
open_memory-requires-clause-least c =
    subst (λ (m : Module). least_size (memories_of m) ≤ page_limit c.args.script.now.pages (memories_of m)) (sym c.module-module.ensures.module)
    (begins_within c.args.valid.now c.args.script.now c.module-module.ensures.valid c.requires.links)

pub returns : goal.returns
returns c =
    let watch : Watch = record { sources = c.args.sources.now; sinks = c.args.sinks.now } in
    let bytes = c.in_ok-memory.memory.bytes in
    let max = c.in_ok-memory.memory.max in
    let globals = c.in_ok-globals.globals.items in
    IfOk-weaker c.with_store.result (λ sh. sh ≡ replay_with c.args.valid.now max watch bytes globals) (λ sh. sh ≡ opening_replay c.args.valid.now c.args.script.now watch)
    (λ sh is.
    is
    ∙ opens c.args.valid.now c.module-module.result.now c.args.script.now watch c.module-module.ensures.module bytes max c.as_slice.result.now globals
    (c.as_slice.ensures.value ∙ c.in_ok-values.ensures) c.in_ok-memory.ensures.bytes c.in_ok-memory.ensures.most (c.in_ok-globals.ensures ∙ ap (marked_values false) (c.as_slice-2.ensures.value ∙ sym c.as_slice.ensures.value))) c.with_store.ensures
