-- A step that calls no hook tells no event: the analyses and the counts stay.
use Rattle.std.proofs.Common.{◌≡◌, ℕ, ◌^◌, ◌≤◌, List, [], Option, All, ap, arith, sym, subst, ◌∙◌}
use Rattle.wasm_sem.specs.declared.Turn.{Turn}
use Rattle.wasm_sem.specs.declared.Turn.TheVariants.{Ran}
use Rattle.wasm_run.specs.Running.{Run}
use Rattle.wasm_run.specs.Turns.{after_turn}
use Rattle.static_info.specs.declared.Info.{Info}
use Rattle.analyses.specs.Tools.{ToolState}
use Rattle.app_load.specs.declared.kinds.Kinds.{Kinds}
use Rattle.app_runs.specs.declared.feeding.Tally.{Tally}
use Rattle.app_runs.specs.Feeding.{turn_events, tallied}
use Rattle.app_load.specs.Feeding.{fed}
use Rattle.app_load.proofs.Fed.{none_fed}

pub same_module : (turn : Turn) (old new : Run) → turn ≡ Ran → new ≡ after_turn turn old → new.module ≡ old.module
same_module turn old new ran is = ap (λ (r : Run). r.module) (is ∙ ap (λ (t : Turn). after_turn t old) ran)

pub same_room : (kinds : Kinds) (info : Info) (slots : List (Option ℕ)) (turn : Turn) (old new : List ToolState) → turn ≡ Ran
    → new ≡ fed kinds (turn_events info slots turn) old → All (λ (t : ToolState). t.event_count ≤ 2 ^ 63) old
    → All (λ (t : ToolState). t.event_count ≤ 2 ^ 63) new
same_room kinds info slots turn old new ran is room =
    let none : new ≡ fed kinds [] old = is ∙ ap (λ (t : Turn). fed kinds (turn_events info slots t) old) ran in
    subst (All (λ (t : ToolState). t.event_count ≤ 2 ^ 63)) (sym (none ∙ sym (none_fed kinds old))) room

pub same_counts : (info : Info) (slots : List (Option ℕ)) (turn : Turn) (old new : Tally) → turn ≡ Ran
    → new ≡ tallied (turn_events info slots turn) old → (new.events ≡ old.events) × (new.strays ≡ old.strays)
same_counts info slots turn old new ran is =
    let none : new ≡ tallied [] old = is ∙ ap (λ (t : Turn). tallied (turn_events info slots t) old) ran in
    (omega (arith, ap (λ (t : Tally). t.events) none), omega (arith, ap (λ (t : Tally). t.strays) none))
