use Rattle.std.proofs.Common.{◌≡◌, ◌+◌, drop}
use Rattle.std.specs.Prelude.{not}
use Rattle.std.specs.List.{position_from}
use Rattle.wasm_valid.proofs.broken.first_not_kept.Given as goal

abbrev pub invariant-loop-keeps : goal.invariant-loop-keeps
invariant-loop-keeps l =
    (l.rule ≡ l.fn.first + l.keeps-index) × (position_from not l.rule (drop l.keeps-index l.kept) ≡ position_from not l.fn.first l.kept)
