use Rattle.std.proofs.Common.{take}
use Rattle.wasm_valid.proofs.Apart.{AreApart, HasNames}
use Rattle.wasm_valid.proofs.names.keeps_export_names.Given as goal

abbrev pub invariant-loop-export : goal.invariant-loop-export
invariant-loop-export l = record {
  seen : HasNames l.seen (take l.export-index l.exports);
  apart : AreApart (take l.export-index l.exports);
}
