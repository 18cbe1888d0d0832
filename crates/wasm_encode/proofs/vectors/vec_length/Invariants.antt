use Rattle.std.proofs.Common.{◌≡◌, ◌+◌, length, drop, All}
use Rattle.module_ast.specs.Binary.{items_bytes}
use Rattle.wasm_encode.proofs.vectors.vec_length.Given as goal

abbrev pub invariant-loop-entry : goal.invariant-loop-entry
invariant-loop-entry g l = record {
  whole : l.total + length (items_bytes g.T.Encode.bytes (drop l.entry-index l.entries)) ≡ l.initial.total + length (items_bytes g.T.Encode.bytes l.entries);
  fit : All g.T.Encode.fits (drop l.entry-index l.entries) → All g.T.Encode.fits l.entries;
}
