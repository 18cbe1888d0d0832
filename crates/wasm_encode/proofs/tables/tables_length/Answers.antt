use Rattle.std.proofs.Common.{arith}
use Rattle.std.proofs.lemmas.Grind.{common_steps}
use Rattle.module_ast.specs.Binary.{FitsRange}
use Rattle.wasm_encode.proofs.Fitting.{all_next}
use Rattle.wasm_encode.proofs.tables.tables_length.Goals as goal

pub loop-table-preserved : goal.loop-table-preserved
loop-table-preserved c = record {
  whole = grind (arith, common_steps);
  fit = all_next FitsRange c.args.tables.now c.loop-table.table-index _ c.loop-table-test.true c.table_length-total.ensures.fit c.loop-table.invariant.fit;
}
