use Rattle.code_decode.proofs.Faults.{on_err}
use Rattle.wasm_decode.proofs.ItemFronts.{kind_end}
use Rattle.wasm_decode.proofs.names.export_kind.Goals as goal

pub returns-in_err-byte-clause-bad : goal.returns-in_err-byte-clause-bad
returns-in_err-byte-clause-bad c = on_err c.from_residual.result (kind_end _ c.in_err-byte.ensures.bad.1)
