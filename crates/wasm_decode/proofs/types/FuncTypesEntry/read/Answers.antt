use Rattle.std.proofs.Common.{rules}
use Rattle.wasm_decode.proofs.types.FuncTypesEntry.read.Goals as goal

pub returns-in_err-ty-clause-malformed : goal.returns-in_err-ty-clause-malformed
returns-in_err-ty-clause-malformed c = λ e. c.in_err-ty.ensures.malformed (search rules)
