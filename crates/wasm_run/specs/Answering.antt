-- Calls that are answered at once, by the script or with zeros.
use Rattle.std.specs.Prelude.{List, length, drop, Option, Some, None}
use Rattle.std.specs.Borrow.{Bor}
use Rattle.wasm_sem.specs.Types.{Value, FuncType}
use Rattle.module_ast.specs.Validation.{push}
use Rattle.wasm_sem.specs.declared.HostAnswer.{HostAnswer}
use Rattle.wasm_sem.specs.Execution.{no_answer}
use Rattle.run_stack.specs.Flat.{Flat}

-- the arguments are taken, and the results are on top
abbrev pub returned_with : FuncType → (results : List Value) → Flat → Flat
returned_with ty results f = record f { values = push results (drop (length ty.params) f.values) }

-- the answer if there is one, otherwise that of a script without answers
abbrev pub answer_given : Option (Bor HostAnswer) → HostAnswer
answer_given None = no_answer
answer_given (Some a) = a.now
