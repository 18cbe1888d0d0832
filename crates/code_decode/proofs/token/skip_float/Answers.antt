use Rattle.std.proofs.Common.{ap}
use Rattle.code_decode.specs.Classes.{float_shape}
use Rattle.code_decode.proofs.Faults.{on_err}
use Rattle.code_decode.proofs.Operands.{floatarg_bad, floatfour_bad, floateight_bad}
use Rattle.code_decode.proofs.token.skip_float.Goals as goal

pub returns-in_err-mem_arg-in-Arg-clause-bad : goal.returns-in_err-mem_arg-in-Arg-clause-bad
returns-in_err-mem_arg-in-Arg-clause-bad c = on_err _ (floatarg_bad _ (ap float_shape c.in-Arg.is) _ c.in_err-mem_arg-in-Arg.ensures.bad)

pub returns-in_err-take-in-FourBytes-clause-bad : goal.returns-in_err-take-in-FourBytes-clause-bad
returns-in_err-take-in-FourBytes-clause-bad c = on_err _ (floatfour_bad _ (ap float_shape c.in-FourBytes.is) _ c.in_err-take-in-FourBytes.ensures.bad.1)

pub returns-in_err-take-in-EightBytes-clause-bad : goal.returns-in_err-take-in-EightBytes-clause-bad
returns-in_err-take-in-EightBytes-clause-bad c = on_err _ (floateight_bad _ (ap float_shape c.in-EightBytes.is) _ c.in_err-take-in-EightBytes.ensures.bad.1)
