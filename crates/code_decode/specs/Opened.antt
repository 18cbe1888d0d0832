-- What an open sequence becomes at its end.
use Rattle.module_ast.specs.Structure.{Tree}
use Rattle.module_ast.specs.declared.code.Instr.{Instr}
use Rattle.module_ast.specs.declared.code.Instr.TheVariants as instrs
use Rattle.code_decode.specs.declared.token.Kind.{Kind}
use Rattle.code_decode.specs.declared.token.Kind.TheVariants as kinds

-- the instruction of a block that closes behind this code
abbrev pub closed_instr : Kind → Tree → Instr
closed_instr (kinds.Block ty) code = instrs.Block ty code
closed_instr (kinds.Loop ty) code = instrs.Loop ty code
closed_instr (kinds.Then ty) code = instrs.If ty code
closed_instr (kinds.Else ty then) code = instrs.IfElse ty then code
