-- The instructions without nested sequences, as values of the program.
use Rattle.std.specs.Prelude.{◌+◌, List, ◌++◌, Option, None, Bool, ◌&&◌}
use Rattle.wasm_num.specs.declared.ValType.{ValType}
use Rattle.module_ast.specs.declared.code.Instr.{Instr}
use Rattle.module_ast.specs.Structure.{plain_of}
use Rattle.module_ast.specs.Validation.{Context}
use Rattle.code_valid.specs.Checking.{OperandEffect, with_some, stack_effect, mark_of, marked_type, option_or}
use Rattle.code_valid.specs.Survey.{Notes}

-- what an instruction does to the operands; a block has no effect of its own
abbrev pub effect_of : Context → Instr → OperandEffect
effect_of c i = with_some (stack_effect c) (plain_of i)

abbrev pub marked_by : Instr → (found behind : List (Option ValType)) → Option ValType
marked_by i found behind = option_or None (λ p. marked_type p found behind) (plain_of i)

-- goes past an instruction with this mark, if it has one
abbrev pub pass : Option ValType → (goes : Bool) → Notes → Notes
pass x goes w = record {
  marks = w.marks ++ mark_of w.live w.position x;
  height = w.height;
  live = w.live && goes;
  position = w.position + 1;
}
