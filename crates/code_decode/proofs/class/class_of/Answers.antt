use Rattle.std.proofs.Common.{◌∙◌, sym, ap, arith}
use Rattle.std.proofs.lemmas.Bool.Decides.{nat_tests}
use Rattle.wasm_num.proofs.Opcodes.{num_exact}
use Rattle.module_ast.specs.Binary.{shape_at}
use Rattle.module_ast.proofs.Opcodes.{load_exact, store_exact}
use Rattle.module_ast.proofs.Tokens.{load_told, store_told, num_told}
use Rattle.module_ast.proofs.SpelledTokens.{apart, low_is_no_num}
use Rattle.code_decode.proofs.Classes.{no_load, no_store, no_num}
use Rattle.code_decode.proofs.class.class_of.Goals as goal
use Rattle.code_decode.proofs.class.class_of.Goals.{in_default-via-then-opcode-lt40, in_default-via-else-opcode-lt40+else-opcode-lt54+else-opcode-lt63+then-opcode-lt69}

pub returns-in-Some : goal.returns-in-Some
returns-in-Some c = ap shape_at (sym (load_exact c.args.opcode c.in-Some.op (sym c.in-Some.ensures))) ∙ load_told c.in-Some.op

pub returns-in-None : goal.returns-in-None
returns-in-None c = no_load c.args.opcode (omega arith) (omega arith) (sym c.in-None.ensures)

pub returns-in-Some-of_opcode : goal.returns-in-Some-of_opcode
returns-in-Some-of_opcode c =
    ap shape_at (sym (store_exact c.args.opcode c.in-Some-of_opcode.op (sym c.in-Some-of_opcode.ensures))) ∙ store_told c.in-Some-of_opcode.op

pub returns-in-None-of_opcode : goal.returns-in-None-of_opcode
returns-in-None-of_opcode c = no_store c.args.opcode (omega arith) (omega arith) (sym c.in-None-of_opcode.ensures)

pub returns-in-Some-of_opcode-2 : goal.returns-in-Some-of_opcode-2
returns-in-Some-of_opcode-2 c =
    ap shape_at (sym (num_exact c.args.opcode c.in-Some-of_opcode-2.op (sym c.in-Some-of_opcode-2.ensures))) ∙ num_told c.in-Some-of_opcode-2.op

pub returns-in-None-of_opcode-2 : goal.returns-in-None-of_opcode-2
returns-in-None-of_opcode-2 c = no_num c.args.opcode (omega arith) (omega arith) (sym c.in-None-of_opcode-2.ensures)

pub returns-in_default : goal.returns-in_default
returns-in_default c =
    elim c.in_default.branch [
      | in_default-via-then-opcode-lt40 w ↦ apart c.args.opcode (grind (arith, nat_tests)) (low_is_no_num c.args.opcode (omega arith)) ∙ c.listed-in_default.ensures
      | in_default-via-else-opcode-lt40+else-opcode-lt54+else-opcode-lt63+then-opcode-lt69 w ↦ apart c.args.opcode (grind (arith, nat_tests)) (low_is_no_num c.args.opcode (omega arith)) ∙ c.listed-in_default.ensures
    ]

pub returns-in-None-2 : goal.returns-in-None-2
returns-in-None-2 c = apart c.args.opcode (grind (arith, nat_tests)) (sym c.in-None-2.ensures) ∙ c.listed.ensures
