-- Constant expressions.
use Rattle.std.proofs.Common.{◌≡◌, ◌≤◌, List, [], ◌∷◌, length, None, refl, arith}
use Rattle.module_ast.specs.declared.code.Instr.{Instr}
use Rattle.module_ast.specs.declared.code.Instr.TheVariants.{Block, Loop, If, IfElse}
use Rattle.module_ast.specs.Structure.{Tree, Plain, plain, before, code_of}
use Rattle.module_ast.proofs.Plains.{the_plain}
use Rattle.wasm_valid.specs.Constants.{constant_of}

-- an instruction before another one
not_alone : (p : Plain) (i : Instr) (t : Tree) → constant_of (plain p (before i t)) ≡ None
not_alone p (If b a) t = refl
not_alone p i t = refl

long : (i j : Instr) (t : Tree) → constant_of (before i (before j t)) ≡ None
long (Block b a) j t = refl
long (Loop b a) j t = refl
long (If b a) j t = refl
long (IfElse b a e) j t = refl
long i j t = not_alone (the_plain i) j t

pub constant_of-many : (is : List Instr) → 2 ≤ length is → constant_of (code_of is) ≡ None
constant_of-many [] h = refl
constant_of-many (i ∷ []) h = absurd (omega arith)
constant_of-many (i ∷ j ∷ is) h = long i j (code_of is)
