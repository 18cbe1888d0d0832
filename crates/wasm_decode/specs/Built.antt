-- What a reader keeps of an expression, and its tree.
use Rattle.std.specs.Prelude.{◌≡◌, ℕ, ◌<◌, ◌≤◌, true}
use Rattle.module_ast.specs.Structure.{Tree}
use Rattle.module_ast.specs.Binary.Grammar as grammar
use Rattle.module_ast.specs.Places.{code_nesting}
use Rattle.module_ast.specs.Binary.{code_node, code_floats}
use Rattle.code_decode.specs.declared.expr.Expr.{Expr}
use Rattle.code_decode.specs.declared.expr.Expr.TheVariants.{Built, Floats, Deep}

abbrev pub IsBuilt : (bound : ℕ) → Expr → grammar.CodeNode → Type 0
IsBuilt bound (Built c) t = (t ≡ code_node c) × (code_nesting c ≤ bound)
IsBuilt bound Floats t = code_floats t ≡ true
IsBuilt bound (Deep found) t = (c : Tree) × (t ≡ code_node c) × (found ≡ code_nesting c) × (bound < found)
