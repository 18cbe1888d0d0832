use Rattle.std.proofs.Common.{◌≡◌, ◌++◌, drop}
use Rattle.module_ast.specs.Structure.{imported_funcs}
use Rattle.module_ast.proofs.spaces.func_types.Given as goal

abbrev pub invariant-loop-import : goal.invariant-loop-import
invariant-loop-import l = l.types.items ++ imported_funcs (drop l.import-index l.import-items) ≡ imported_funcs l.m.imports
