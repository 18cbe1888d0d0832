use Rattle.std.proofs.Common.{◌≡◌, ◌++◌, drop, slice_get}
use Rattle.module_ast.specs.Structure.{funcs_of, imported_funcs}
use Rattle.module_ast.proofs.module.Module.type_index.Given as goal

abbrev pub invariant-loop-import : goal.invariant-loop-import
invariant-loop-import l =
    slice_get (imported_funcs (drop l.import-index l.import-items) ++ l.self.funcs) l.left ≡ slice_get (funcs_of l.self) l.func
