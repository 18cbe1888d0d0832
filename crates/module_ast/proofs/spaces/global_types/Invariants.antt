use Rattle.std.proofs.Common.{◌≡◌, ◌++◌, drop}
use Rattle.module_ast.specs.Structure.{imported_globals, global_types, globals_of}
use Rattle.module_ast.proofs.spaces.global_types.Given as goal

abbrev pub invariant-loop-import : goal.invariant-loop-import
invariant-loop-import l = l.types.items ++ imported_globals (drop l.import-index l.import-items) ≡ imported_globals l.m.imports

abbrev pub invariant-loop-global : goal.invariant-loop-global
invariant-loop-global l = l.types.items ++ global_types (drop l.global-index l.global-items) ≡ globals_of l.m
