use Rattle.std.proofs.Common.{◌≡◌, ◌++◌, drop, map}
use Rattle.module_ast.specs.Structure.{imported_funcs}
use Rattle.static_info.specs.Info.{imported_info}
use Rattle.static_info.proofs.gather.add_imported.Given as goal

abbrev pub invariant-loop-import : goal.invariant-loop-import
invariant-loop-import l =
    l.functions.items ++ map (imported_info l.m) (imported_funcs (drop l.import-index l.import-items))
    ≡ l.initial.functions.items ++ map (imported_info l.m) (imported_funcs l.m.imports)
