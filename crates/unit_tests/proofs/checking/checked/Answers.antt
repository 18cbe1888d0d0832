use Rattle.module_ast.specs.Binary.{tree_of}
use Rattle.module_ast.proofs.ModuleTrees.{modules_unique}
use Rattle.code_decode.proofs.Modules.{trees_one}
use Rattle.unit_tests.proofs.checking.checked.Goals as goal

-- the two modules that a file is read as are one
pub body_by_twin-requires-clause-same : goal.body_by_twin-requires-clause-same
body_by_twin-requires-clause-same g c κs _ =
    let m = c.in_ok-m.m in
    let twin = c.in_ok-twin.twin in
    modules_unique twin m (trees_one c.args.file.now (tree_of twin) (tree_of m) c.in_ok-twin.ensures.gram c.in_ok-m.ensures.gram)
