use Rattle.module_ast.proofs.ModuleTrees.{modules_unique, modules_plain, trees_are_modules}
use Rattle.module_ast.proofs.laws.modules_are_trees.Goals as goal

pub returns-clause-unique : goal.returns-clause-unique
returns-clause-unique c = modules_unique

pub returns-clause-whole : goal.returns-clause-whole
returns-clause-whole c = modules_plain

pub returns-clause-all : goal.returns-clause-all
returns-clause-all c = trees_are_modules
