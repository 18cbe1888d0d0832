use Rattle.module_ast.proofs.Counted.{defined_counted}
use Rattle.module_ast.proofs.spaces.Counts.of.Goals as goal

pub returns : goal.returns
returns c = rw (c.as_slice-2.ensures, c.as_slice-3.ensures, c.as_slice-4.ensures, c.as_slice-5.ensures, c.of_imports-imported.ensures.is, c.as_slice.ensures) (defined_counted c.args.m.now)
