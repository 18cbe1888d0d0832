-- A subject that is not loaded, or what came of the rest.
use Rattle.module_ast.specs.Validation.{wide, longest_file}
use Rattle.app_load.specs.Wants.{module_read}
use Rattle.app_load.proofs.Going.{went_on, stopped}
use Rattle.wasabi_app.specs.Modes.Tree.{tree_informed}
use Rattle.wasabi_app.proofs.tree_mode.tree_by.Goals as goal

pub returns-in-Err : goal.returns-in-Err
returns-in-Err g c = λ tools.
    (stopped (module_read c.args.given.now.subject.now longest_file wide) (tree_informed c.args.info.now c.args.script.now) _ _ tools c.in-Err.refusal
    (rw c.wide.ensures at c.in-Err.ensures.refused) c.load.ensures.once)

pub returns-in-Ok : goal.returns-in-Ok
returns-in-Ok g c = λ tools.
    went_on (module_read c.args.given.now.subject.now longest_file wide) (tree_informed c.args.info.now c.args.script.now) c.in-Ok.module _ _ _ tools tools c.tree_module.result
    (rw c.wide.ensures at c.in-Ok.ensures.ok) c.load.ensures.once
    (c.tree_module.ensures tools)
