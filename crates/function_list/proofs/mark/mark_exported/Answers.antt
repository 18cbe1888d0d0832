use Rattle.std.proofs.Common.{◌==◌, ◌∙◌, List, ap, arith, subst}
use Rattle.std.proofs.Math.ListN.{drop_of_length-le}
use Rattle.module_ast.specs.declared.module.Export.{Export}
use Rattle.module_ast.specs.declared.module.Module.{Module}
use Rattle.function_list.specs.Choices.{is_exported}
use Rattle.function_list.specs.Marks.{Marks}
use Rattle.function_list.specs.Pieces.{shown}
use Rattle.function_list.proofs.Marking.{begins, is_done, next_one}
use Rattle.function_list.proofs.mark.mark_exported.Goals as goal

pub loop-export-init : goal.loop-export-init
loop-export-init c = begins c.args.m.now c.args.flag _ c.args.flags.now

pub loop-export-preserved : goal.loop-export-preserved
loop-export-preserved c =
    next_one c.args.m.now c.args.flag _ c.as_slice-exports.result.now c.loop-export.export-index c.export-item.result _ c.args.flags.now c.loop-export.flags
    c.mark_export.new.flags (omega arith) c.export-item.is c.loop-export.invariant c.mark_export.ensures

pub returns : goal.returns
returns c =
    let exports = c.as_slice-exports.result.now in
    let same = c.as_slice-exports.ensures ∙ ap (λ (x : Module). x.exports) c.module.ensures.module in
    subst (λ (es : List Export). Marks c.args.m.now (λ f. is_exported (shown c.args.piece) (λ g. g == f) es) c.args.flag c.args.flags.now c.loop-export.flags) same
    (is_done c.args.m.now c.args.flag _ _ c.args.flags.now c.loop-export.flags c.loop-export.invariant
    (λ f. ap (is_exported (shown c.args.piece) (λ g. g == f)) (drop_of_length-le exports (omega arith))))
