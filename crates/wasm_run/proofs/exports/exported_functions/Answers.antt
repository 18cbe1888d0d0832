use Rattle.std.proofs.Common.{◌≡◌, ◌∷◌, ap, rules}
use Rattle.module_ast.specs.declared.module.ExportKind.TheVariants as kinds
use Rattle.wasm_sem.specs.Execution.{is_func}
use Rattle.wasm_run.proofs.Named.{moved, named_more}
use Rattle.wasm_run.proofs.exports.exported_functions.Goals as goal

pub loop-export-preserved-in_ok-insert : goal.loop-export-preserved-in_ok-insert
loop-export-preserved-in_ok-insert c =
    let e = c.in-Some.export.now in
    let was = c.loop-export.invariant in
    let kind : e.kind ≡ kinds.Func = search rules in
    record {
      behind = e ∷ was.behind;
      joined = moved c.loop-export.left.now c.in-Some.before.now c.args.exports.now was.behind e c.in-Some.ensures.cases.0 was.joined;
      named = named_more c.loop-export.named c.insert.new.self was.behind e c.as_str.result.now c.as_str.ensures (ap is_func kind) c.in_ok-insert.ensures.updates was.named;
    }
