use Rattle.wasm_num.specs.declared.ValType.TheVariants.{I32}
use Rattle.std.proofs.lemmas.Result.{err_from_is_err_and}
use Rattle.code_valid.specs.Control.{innermost_stack}
use Rattle.code_valid.proofs.Moves.{stopped_behind, stops_none, on_refusal}
use Rattle.code_valid.proofs.blocks.OpenBlocks.stop_i32.Goals as goal

pub returns : goal.returns
returns c =
    let h = c.in_ok-pop_i32.ensures in
    stopped_behind c.stop.result c.args.takes.now I32 c.args.self.now c.pop_i32.new.self c.stop.new.self h.0 h.1 h.2 c.stop.ensures

pub returns-in_err-pop_i32 : goal.returns-in_err-pop_i32
returns-in_err-pop_i32 c =
    let p = err_from_is_err_and c.from_residual.result c.from_residual.ensures.1 in
    rw (p.1, p.2) (on_refusal c.in_err-pop_i32.field-0.0 _ _ (λ h. stops_none c.args.takes.now I32 (innermost_stack c.args.self.now) h) c.in_err-pop_i32.ensures)
