use Rattle.std.proofs.Common.{ap, refl, arith}
use Rattle.module_ast.specs.Binary.{IsU32, IsTableType, IsMemoryType, IsGlobalType, func_item, table_item, memory_item, global_item}
use Rattle.code_decode.proofs.Faults.{on_err}
use Rattle.module_ast.proofs.Compose.{op_some}
use Rattle.wasm_decode.proofs.ItemFronts.{item_end, item_none}
use Rattle.wasm_decode.proofs.names.item.Goals as goal

pub returns-in_err-byte-clause-bad : goal.returns-in_err-byte-clause-bad
returns-in_err-byte-clause-bad c = on_err c.from_residual.result (item_end _ c.in_err-byte.ensures.bad.1)

pub returns-in_err-ty-in-0-clause-bad : goal.returns-in_err-ty-in-0-clause-bad
returns-in_err-ty-in-0-clause-bad c =
    on_err c.from_residual-in_err-ty-in-0.result (item_none _ _ _ c.in_ok-byte.ensures.ok.1 (λ e. c.in_err-ty-in-0.ensures.bad.1) (λ e. absurd (omega (arith, e, c.in-0.is))) (λ e. absurd (omega (arith, e, c.in-0.is))) (λ e. absurd (omega (arith, e, c.in-0.is))))

pub returns-in_err-range-in-1-clause-bad : goal.returns-in_err-range-in-1-clause-bad
returns-in_err-range-in-1-clause-bad c =
    on_err c.from_residual-in_err-range-in-1.result (item_none _ _ _ c.in_ok-byte.ensures.ok.1 (λ e. absurd (omega (arith, e, c.in-1.is))) (λ e. c.in_err-range-in-1.ensures.bad) (λ e. absurd (omega (arith, e, c.in-1.is))) (λ e. absurd (omega (arith, e, c.in-1.is))))

pub returns-in_err-range-in-2-clause-bad : goal.returns-in_err-range-in-2-clause-bad
returns-in_err-range-in-2-clause-bad c =
    on_err c.from_residual-in_err-range-in-2.result (item_none _ _ _ c.in_ok-byte.ensures.ok.1 (λ e. absurd (omega (arith, e, c.in-2.is))) (λ e. absurd (omega (arith, e, c.in-2.is))) (λ e. c.in_err-range-in-2.ensures.bad) (λ e. absurd (omega (arith, e, c.in-2.is))))

pub returns-in_ok-ty-in-0-clause-ok : goal.returns-in_ok-ty-in-0-clause-ok
returns-in_ok-ty-in-0-clause-ok c = (func_item _, op_some IsU32 0 _ _ _ _ (rw c.in-0.is at c.in_ok-byte.ensures.ok.1) c.in_ok-ty-in-0.ensures.ok.1, refl)

pub returns-in_ok-range-in-1-clause-ok : goal.returns-in_ok-range-in-1-clause-ok
returns-in_ok-range-in-1-clause-ok c = (table_item _, op_some IsTableType 1 _ _ _ _ (rw c.in-1.is at c.in_ok-byte.ensures.ok.1) c.in_ok-range-in-1.ensures.ok, refl)

pub returns-in_ok-range-in-2-clause-ok : goal.returns-in_ok-range-in-2-clause-ok
returns-in_ok-range-in-2-clause-ok c = (memory_item _, op_some IsMemoryType 2 _ _ _ _ (rw c.in-2.is at c.in_ok-byte.ensures.ok.1) c.in_ok-range-in-2.ensures.ok, refl)

pub returns-in_err-ty-in-3-clause-bad : goal.returns-in_err-ty-in-3-clause-bad
returns-in_err-ty-in-3-clause-bad c =
    on_err c.from_residual-in_err-ty-in-3.result (item_none _ _ _ c.in_ok-byte.ensures.ok.1 (λ e. absurd (omega (arith, e, c.in-3.is))) (λ e. absurd (omega (arith, e, c.in-3.is))) (λ e. absurd (omega (arith, e, c.in-3.is))) (λ e. c.in_err-ty-in-3.ensures.bad))

pub returns-in-Some-clause-ok : goal.returns-in-Some-clause-ok
returns-in-Some-clause-ok c =
    let r = rw c.in-Some.is at c.in_ok-ty-in-3.ensures.ok in
    (global_item r.0, op_some IsGlobalType 3 _ _ _ r.0 (rw c.in-3.is at c.in_ok-byte.ensures.ok.1) r.1, ap global_item r.2)

pub returns-in-None-clause-ok : goal.returns-in-None-clause-ok
returns-in-None-clause-ok c =
    let r = rw c.in-None.is at c.in_ok-ty-in-3.ensures.ok in
    (global_item r.0, op_some IsGlobalType 3 _ _ _ r.0 (rw c.in-3.is at c.in_ok-byte.ensures.ok.1) r.1, r.2)
