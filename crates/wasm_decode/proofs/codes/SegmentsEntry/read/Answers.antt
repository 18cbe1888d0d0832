use Rattle.std.proofs.Common.{arith, ℕ, List, subst, rules}
use Rattle.leb_binary.proofs.Fronts.{one_unsigned}
use Rattle.leb_binary.specs.Reading.{IsByte}
use Rattle.module_ast.specs.Binary.{Both, SegmentNode, CodeNode, IsU32, IsVec, IsExpr}
use Rattle.module_ast.proofs.Compose.{both_none_first, both_none_second, both_some}
use Rattle.code_decode.proofs.Unique.{one_expr}
use Rattle.wasm_decode.specs.Makes.{segment_by}
use Rattle.wasm_decode.specs.Kinds.{segment_form}
use Rattle.wasm_decode.specs.Parts.{IsPiece}
use Rattle.wasm_decode.proofs.Fronts.{expr_front, front_shorter}
use Rattle.wasm_decode.proofs.codes.SegmentsEntry.read.Goals as goal

-- the offset and the bytes
abbrev Behind : List ℕ → CodeNode × List ℕ → Type 0
Behind rest p = Both IsExpr (IsVec IsByte) rest p.0 p.1

abbrev memory_of : SegmentNode → ℕ
memory_of d = d.memory

abbrev behind_of : SegmentNode → CodeNode × List ℕ
behind_of d = (d.offset, d.bytes)

abbrev offset_of : CodeNode × List ℕ → CodeNode
offset_of p = p.0

abbrev bytes_of : CodeNode × List ℕ → List ℕ
bytes_of p = p.1

pub returns-in_err-memory-clause-malformed : goal.returns-in_err-memory-clause-malformed
returns-in_err-memory-clause-malformed c = λ e. both_none_first IsU32 Behind memory_of behind_of _ c.in_err-memory.ensures.bad.1

pub returns-in_err-offset-clause-malformed : goal.returns-in_err-offset-clause-malformed
returns-in_err-offset-clause-malformed c = λ e.
    both_none_second IsU32 Behind memory_of behind_of _ _ _ (one_unsigned 32) c.in_ok-memory.ensures.ok.1 (both_none_first IsExpr (IsVec IsByte) offset_of bytes_of _ (c.in_err-offset.ensures.malformed (search rules)))

pub returns-in_err-bytes-clause-malformed : goal.returns-in_err-bytes-clause-malformed
returns-in_err-bytes-clause-malformed c = λ e.
    both_none_second IsU32 Behind memory_of behind_of _ _ _ (one_unsigned 32) c.in_ok-memory.ensures.ok.1 (both_none_second IsExpr (IsVec IsByte) offset_of bytes_of _ _ _ one_expr (expr_front c.args.nesting _ _ _ c.in_ok-offset.ensures.ok).1 (c.in_err-bytes.ensures.malformed (search rules)))

pub returns-clause-ok : goal.returns-clause-ok
returns-clause-ok c =
    let n = c.in_ok-memory.memory in
    let t = expr_front c.args.nesting _ _ _ c.in_ok-offset.ensures.ok in
    let bs = c.in_ok-bytes.bytes.items in
    (segment_by n t.0 bs, both_some IsU32 Behind _ _ _ n (t.0, bs) c.in_ok-memory.ensures.ok.1 (both_some IsExpr (IsVec IsByte) _ _ _ t.0 bs t.1 c.in_ok-bytes.ensures.ok), subst (λ l. IsPiece segment_form c.args.nesting c.in_ok-segment.segment (segment_by n t.0 l)) c.from_vec-bytes.ensures (c.in_ok-segment.ensures c.args.nesting t.0 t.2))

pub read_expr-requires-clause-bytes : goal.read_expr-requires-clause-bytes
read_expr-requires-clause-bytes c = omega (arith, front_shorter IsU32 _ _ _ c.in_ok-memory.ensures.ok.1)
