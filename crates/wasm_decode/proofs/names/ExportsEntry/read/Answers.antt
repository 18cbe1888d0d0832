use Rattle.std.proofs.Common.{ℕ, List, refl, arith, rules}
use Rattle.leb_binary.specs.Texts.{Text}
use Rattle.leb_binary.specs.Leb.{IsName}
use Rattle.leb_binary.proofs.Fronts.{one_name}
use Rattle.module_ast.specs.declared.module.ExportKind.{ExportKind}
use Rattle.module_ast.specs.Binary.{Both, IsU32, ExportNode, IsExportKind}
use Rattle.module_ast.proofs.Compose.{both_none_first, both_none_second, both_some}
use Rattle.code_decode.proofs.Items.{one_export_kind}
use Rattle.wasm_decode.proofs.names.ExportsEntry.read.Goals as goal

-- what is exported
abbrev Behind : List ℕ → ExportKind × ℕ → Type 0
Behind rest p = Both IsExportKind IsU32 rest p.0 p.1

abbrev name_of : ExportNode → Text
name_of e = e.name

abbrev behind_of : ExportNode → ExportKind × ℕ
behind_of e = (e.kind, e.index)

abbrev export_by : Text → ExportKind → ℕ → ExportNode
export_by n k i = record { name = n; kind = k; index = i }

pub returns-in_err-name-clause-malformed : goal.returns-in_err-name-clause-malformed
returns-in_err-name-clause-malformed c = λ e. both_none_first IsName Behind name_of behind_of _ (c.in_err-name.ensures.malformed (search rules))

pub returns-in_err-kind-clause-malformed : goal.returns-in_err-kind-clause-malformed
returns-in_err-kind-clause-malformed c = λ e.
    both_none_second IsName Behind name_of behind_of _ _ c.in_ok-name.name one_name c.in_ok-name.ensures.ok (both_none_first IsExportKind IsU32 (λ (p : ExportKind × ℕ). p.0) (λ (p : ExportKind × ℕ). p.1) _ c.in_err-kind.ensures.bad)

pub returns-in_err-index-clause-malformed : goal.returns-in_err-index-clause-malformed
returns-in_err-index-clause-malformed c = λ e.
    both_none_second IsName Behind name_of behind_of _ _ c.in_ok-name.name one_name c.in_ok-name.ensures.ok (both_none_second IsExportKind IsU32 (λ (p : ExportKind × ℕ). p.0) (λ (p : ExportKind × ℕ). p.1) _ _ _ one_export_kind c.in_ok-kind.ensures.ok c.in_err-index.ensures.bad.1)

pub returns-clause-ok : goal.returns-clause-ok
returns-clause-ok c =
    let n = c.in_ok-name.name in
    let k = c.in_ok-kind.kind in
    let i = c.in_ok-index.index in
    (export_by n k i, both_some IsName Behind _ _ _ n (k, i) c.in_ok-name.ensures.ok (both_some IsExportKind IsU32 _ _ _ k i c.in_ok-kind.ensures.ok c.in_ok-index.ensures.ok.1), (refl, omega arith))
