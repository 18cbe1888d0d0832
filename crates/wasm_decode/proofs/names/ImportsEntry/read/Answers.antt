use Rattle.std.proofs.Common.{ℕ, List, ap, arith, rules}
use Rattle.leb_binary.specs.Texts.{Text}
use Rattle.leb_binary.specs.Leb.{IsName}
use Rattle.leb_binary.proofs.Fronts.{one_name}
use Rattle.module_ast.specs.Binary.{Both, ItemNode, ImportNode, IsItem}
use Rattle.module_ast.proofs.Compose.{both_none_first, both_none_second, both_some}
use Rattle.wasm_decode.proofs.names.ImportsEntry.read.Goals as goal

-- the second name, and what is imported
abbrev Behind : List ℕ → Text × ItemNode → Type 0
Behind rest p = Both IsName IsItem rest p.0 p.1

abbrev module_of : ImportNode → Text
module_of i = i.module_name

abbrev behind_of : ImportNode → Text × ItemNode
behind_of i = (i.name, i.item)

abbrev import_by : Text → Text → ItemNode → ImportNode
import_by m n i = record { module_name = m; name = n; item = i }

pub returns-in_err-module-clause-malformed : goal.returns-in_err-module-clause-malformed
returns-in_err-module-clause-malformed c = λ e. both_none_first IsName Behind module_of behind_of _ (c.in_err-module.ensures.malformed (search rules))

pub returns-in_err-name-clause-malformed : goal.returns-in_err-name-clause-malformed
returns-in_err-name-clause-malformed c = λ e.
    both_none_second IsName Behind module_of behind_of _ _ c.in_ok-module.module one_name c.in_ok-module.ensures.ok (both_none_first IsName IsItem (λ (p : Text × ItemNode). p.0) (λ (p : Text × ItemNode). p.1) _ (c.in_err-name.ensures.malformed (search rules)))

pub returns-in_err-item-clause-malformed : goal.returns-in_err-item-clause-malformed
returns-in_err-item-clause-malformed c = λ e.
    both_none_second IsName Behind module_of behind_of _ _ c.in_ok-module.module one_name c.in_ok-module.ensures.ok (both_none_second IsName IsItem (λ (p : Text × ItemNode). p.0) (λ (p : Text × ItemNode). p.1) _ _ c.in_ok-name.name one_name c.in_ok-name.ensures.ok c.in_err-item.ensures.bad)

pub returns-in-Some-clause-ok : goal.returns-in-Some-clause-ok
returns-in-Some-clause-ok c =
    let r = rw c.in-Some.is at c.in_ok-item.ensures.ok in
    let m = c.in_ok-module.module in
    let n = c.in_ok-name.name in
    (import_by m n r.0, both_some IsName Behind _ _ _ m (n, r.0) c.in_ok-module.ensures.ok (both_some IsName IsItem _ _ _ n r.0 c.in_ok-name.ensures.ok r.1), (ap (λ i. import_by m n i) r.2, omega arith))

pub returns-in-None-clause-ok : goal.returns-in-None-clause-ok
returns-in-None-clause-ok c =
    let r = rw c.in-None.is at c.in_ok-item.ensures.ok in
    let m = c.in_ok-module.module in
    let n = c.in_ok-name.name in
    (import_by m n r.0, both_some IsName Behind _ _ _ m (n, r.0) c.in_ok-module.ensures.ok (both_some IsName IsItem _ _ _ n r.0 c.in_ok-name.ensures.ok r.1), r.2)
