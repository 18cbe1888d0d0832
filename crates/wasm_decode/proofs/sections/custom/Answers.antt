use Rattle.std.proofs.Common.{sym, ◌∙◌, rules}
use Rattle.wasm_decode.proofs.sections.custom.Goals as goal

pub returns-in_err-name-clause-malformed : goal.returns-in_err-name-clause-malformed
returns-in_err-name-clause-malformed c = λ e n p.
    let h = rw c.new-cursor.ensures.left at c.in_err-name.ensures.malformed in
    h (search rules) p.1 n (p.0, p.2, p.3)

pub returns-clause-ok : goal.returns-clause-ok
returns-clause-ok c =
    let f = c.in_ok-name.ensures.ok in
    (f.0, c.read_name.new.cursor.left, sym c.new-cursor.ensures.left ∙ f.1, f.2)
