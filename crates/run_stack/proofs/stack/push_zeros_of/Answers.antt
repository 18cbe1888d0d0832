use Rattle.std.proofs.Common.{◌+◌, ◌-◌, ◌++◌, ◌∙◌, take, replicate, ap, arith, refl, sym}
use Rattle.run_stack.proofs.Zeros.{zeros_more}
use Rattle.run_stack.proofs.stack.push_zeros_of.Goals as goal

pub returns-clause-items : goal.returns-clause-items
returns-clause-items c =
    let ok = c.resize.ensures.succeeds (omega arith) in
    let items = c.resize.ensures.items in
    let grown = c.len.result + c.args.group.now.count in
    zeros_more c.args.values.now.items c.resize.new.self.items grown c.len.result c.args.group.now.count c.args.group.now.ty c.zero.result
    ((rw ok at items) ∙ ap (λ n. take grown c.args.values.now.items ++ replicate (grown - n) c.zero.result) (sym c.len.ensures)) refl (c.len.ensures ∙ c.args.values.now.ok.0) c.zero.ensures
