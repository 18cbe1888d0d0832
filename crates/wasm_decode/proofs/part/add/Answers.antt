use Rattle.wasm_decode.proofs.Standing.{stand_push, stand_deep}
use Rattle.wasm_decode.proofs.part.add.Goals as goal

pub returns-in_ok-push-in-Whole-clause-added : goal.returns-in_ok-push-in-Whole-clause-added
returns-in_ok-push-in-Whole-clause-added g c = λ bound gs h p q.
    let r = rw c.in-Whole.is at q in
    rw c.in_ok-push-in-Whole.ensures.items (stand_push g.E.Entry.form bound c.args.part.now.floats c.args.part.now.items.items c.in-Whole.item c.args.part.now.deep gs h p r.0 r.1)

pub returns-in_ok-push-in-Deep-clause-added : goal.returns-in_ok-push-in-Deep-clause-added
returns-in_ok-push-in-Deep-clause-added g c = λ bound gs h p q.
    let r = rw c.in-Deep.is at q in
    rw (c.in_ok-push-in-Deep.ensures.items, c.first-part.ensures) (stand_deep g.E.Entry.form bound c.args.part.now.floats c.args.part.now.items.items c.in-Deep.item r.0 c.args.part.now.deep c.in-Deep.found gs h p r.1 r.2 r.3 r.4)
