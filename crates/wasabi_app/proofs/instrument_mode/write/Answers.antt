-- The output, and the information behind it, where it has a name.
use Rattle.std.proofs.Common.{Bor, List, ℕ, option_map, ap, inl}
use Rattle.std.proofs.lemmas.Result.{IfErr-weaker, err_from_is_err_and, on_ok_weaker}
use Rattle.wasabi_app.specs.Words.{given_of}
use Rattle.wasabi_app.proofs.Hooking.{wrote_both, wrote_twice, second_unwritten, all_ok}
use Rattle.wasabi_app.proofs.instrument_mode.write.Goals as goal

pub returns-in_err-put-clause-refused : goal.returns-in_err-put-clause-refused
returns-in_err-put-clause-refused g c =
    let p = err_from_is_err_and c.from_residual.result c.from_residual.ensures.1 in
    rw (p.1, p.2) (inl (c.in_err-put.ensures.once, c.in_err-put.ensures.refused))

pub returns-in-Some-clause-written : goal.returns-in-Some-clause-written
returns-in-Some-clause-written g c =
    on_ok_weaker _
    (wrote_both c.args.target.now c.args.output.now c.args.info.now c.in-Some.name.now (given_of c.args.given.now).info _ _ _
    (ap (option_map (λ (t : Bor (List ℕ)). t.now)) c.in-Some.is) c.in_ok-put.ensures.written)
    c.put-in-Some.ensures.written

pub returns-in-Some-clause-calls : goal.returns-in-Some-clause-calls
returns-in-Some-clause-calls g c =
    all_ok _
    (wrote_twice c.args.target.now c.args.output.now c.args.info.now c.in-Some.name.now (given_of c.args.given.now).info _ _ _
    (ap (option_map (λ (t : Bor (List ℕ)). t.now)) c.in-Some.is) c.in_ok-put.ensures.once c.put-in-Some.ensures.once)

pub returns-in-Some-clause-refused : goal.returns-in-Some-clause-refused
returns-in-Some-clause-refused g c =
    IfErr-weaker _ _ _
    (λ r k. second_unwritten c.args.target.now c.args.output.now c.args.info.now c.in-Some.name.now (given_of c.args.given.now).info _ _ _ _ _
    (ap (option_map (λ (t : Bor (List ℕ)). t.now)) c.in-Some.is) c.in_ok-put.ensures.written c.in_ok-put.ensures.once k c.put-in-Some.ensures.once)
    c.put-in-Some.ensures.refused
