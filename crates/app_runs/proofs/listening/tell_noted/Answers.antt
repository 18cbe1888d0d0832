-- The note that is kept, or none for a listener that does not ask.
use Rattle.std.proofs.Common.{[], sym, subst}
use Rattle.std.proofs.lemmas.Result.{on_ok_weaker, IfErr-weaker}
use Rattle.static_info.specs.Items.{read}
use Rattle.app_runs.proofs.ListenTurns.{unasked_heard}
use Rattle.app_runs.proofs.listening.tell_noted.Goals as goal

pub tell_note-requires : goal.tell_note-requires
tell_note-requires g c = subst (λ is. g.L.Listener.ready (read c.args.info.now [] is) (g.L.Listener.seen c.args.listener.now)) (sym c.in-Some.ensures) c.requires.ready

pub returns-in-Some-clause-heard : goal.returns-in-Some-clause-heard
returns-in-Some-clause-heard g c =
    on_ok_weaker c.tell_note.result (subst (λ is. g.L.Listener.hears (read c.args.info.now [] is) (g.L.Listener.seen c.args.listener.now) (g.L.Listener.seen c.tell_note.new.listener)) c.in-Some.ensures)
    c.tell_note.ensures.heard

pub returns-in-Some-clause-fault : goal.returns-in-Some-clause-fault
returns-in-Some-clause-fault g c =
    IfErr-weaker c.tell_note.result _ _
    (λ why. subst (λ is. g.L.Listener.stands (read c.args.info.now [] is) (g.L.Listener.seen c.args.listener.now) why (g.L.Listener.seen c.tell_note.new.listener)) c.in-Some.ensures)
    c.tell_note.ensures.fault

pub returns-in-None-clause-heard : goal.returns-in-None-clause-heard
returns-in-None-clause-heard g c =
    unasked_heard _ _ _ _ _ _ g.met.L.Listener.listens g.L.Listener.asks g.N.Notes.KEEPS g.met.L.Listener.unasked c.requires.asks c.in-None.ensures c.args.info.now c.args.session.now _
