use Rattle.std.proofs.Common.{◌≡◌, ◌+◌, ◌∙◌, ◌++◌, ◌∷◌, [], length, sym, ap, subst, arith}
use Rattle.std.proofs.lemmas.Result.{err_from_is_err_and}
use Rattle.trace_file.specs.Begins.{BeginsWithSpelling, NoneBegins}
use Rattle.trace_file.specs.Files.{IsNoTrace, HasRead}
use Rattle.trace_file.specs.Rows.{event_bytes, FitsEvent}
use Rattle.trace_file.proofs.Whole.{shorter, behind_one, read_one, none_more, not_counted}
use Rattle.trace_file.proofs.reader.TraceReader.next.Goals as goal

pub returns-in_err-event-clause-not : goal.returns-in_err-event-clause-not
returns-in_err-event-clause-not c =
    let p = err_from_is_err_and c.from_residual.result c.from_residual.ensures.1 in
    let xs = c.self.invariant.0 in
    let left = c.new-cursor.ensures.left in
    rw p.1 (λ e.
    let none = subst (NoneBegins FitsEvent event_bytes) left (c.in_err-event.ensures.none (sym p.2 ∙ e)) in
    subst IsNoTrace (ap (λ r. r.bytes) c.self.view_is) (none_more _ xs.0 xs.1 none (λ rest d. c.in_err-event.ensures.no_end (sym p.2 ∙ e) rest (left ∙ d))))

pub returns-in_err-take_count-clause-not : goal.returns-in_err-take_count-clause-not
returns-in_err-take_count-clause-not c =
    let p = err_from_is_err_and c.from_residual-in_err-take_count.result c.from_residual-in_err-take_count.ensures.1 in
    let xs = c.self.invariant.0 in
    let end = sym c.new-cursor.ensures.left ∙ rw c.in_default.is at c.in_ok-event.ensures.taken in
    rw p.1 (λ e. subst IsNoTrace (ap (λ r. r.bytes) c.self.view_is) (not_counted _ _ xs.0 xs.1 end (c.in_err-take_count.ensures.not (sym p.2 ∙ e))))

-- what is behind the event is what the cursor has left
taken : (c : goal.After-self-1) → (BeginsWithSpelling FitsEvent event_bytes c.self.inside.left.now c.take_next.new.cursor.left c.in-Some.event) × (c.split_at.result.1.now ≡ c.take_next.new.cursor.left)
taken c =
    let b = subst (λ l. BeginsWithSpelling FitsEvent event_bytes l c.take_next.new.cursor.left c.in-Some.event) c.new-cursor.ensures.left (rw c.in-Some.is at c.in_ok-event.ensures.taken) in
    (b, behind_one _ _ _ _ _ b (omega (arith, c.left.ensures)) c.split_at.ensures.back)

pub invariant_of-self : goal.invariant_of-self
invariant_of-self c =
    let t = taken c in
    let xs = c.self.invariant.0 in
    let less = shorter _ _ _ t.0 in
    let read = subst (λ l. HasRead (xs.0 ++ c.in-Some.event ∷ []) (record { bytes = c.self.inside.bytes.now; count = c.self.inside.count + 1; left = l })) (sym t.1) (read_one _ _ xs.0 c.in-Some.event xs.1 t.0) in
    ((xs.0 ++ c.in-Some.event ∷ [], read), omega (arith, less, ap length t.1, c.self.invariant.1))

pub returns-clause-event : goal.returns-clause-event
returns-clause-event c = λ es h.
    let t = taken c in
    let old = subst (HasRead es) (sym c.self.view_is) h in
    subst (λ l. HasRead (es ++ c.in-Some.event ∷ []) (record { bytes = c.self.inside.bytes.now; count = c.self.inside.count + 1; left = l })) (sym t.1) (read_one _ _ es c.in-Some.event old t.0)

pub returns-clause-less : goal.returns-clause-less
returns-clause-less c =
    let t = taken c in
    omega (arith, shorter _ _ _ t.0, ap length t.1, ap (λ r. length r.left) c.self.view_is)
