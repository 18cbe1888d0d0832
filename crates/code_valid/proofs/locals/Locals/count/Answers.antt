use Rattle.std.proofs.Common.{◌∙◌, ◌-◌, sym, ap, length, slice_get}
use Rattle.code_valid.proofs.Runs.{last_run, count_types}
use Rattle.code_valid.proofs.locals.Locals.count.Goals as goal

pub returns-in-Some : goal.returns-in-Some
returns-in-Some c =
    let runs = c.self.inside.runs.items in
    last_run 0 runs c.in-Some.run'.now (c.in-Some.ensures.value ∙ ap (λ xs. slice_get xs (length xs - 1)) c.deref.ensures.value) ∙ sym (count_types runs c.self.invariant) ∙ ap length c.self.view_is
