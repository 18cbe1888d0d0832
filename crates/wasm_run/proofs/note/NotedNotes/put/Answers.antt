use Rattle.std.proofs.Common.{◌≡◌, ◌∙◌, true, false, sym, subst, arith}
use Rattle.std.specs.Prelude.{MatchOption}
use Rattle.wasm_run.specs.declared.note.Note.{Note}
use Rattle.wasm_run.specs.Noting.{noted_items, next_outside}
use Rattle.wasm_run.specs.NotesKept.{further}
use Rattle.wasm_run.proofs.note.NotedNotes.put.Goals as goal

pub returns-in-Some : goal.returns-in-Some
returns-in-Some c r kept made_is tells = record {
  few = omega (arith, made_is);
  last_is = λ _. subst (λ o. MatchOption o (true ≡ false) (λ (n : Note). noted_items n ≡ next_outside r)) c.in-Some.is tells ∙ sym (further r);
  since = λ less. absurd (omega (arith, less, made_is));
  nothing_is = kept.nothing_is;
}
