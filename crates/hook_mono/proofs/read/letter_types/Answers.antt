-- One more letter is read, and at the end all are.
use Rattle.std.proofs.Common.{◌+◌, Some, ap, sym, subst, ◌∙◌}
use Rattle.hook_mono.proofs.Letters.{AreReadTo, letter_read, letter_refused, all_read}
use Rattle.hook_mono.proofs.read.letter_types.Goals as goal

pub loop-letter-preserved : goal.loop-letter-preserved
loop-letter-preserved c =
    let letters = c.args.letters.now in
    let k = c.loop-letter.letter-index in
    subst (λ done. AreReadTo letters done (k + 1)) (sym c.in_ok-push-in-Some.ensures.items)
    (letter_read letters c.loop-letter.types.items k c.in-Some.ty c.loop-letter.invariant c.loop-letter-test.true (sym c.letter_type.ensures ∙ c.in-Some.is))

pub returns : goal.returns
returns c =
    sym (all_read c.args.letters.now c.loop-letter.types.items c.loop-letter.letter-index c.loop-letter.invariant c.loop-letter-test.false ∙ ap Some (sym c.from_vec.ensures))

pub returns-in-None : goal.returns-in-None
returns-in-None c =
    sym (letter_refused c.args.letters.now c.loop-letter.types.items c.loop-letter.letter-index c.loop-letter.invariant c.loop-letter-test.true (sym c.letter_type.ensures ∙ c.in-None.is))
