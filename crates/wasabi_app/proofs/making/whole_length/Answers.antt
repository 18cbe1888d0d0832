-- The length of an output with its names is the sum of two lengths.
use Rattle.std.proofs.Common.{◌≡◌, ◌+◌, ◌++◌, ℕ, List, length, Option, Some, None, Result, SomeIff, IfOk, sym, ap, subst, ◌∙◌}
use Rattle.std.specs.Option.{ok_or}
use Rattle.std.proofs.lemmas.List.{length-append}
use Rattle.instrument.specs.Output.{output_bytes}
use Rattle.name_map.specs.Written.{name_section_bytes}
use Rattle.wasabi_app.specs.KeptNames.{output_names}
use Rattle.wasabi_app.proofs.making.whole_length.Goals as goal

-- a sum that there is, is this number
summed : {E : Type 0} (e : E) (sum whole : ℕ) (P : Type 0) (found : Option ℕ) (result : Result ℕ E) → SomeIff found P sum → sum ≡ whole → result ≡ ok_or found e
    → IfOk result (λ n. n ≡ whole)
summed e sum whole P None result there same is = subst (λ r. IfOk r (λ n. n ≡ whole)) (sym is) tt
summed e sum whole P (Some n) result there same is = subst (λ r. IfOk r (λ n. n ≡ whole)) (sym is) (there.1 ∙ same)

pub returns : goal.returns
returns g c =
    let m = c.args.subject.now.module.now in
    let out = output_bytes m c.args.hooks.now in
    let section = name_section_bytes (output_names m c.args.hooks.now c.args.subject.now.names.now) in
    let added : c.len.result ≡ length section = c.len.ensures ∙ c.put_names.new.out.ok.0 ∙ ap length (c.in_ok-put_names.ensures ∙ ap (λ (l : List ℕ). l ++ section) c.new-section.ensures.items) in
    let same = ap (λ n. n + c.len.result) c.requires.is ∙ ap (λ n. length out + n) added ∙ sym (length-append out section) in
    summed _ (c.args.bare + c.len.result) _ _ c.checked_add.result c.ok_or.result c.checked_add.ensures same c.ok_or.ensures.value
