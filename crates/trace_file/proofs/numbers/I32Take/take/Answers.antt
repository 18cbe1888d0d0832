use Rattle.std.proofs.Common.{◌≡◌, rules, arith, ap, length, FitsSigned, w32, w64, to_z, of_z}
use Rattle.std.proofs.lemmas.Int.{ints}
use Rattle.leb_binary.specs.Shortest.{signed_bytes}
use Rattle.trace_file.proofs.Spellings.{apart_signed, in_32}
use Rattle.trace_file.proofs.Apart.{only_one}
use Rattle.trace_file.proofs.Exact.{exact_signed, other_signed, no_signed}
use Rattle.trace_file.proofs.numbers.I32Take.take.Goals as goal

pub returns-in_default-clause-none : goal.returns-in_default-clause-none
returns-in_default-clause-none c = λ _. no_signed 32 _ c.in_default.ensures.bad.1

pub returns-then-left-signed_length-clause-none : goal.returns-then-left-signed_length-clause-none
returns-then-left-signed_length-clause-none c =
    let f : FitsSigned w32 c.in-Ok.number = search rules in
    let e : to_z w32 (of_z w32 c.in-Ok.number) ≡ c.in-Ok.number = omega (arith, ints) in
    let k : to_z w64 (of_z w64 c.from.result) ≡ to_z w32 (of_z w32 c.in-Ok.number) = omega (arith, ints) in
    let n = ap (λ x. length (signed_bytes x)) k in
    λ _. other_signed 32 _ _ _ _ e c.in-Ok.ensures.ok.1 (λ l. c.if-left-signed_length.true (omega arith))

pub returns-clause-taken : goal.returns-clause-taken
returns-clause-taken c =
    let f : FitsSigned w32 c.in-Ok.number = search rules in
    let e : to_z w32 (of_z w32 c.in-Ok.number) ≡ c.in-Ok.number = omega (arith, ints) in
    let k : to_z w64 (of_z w64 c.from.result) ≡ to_z w32 (of_z w32 c.in-Ok.number) = omega (arith, ints) in
    let n = ap (λ x. length (signed_bytes x)) k in
    exact_signed 32 _ _ _ _ e c.in-Ok.ensures.ok.1 (in_32 _ (omega (arith, ints)) (omega (arith, ints))) (omega arith)

pub returns-clause-only : goal.returns-clause-only
returns-clause-only c = only_one (apart_signed 32) _ _ _ (returns-clause-taken c)
