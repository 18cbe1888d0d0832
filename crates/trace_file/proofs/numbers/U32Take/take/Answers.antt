use Rattle.std.proofs.Common.{◌≡◌, ap, length, arith}
use Rattle.leb_binary.specs.Shortest.{unsigned_bytes}
use Rattle.trace_file.proofs.Apart.{only_one}
use Rattle.trace_file.proofs.Spellings.{apart_number}
use Rattle.trace_file.proofs.Exact.{exact_unsigned, other_unsigned, no_unsigned}
use Rattle.trace_file.proofs.numbers.U32Take.take.Goals as goal

pub returns-in_default-clause-none : goal.returns-in_default-clause-none
returns-in_default-clause-none c = λ _. no_unsigned _ c.in_default.ensures.bad.1

pub returns-then-left-unsigned_length-clause-none : goal.returns-then-left-unsigned_length-clause-none
returns-then-left-unsigned_length-clause-none c =
    let same : c.from.result ≡ c.in-Ok.number = omega arith in
    let n = ap (λ x. length (unsigned_bytes x)) same in
    λ _. other_unsigned _ _ _ c.in-Ok.ensures.ok.1 (λ l. c.if-left-unsigned_length.true (omega arith))

pub returns-clause-taken : goal.returns-clause-taken
returns-clause-taken c =
    let same : c.from.result ≡ c.in-Ok.number = omega arith in
    let n = ap (λ x. length (unsigned_bytes x)) same in
    exact_unsigned _ _ _ c.in-Ok.ensures.ok.1 (omega arith) (omega arith)

pub returns-clause-only : goal.returns-clause-only
returns-clause-only c = only_one apart_number _ _ _ (returns-clause-taken c)
