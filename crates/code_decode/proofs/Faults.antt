-- An error that is passed on.
use Rattle.std.specs.Prelude.{◌≡◌, Result, Ok, Err, OnErr}
use Rattle.std.specs.Result.{IsErrOf, IsErrAnd}
use Rattle.std.proofs.lemmas.Result.{err_from_is_err_and}
use Rattle.code_decode.specs.Locals.{body_fault}
use Rattle.code_decode.specs.declared.fault.Fault.{Fault}
use Rattle.code_decode.specs.declared.fault.Fault.TheVariants as faults
use Rattle.code_decode.specs.declared.body.BodyFault.{BodyFault}
use Rattle.code_decode.specs.declared.body.BodyFault.TheVariants.{Malformed}

-- what holds of any error
pub on_err : {A E : Type 0} (r : Result A E) {P : Type 0} → P → OnErr r P
on_err (Ok x) p = tt
on_err (Err e) p = p

-- where the result of a `?` is this error, the error that it passes on is
pub passed_on : {T U E : Type 0} (r : Result T E) (x m : E) → IsErrAnd r (λ y. y ≡ x) → IsErrOf r m → IsErrOf {T = U} (Err x) m
passed_on r x m h e = let p = err_from_is_err_and r h in let f = p.1 in let g = p.2 in cc

-- the same, where a fault of a part becomes one of the body
fault_is : {T : Type 0} (r : Result T BodyFault) (x : Fault) (m : BodyFault) → IsErrAnd r (λ y. y ≡ body_fault x) → IsErrOf r m → body_fault x ≡ m
fault_is r x m h e = let p = err_from_is_err_and r h in let f = p.1 in let g = p.2 in cc

pub malformed_part : {T U : Type 0} (r : Result T BodyFault) (x : Fault) → IsErrAnd r (λ y. y ≡ body_fault x) → IsErrOf r Malformed → IsErrOf {T = U} (Err x) faults.Malformed
malformed_part r faults.Malformed h e = let g = fault_is r faults.Malformed Malformed h e in cc
malformed_part r faults.NoMemory h e = let g = fault_is r faults.NoMemory Malformed h e in cc
