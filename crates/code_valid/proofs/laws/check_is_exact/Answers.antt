use Rattle.code_valid.proofs.Exact.{check_exact}
use Rattle.code_valid.proofs.laws.check_is_exact.Goals as goal

pub returns : goal.returns
returns c = λ d k a u. let e = check_exact d k in (λ (s, h, r). e.sound a s u h r, λ h. e.complete a u h)
