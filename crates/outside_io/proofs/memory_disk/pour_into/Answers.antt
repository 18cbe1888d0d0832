use Rattle.std.proofs.Common.{List, ℕ, ap}
use Rattle.outside_io.specs.Log.{taken_by}
use Rattle.outside_io.proofs.Steps.{none_poured}
use Rattle.outside_io.proofs.memory_disk.pour_into.Goals as goal

pub returns-in_err-extend_from_slice : goal.returns-in_err-extend_from_slice
returns-in_err-extend_from_slice c =
    none_poured c.from_residual.result c.args.bytes.now _ _ c.from_residual.ensures.0
    (ap (λ (poured : List ℕ). taken_by c.args.device.now poured c.args.name.now) c.in_err-extend_from_slice.ensures.items)
