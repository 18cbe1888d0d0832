use Rattle.std.proofs.Common.{◌+◌, ◌≤◌, length, ap, arith, refl}
use Rattle.std.proofs.lemmas.Bool.{leb-true}
use Rattle.shadow_replay.proofs.ShadowHosts.{unmarked_part}
use Rattle.shadow_replay.proofs.marks.write.Goals as goal

pub returns-clause-marks : goal.returns-clause-marks
returns-clause-marks c =
    let w = c.args.write.now in
    let within : w.address + length w.bytes ≤ length c.args.memory.now.bytes = leb-true (w.address + length w.bytes) (length c.args.memory.now.bytes) c.requires.within in
    unmarked_part w.address (length c.as_slice-bytes.result.now) _ c.args.marks.now c.mark_all.new.marks w.bytes (ap length c.as_slice-bytes.ensures) refl (omega (arith, within, c.requires.aligned)) c.mark_all.ensures
