use Rattle.std.proofs.Common.{string_bytes, arith}
use Rattle.outside_io.proofs.memory_disk.append_file.Goals as goal

pub returns-clause-appended : goal.returns-clause-appended
returns-clause-appended c = record {
  fresh = string_bytes c.in-Some.name;
  was = c.in-Some-latest.was.now;
  is_made = grind (arith);
  has = grind (arith);
  pushed = rw (c.as_str-2.ensures.value, c.in_ok-extend_from_slice.ensures.items, c.in_ok-all.ensures.items) at c.in_ok-push.ensures.pushed;
}
