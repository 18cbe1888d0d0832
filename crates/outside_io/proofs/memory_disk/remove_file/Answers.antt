use Rattle.std.proofs.Common.{string_bytes, arith}
use Rattle.outside_io.proofs.memory_disk.remove_file.Goals as goal

pub returns-clause-removed : goal.returns-clause-removed
returns-clause-removed c = record {
  fresh = string_bytes c.in-Some.name;
  is_made = grind (arith);
  pushed = rw (c.as_str.ensures.value) at c.in_ok-push.ensures.pushed;
}
