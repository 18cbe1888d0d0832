use Rattle.std.proofs.Common.{string_bytes, arith}
use Rattle.outside_io.proofs.memory_disk.rename_file.Goals as goal

pub returns-clause-renamed : goal.returns-clause-renamed
returns-clause-renamed c = record {
  fresh = string_bytes c.in-Some.name;
  bytes = c.in-Some-latest.bytes.now;
  is_made = grind (arith);
  has = grind (arith);
  pushed = rw (c.in_ok-copy.ensures.items, c.in_ok-gone.ensures.ok, c.as_str-2.ensures.value) at c.in_ok-push.ensures.pushed;
}
