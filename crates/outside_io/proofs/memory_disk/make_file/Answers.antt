use Rattle.std.proofs.Common.{◌≡◌, string_bytes, length, length-append, ◌+◌, ap, arith}
use Rattle.outside_io.proofs.memory_disk.make_file.Goals as goal

pub returns-clause-made : goal.returns-clause-made
returns-clause-made c = record {
  fresh = string_bytes c.push_str.new.self;
  is_made = grind (arith);
  apart = λ same.
      let long : length (string_bytes c.push_str.new.self) ≡ length c.args.beside.now + 1 = grind (arith, length-append) in
      let short : length (string_bytes c.push_str.new.self) ≡ length c.args.beside.now = ap length same in
      omega (arith, long, short);
  free = grind (arith);
  pushed = rw (c.as_str-2.ensures.value, c.new.ensures.items) at c.in_ok-push.ensures.pushed;
}
