use Rattle.std.proofs.Common.{ap, length, arith, w32, to_z, of_z, rules}
use Rattle.rewrite_needs.specs.declared.needs.Needs.{Needs}
use Rattle.rewrite_needs.specs.Needing.{told_keys}
use Rattle.rewrite_needs.proofs.Known.{few_each}
use Rattle.rewrite_needs.proofs.Needing.{keys_few, rest_few}
use Rattle.rewrite_needs.proofs.needs.Needs.add_place.Goals as goal

pub add_ends-requires : goal.add_ends-requires
add_ends-requires c =
    let n = c.args.self.now in
    let x = c.args.place.now in
    let s = c.args.site.now in
    let p = to_z w32 (of_z w32 x.position) in
    let added = c.in_ok-add_opcode.ensures in
    omega (
      arith,
      ap (λ (n : Needs). length n.table) added,
      ap (λ (n : Needs). length n.stack) added,
      few_each n.hooks n.table (told_keys s p x.opcode),
      keys_few s p x.opcode,
      ap length c.leave.ensures.rest,
      rest_few c.args.depth n.stack,
    )

pub returns : goal.returns
returns c = search rules
