use Rattle.std.proofs.Common.{arith, ◌+◌, ap, sym, ◌∙◌, drop, subst, rules}
use Rattle.module_ast.specs.Structure.{weight, code_of, onto, onto_push}
use Rattle.index_remap.specs.Remap.{map_tree, Maps}
use Rattle.module_ast.proofs.Plains.{next_instr, weight_before}
use Rattle.index_remap.proofs.Along.{maps_parts}
use Rattle.index_remap.proofs.Remap.+map.Goals as goal

pub map_body-map_instr-requires : goal.map_body-map_instr-requires
map_body-map_instr-requires t c =
    let i = c.instr-item.result in
    let is = c.args.code.now in
    let k = c.loop-instr.instr-index in
    let rest = code_of (drop (k + 1) is) in
    let next = next_instr is k i c.loop-instr-test.true c.instr-item.is in
    (omega (arith, ap weight next, weight_before i rest, c.loop-instr.invariant.lighter), (maps_parts c.args.self.now i rest (subst (Maps c.args.self.now) next c.loop-instr.invariant.maps)).0)

pub map_body-loop-instr-preserved : goal.map_body-loop-instr-preserved
map_body-loop-instr-preserved t c =
    let i = c.instr-item.result in
    let is = c.args.code.now in
    let k = c.loop-instr.instr-index in
    let rest = code_of (drop (k + 1) is) in
    let next = next_instr is k i c.loop-instr-test.true c.instr-item.is in
    record {
      so_far = ap (λ l. onto l (map_tree c.args.self.now rest)) c.in_ok-push.ensures.items ∙ onto_push _ _ _ ∙ ap (onto c.loop-instr.items.items) (c.in_ok-map_instr.ensures rest ∙ ap (map_tree c.args.self.now) (sym next)) ∙ c.loop-instr.invariant.so_far;
      maps = (maps_parts c.args.self.now i rest (subst (Maps c.args.self.now) next c.loop-instr.invariant.maps)).1;
      lighter = omega (arith, ap weight next, weight_before i rest);
    }

pub map_instr-returns-in-Call : goal.map_instr-returns-in-Call
map_instr-returns-in-Call c = search rules
