use Rattle.std.proofs.Common.{◌≡◌, ◌≤◌, ◌+◌, ◌*◌, drop}
use Rattle.module_ast.specs.Structure.{weight, done, code_of, onto, before}
use Rattle.index_remap.specs.Remap.{map_tree, Maps}
use Rattle.index_remap.proofs.Remap.+map.Given as goal

abbrev pub decreases-map_code : goal.decreases-map_code
decreases-map_code l = 3 * weight l.code.now + 2

abbrev pub decreases-map_body : goal.decreases-map_body
decreases-map_body l = 3 * weight (code_of l.code.now) + 1

abbrev pub decreases-map_instr : goal.decreases-map_instr
decreases-map_instr l = 3 * weight (before l.instr.now done)

abbrev pub invariant-map_body-loop-instr : goal.invariant-map_body-loop-instr
invariant-map_body-loop-instr l = record {
  so_far : onto l.items.items (map_tree l.self (code_of (drop l.instr-index l.code))) ≡ map_tree l.self (code_of l.code);
  maps : Maps l.self (code_of (drop l.instr-index l.code));
  lighter : weight (code_of (drop l.instr-index l.code)) ≤ weight (code_of l.code);
}
