use Rattle.std.proofs.Common.{◌≡◌, ◌-◌, take, drop, length, sym, subst}
use Rattle.module_ast.specs.Structure.{before, code_of, Tree}
use Rattle.wasm_sem.specs.Execution.{Frame}
use Rattle.wasm_run.specs.Running.{Run, configuration_of, IsInside, Innermost}
use Rattle.wasm_run.proofs.Moments.{label_there, place_there}
use Rattle.wasm_run.proofs.Targets.{first_before}
use Rattle.wasm_run.proofs.running.Running.target.Goals as goal

pub place-requires : goal.place-requires
place-requires c =
    label_there c.self.inside.module.now c.self.inside.script.now c.self.inside.stack c.self.inside.memory c.self.inside.globals
    (configuration_of (record { «module» = c.self.inside.module.now; script = c.self.inside.script.now; made = c.self.inside.made }))
    c.self.invariant.running.keeps (subst (λ (r : Run). IsInside (configuration_of r)) (sym c.self.view_is) c.requires)

pub target_of-requires : goal.target_of-requires
target_of-requires c =
    subst (λ (r : Run). Innermost (λ (fr : Frame). fr.top.rest ≡ before c.instr-item.result (code_of (take (length c.place.result.now - 1) (drop 1 c.place.result.now)))) (configuration_of r)) c.self.view_is
    (subst (λ (place : Tree). Innermost (λ (fr : Frame). fr.top.rest ≡ place) (configuration_of (record { «module» = c.self.inside.module.now; script = c.self.inside.script.now; made = c.self.inside.made }))) (first_before c.place.result.now c.instr-item.result c.in-len1-up.len_at_least c.instr-item.is)
    (place_there c.self.inside.module.now c.self.inside.script.now c.self.inside.stack c.self.inside.memory c.self.inside.globals (configuration_of (record { «module» = c.self.inside.module.now; script = c.self.inside.script.now; made = c.self.inside.made })) c.self.invariant.running.keeps
    (subst (λ (r : Run). IsInside (configuration_of r)) (sym c.self.view_is) c.requires) (code_of c.place.result.now) c.place.ensures))
