use Rattle.std.proofs.Common.{◌∙◌, Some, refl, sym, ap, subst, rules, SFits, w32}
use Rattle.std.proofs.lemmas.Int.{to_z-of_z}
use Rattle.std.proofs.lemmas.Result.{on_ok_weaker}
use Rattle.std.specs.Prelude.{option_map}
use Rattle.wasm_sem.specs.Types.{Module}
use Rattle.module_ast.specs.Validation.{block_type}
use Rattle.shadow_replay.specs.declared.blocks.Counts.{Counts}
use Rattle.shadow_replay.specs.Shadow.{begins_block}
use Rattle.shadow_replay.specs.Stacked.{Standing, Has, label_opened}
use Rattle.shadow_replay.specs.Tainted.{TaintedShadow, with_marks}
use Rattle.shadow_replay.specs.Replayed.{Replay, shadow_seen, block_begun}
use Rattle.shadow_replay.proofs.ShadowBlocks.{begun_at}
use Rattle.shadow_replay.proofs.ShadowTakes.{becomes}
use Rattle.shadow_replay.proofs.shadow.Shadow.open.Goals as goal

pub counts-counts-requires : goal.counts-counts-requires
counts-counts-requires c =
    let b = begun_at _ c.args.self.now c.args.loc c.in-Some.block c.at.result c.self.view_is (c.at.ensures c.self.inside.valid.now c.self.invariant.2) c.in-Some.is c.requires.fit in
    (b.1.type, ap (λ (m : Module). block_type m.types c.in-Some.block.ty) c.module.ensures.module ∙ b.1.at)

pub open-requires : goal.open-requires
open-requires c =
    let b = begun_at _ c.args.self.now c.args.loc c.in-Some.block c.at.result c.self.view_is (c.at.ensures c.self.inside.valid.now c.self.invariant.2) c.in-Some.is c.requires.fit in
    let counts = c.counts-counts.ensures b.1.type (ap (λ (m : Module). block_type m.types c.in-Some.block.ty) c.module.ensures.module ∙ b.1.at) in
    subst (λ n. Has n c.self.inside.stack.frames) (sym (ap (λ (n : Counts). n.starts) counts)) b.1.has

pub returns-clause-ok : goal.returns-clause-ok
returns-clause-ok c =
    let s = c.self.inside in
    let kept : Standing → TaintedShadow = λ st. shadow_seen s.memory.bytes s.memory_marks.items s.globals.items st s.prepared s.held (option_map (λ v. v.items) s.given) s.warnings.items in
    let b = begun_at _ c.args.self.now c.args.loc c.in-Some.block c.at.result c.self.view_is (c.at.ensures c.self.inside.valid.now c.self.invariant.2) c.in-Some.is c.requires.fit in
    let counts = c.counts-counts.ensures b.1.type (ap (λ (m : Module). block_type m.types c.in-Some.block.ty) c.module.ensures.module ∙ b.1.at) in
    let fits : SFits w32 c.args.loc.instr = search rules in
    on_ok_weaker c.open.result (λ is. becomes (λ (r : Replay). with_marks r.shadow.marks (block_begun c.args.loc r)) _ c.args.self.now _ c.self.view_is
    (ap (λ b. with_marks (kept s.stack).marks (begins_block s.valid.now (kept s.stack).state c.args.loc.instr b)) b.0 ∙ ap (with_marks (kept s.stack).marks) b.1.is
    ∙ ap (λ st. Some (kept st)) (sym (is ∙ ap (λ begin. label_opened c.in-Some.block.kind begin c.counts-counts.result.starts c.counts-counts.result.arity s.stack) (to_z-of_z w32 c.args.loc.instr fits)
    ∙ ap (λ (n : Counts). label_opened c.in-Some.block.kind c.args.loc.instr n.starts n.arity s.stack) counts))) refl refl refl) c.open.ensures.ok
