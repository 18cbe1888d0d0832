use Rattle.std.proofs.Common.{◌≡◌, ◌+◌, ◌∙◌, refl, sym, ap, subst}
use Rattle.std.specs.Prelude.{option_map}
use Rattle.std.proofs.lemmas.Result.{on_ok_weaker}
use Rattle.module_ast.specs.Validation.{load_width}
use Rattle.module_ast.specs.declared.ops.VarOp.TheVariants.{Set}
use Rattle.wasm_sem.specs.Types.{Event, VarOp}
use Rattle.hook_select.specs.declared.Event.TheVariants as events
use Rattle.wasm_sem.specs.Execution.{event}
use Rattle.shadow_replay.specs.Tainted.{outer_count}
use Rattle.shadow_replay.specs.Taint.{read_mark}
use Rattle.shadow_replay.specs.Replayed.{Replay, TakesItem, IsFitEvent, HoldsValues}
use Rattle.shadow_replay.proofs.ShadowTakes.{seen_in, takes_event, load_takes, global_set}
use Rattle.shadow_replay.proofs.ShadowBranches.{br_takes, return_takes}
use Rattle.shadow_replay.proofs.shadow.Shadow.take.Goals as goal

pub returns-in-Load-clause-ok : goal.returns-in-Load-clause-ok
returns-in-Load-clause-ok c =
    let u = c.in-Load in
    let seen = seen_in c.self-in-Load.view_is in
    let read = c.read_mark-mark.ensures ∙ ap (λ (r : Replay). read_mark (u.address + u.offset) (load_width u.op) r.shadow.marks.taint) (sym c.self-in-Load.view_is) in
    takes_event c.args.e.now (events.Load u.loc u.op u.offset u.address u.value) seen c.args.self.now _ c.self-in-Load.view_is u.is c.requires.fit.effect
    (λ fit. load_takes seen.module seen.limit seen.watch seen.shadow c.replace-in-Load.new.self u.loc u.op u.offset u.address u.value c.read_mark-mark.result fit read c.replace-in-Load.ensures) refl refl refl

pub returns-in-Br-clause-ok : goal.returns-in-Br-clause-ok
returns-in-Br-clause-ok c =
    let u = c.in-Br in
    on_ok_weaker c.hold.result (λ (h : HoldsValues u.label 0 c.args.self.now c.hold.new.self). subst (λ (e : Event). TakesItem (event e) c.args.self.now c.hold.new.self) (sym u.is)
    (br_takes u.loc u.label u.target c.args.self.now c.hold.new.self (subst (λ (e : Event). IsFitEvent e c.args.self.now) u.is c.requires.fit.effect) h)) c.hold.ensures.ok

pub returns-in-Return-clause-ok : goal.returns-in-Return-clause-ok
returns-in-Return-clause-ok c =
    let u = c.in-Return in
    let n = c.outer_count-label.result in
    let label : n ≡ outer_count c.args.self.now.shadow.state.frames = c.outer_count-label.ensures ∙ ap (λ (r : Replay). outer_count r.shadow.state.frames) c.self-in-Return.view_is in
    on_ok_weaker c.hold-in-Return.result (λ (h : HoldsValues n 0 c.args.self.now c.hold-in-Return.new.self). subst (λ (e : Event). TakesItem (event e) c.args.self.now c.hold-in-Return.new.self) (sym u.is)
    (return_takes u.loc u.results n c.args.self.now c.hold-in-Return.new.self (subst (λ (e : Event). IsFitEvent e c.args.self.now) u.is c.requires.fit.effect) label h)) c.hold-in-Return.ensures.ok

pub returns-in-Set-op-clause-ok : goal.returns-in-Set-op-clause-ok
returns-in-Set-op-clause-ok c =
    let u = c.in-Global in
    let s = c.self-in-Global.inside in
    let seen = seen_in c.self-in-Global.view_is in
    let is = u.is ∙ ap (λ (op : VarOp). events.Global u.loc op u.index u.value) c.in-Set-op.is in
    takes_event c.args.e.now (events.Global u.loc Set u.index u.value) seen c.args.self.now _ c.self-in-Global.view_is is c.requires.fit.effect
    (λ fit. global_set seen.module seen.limit seen.watch s.memory.bytes s.memory_marks.items s.globals.items s.stack c.pop-in-Set-op.new.self s.prepared s.held (option_map (λ v. v.items) s.given) s.warnings.items u.loc u.index u.value c.mark-mark-in-Set-op.result fit
    c.mark-mark-in-Set-op.ensures c.pop-in-Set-op.ensures) refl refl refl
