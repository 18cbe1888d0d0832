-- Events warn of nothing: warnings come at host calls alone.
use Rattle.std.proofs.Common.{◌≡◌, ℕ, zero, suc, List, [], ◌∷◌, Option, Some, None, refl}
use Rattle.wasm_num.specs.declared.BlockKind.TheVariants as kinds
use Rattle.wasm_sem.specs.Types.{FuncType, Loc, Module, Event}
use Rattle.hook_select.specs.declared.Event.TheVariants as events
use Rattle.wasm_sem.specs.Execution.{Callee, at_zero}
use Rattle.shadow_replay.specs.Shadow.{ShadowFrame, ShadowLabel, HeldValues, Shadow}
use Rattle.shadow_replay.specs.Taint.{exchange}
use Rattle.shadow_replay.specs.Tainted.{ShadowMarks, move, holds_marks, drops_held_marks, drops_fallen_marks, drops_marks, ends_marks, calls_marks, calls_typed_marks}
use Rattle.shadow_replay.specs.Events.{event_marks}

-- the marks warn of the same
abbrev pub Warns : ShadowMarks → ShadowMarks → Type 0
Warns k l = l.taint.warnings ≡ k.taint.warnings

zero_warns : (n : ℕ) (k a b : ShadowMarks) → Warns k a → Warns k b → Warns k (at_zero n a b)
zero_warns zero k a b p q = p
zero_warns (suc n) k a b p q = q

held_warn : (n : ℕ) (ls : List ShadowLabel) (label : ℕ) (k : ShadowMarks) → Warns k (drops_held_marks n ls label k)
held_warn n [] label k = refl
held_warn n (l ∷ ls) zero k = refl
held_warn n (l ∷ ls) (suc label) k = refl

fallen_warn : (n a : ℕ) (ls : List ShadowLabel) (k : ShadowMarks) → Warns k (drops_fallen_marks n a ls k)
fallen_warn n a [] k = refl
fallen_warn n a (l ∷ ls) k = refl

drops_warn : (fr : ShadowFrame) (held : Option HeldValues) (k : ShadowMarks) → Warns k (drops_marks fr held k)
drops_warn fr None k = fallen_warn _ fr.top.arity fr.outer k
drops_warn fr (Some h) k = held_warn _ fr.outer h.label k

ends_warn : (fs : List ShadowFrame) (held : Option HeldValues) (k : ShadowMarks) → Warns k (ends_marks fs held k)
ends_warn [] held k = refl
ends_warn (fr ∷ below) held k = drops_warn fr held k

calls_warn : (p : Loc) (c : Option Callee) (k : ShadowMarks) → Warns k (calls_marks p c k)
calls_warn p None k = refl
calls_warn p (Some c) k = refl

typed_warn : (m : Module) (p : Loc) (f : Option ℕ) (ty : Option FuncType) (k : ShadowMarks) → Warns k (calls_typed_marks m p f ty k)
typed_warn m p f None k = refl
typed_warn m p f (Some ty) k = refl

pub event_warns : (m : Module) (sh : Shadow) (e : Event) (k : ShadowMarks) → Warns k (event_marks m sh e k)
event_warns m sh (events.BrIf p n target x) k = zero_warns x k (move (exchange 1 []) k) (holds_marks n sh.frames (move (exchange 1 []) k)) refl refl
event_warns m sh (events.Begin p kinds.Function) k = refl
event_warns m sh (events.End p kind begin) k = ends_warn sh.frames sh.held k
event_warns m sh (events.CallPre p f args) k = calls_warn p _ k
event_warns m sh (events.IndirectPre p ty slot f args) k = typed_warn m p f _ (move (exchange 1 []) k)
event_warns m sh _ k = refl
