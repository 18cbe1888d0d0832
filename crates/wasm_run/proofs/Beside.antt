-- A step that calls no function changes nothing beside frames, memory and globals, but where the last frame is left.
use Rattle.std.proofs.Common.{List, [], ◌∷◌, refl}
use Rattle.wasm_sem.specs.Types.{Value}
use Rattle.wasm_sem.specs.Execution.{Store, Instance, Frame, Env, Phase, starting, calling, over, configuration, Next, reduces, env_after, return_to, reduce_code}
use Rattle.wasm_sem.specs.declared.Answer.{Answer}
use Rattle.wasm_sem.specs.declared.Answer.TheVariants.{Returned}
use Rattle.wasm_sem.specs.Rules.{HasSameRest}
use Rattle.wasm_run.specs.Beside.{GoesOnBeside}
use Rattle.run_stack.specs.Calls.{NextIsNoCall}
use Rattle.wasm_run.proofs.Within.{Within, moves, returns, fails, starves, within}

same_rest : (st : Store) → HasSameRest st st
same_rest st = record { slots = refl; hosts = refl }

pub same_beside : (e : Env) → GoesOnBeside e e
same_beside e = record { phase = refl; started = refl; answers = refl; store = same_rest e.store }

-- behind a step: where a frame is left, all else goes on, and else the store is as it was but for memory and globals
abbrev pub NextGoesOn : Env → Next → Type 0
NextGoesOn e (reduces (configuration f [])) = HasSameRest e.store f.store
NextGoesOn e (reduces (configuration f (fr ∷ below))) = GoesOnBeside e f
NextGoesOn e _ = Unit {0}

-- an answer leaves the store
pub answer_stays : (inst : Instance) (p : Phase) (e : Env) (a : Answer) → HasSameRest e.store (env_after inst p e a).store
answer_stays inst starting e a = same_rest e.store
answer_stays inst (calling n) e a = same_rest e.store
answer_stays inst over e a = same_rest e.store

return_goes_on : (inst : Instance) (e : Env) (below : List Frame) (vs : List Value) → NextGoesOn e (return_to inst e below vs)
return_goes_on inst e [] vs = answer_stays inst e.phase e (Returned vs)
return_goes_on inst e (caller ∷ rest) vs = same_beside e

within_goes_on : {inst : Instance} {e : Env} {fr : Frame} {below : List Frame} {next : Next} → Within inst e fr below next → NextGoesOn e next
within_goes_on (moves new g same h) = record { phase = refl; started = refl; answers = refl; store = same }
within_goes_on {inst = inst} {e = e} {below = below} (returns o p h) = return_goes_on inst e below p.0
within_goes_on (fails t) = tt
within_goes_on starves = tt

-- a step that calls no function
pub step_goes_on : (inst : Instance) (e : Env) (fr : Frame) (below : List Frame) → NextIsNoCall fr.top.rest → NextGoesOn e (reduce_code inst e fr below fr.top.rest fr.top.ops)
step_goes_on inst e fr below h = within_goes_on (within inst e fr below h)
