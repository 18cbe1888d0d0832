-- What a step of a run comes to: a function runs on, or what ran has ended. Also: where memory may run out.
use Rattle.std.specs.Prelude.{◌≡◌, ℕ, ◌⊎◌, [], ◌∷◌, Result, Ok, Err, Option, Some, None, false}
use Rattle.std.specs.declared.alloc.AllocError.{AllocError}
use Rattle.module_ast.specs.Structure.{Tree, plain, call, call_indirect, memory_grow}
use Rattle.wasm_sem.specs.declared.Answer.{Answer}
use Rattle.wasm_sem.specs.declared.Answer.TheVariants.{Trapped}
use Rattle.wasm_sem.specs.declared.Trap.{Trap}
use Rattle.wasm_sem.specs.Execution.{Instance, instance, Env, Configuration, configuration, env_after, is_last}
use Rattle.run_stack.specs.Leaving.{LeavesMany}
use Rattle.wasm_run.specs.Running.{Run, configuration_of, one_more, IsInside}

-- what a configuration has apart from the frames
abbrev pub env_beside : Configuration → Env
env_beside (configuration e fs) = e

-- what runs or is entered next is the same, and the answers are the same
pub record HasSameAnswers (old new : Env) : Type 0 where
  pub phase : new.phase ≡ old.phase
  pub started : new.started ≡ old.started
  pub answers : new.answers ≡ old.answers

-- a function runs on
pub record RunsOn (old new : Configuration) : Type 0 where
  pub inside : IsInside new
  pub same : HasSameAnswers (env_beside old) (env_beside new)

-- what ran has ended with this answer
pub record EndsWith (inst : Instance) (a : Answer) (old new : Configuration) : Type 0 where
  pub outside : IsInside new → ⊥
  pub told : HasSameAnswers (env_after inst (env_beside old).phase (env_beside old) a) (env_beside new)

-- the next instruction is a call or a `memory.grow`
abbrev pub CallsOrGrows : Tree → Type 0
CallsOrGrows (plain (call f) k) = Unit {0}
CallsOrGrows (plain (call_indirect x) k) = Unit {0}
CallsOrGrows (plain memory_grow k) = Unit {0}
CallsOrGrows _ = ⊥

-- Memory may run out only at four steps: an entry of the start or of a call of the script, a call, a `memory.grow`, and
-- one that leaves the last frame with more than four values.
abbrev pub MayWant : Configuration → Type 0
MayWant (configuration e []) = is_last e.phase ≡ false
MayWant (configuration e (fr ∷ below)) = CallsOrGrows fr.top.rest ⊎ ((above : ℕ) × LeavesMany above fr below)

-- a function runs on, or what ran has ended with this answer
abbrev pub MovesBy : Instance → Option Answer → (old new : Configuration) → Type 0
MovesBy inst None old new = RunsOn old new
MovesBy inst (Some a) old new = EndsWith inst a old new

-- one step was made; none if memory ran out
abbrev pub MakesStep : Result (Option Answer) AllocError → (old new : Run) → Type 0
MakesStep (Ok a) old new = (new ≡ one_more old) × MovesBy (instance old.module old.script) a (configuration_of old) (configuration_of (one_more old))
MakesStep (Err u) old new = (new ≡ old) × MayWant (configuration_of old)

-- the answer if a call traps; if it does not trap, a function runs on
abbrev pub trap_answer : Option Trap → Option Answer
trap_answer None = None
trap_answer (Some t) = Some (Trapped t)

-- one step was made, a call, which may trap; none if memory ran out
abbrev pub MakesCall : Result (Option Trap) AllocError → (old new : Run) → Type 0
MakesCall (Ok t) old new = MakesStep (Ok (trap_answer t)) old new
MakesCall (Err u) old new = MakesStep (Err u) old new
