-- Host functions that answer by what they have seen, in place of a list of answers.
use Rattle.std.specs.Prelude.{◌≡◌, ◌≢◌, ℕ, zero, suc, ◌<◌, List, [], ◌∷◌, ◌++◌, All}
use Rattle.wasm_sem.specs.Types.{Value, Module}
use Rattle.wasm_sem.specs.declared.HostAnswer.{HostAnswer}
use Rattle.wasm_sem.specs.declared.Script.{Script}
use Rattle.wasm_sem.specs.Rules.{next_answer}
use Rattle.wasm_sem.specs.Execution.{Store, IsWriteInRange, instance, run_of, TraceItem, entry, host_call, event, hook_call, items}
use Rattle.instrument.specs.Same.{env_of}

-- what a host function finds when it is called: which import it is, its arguments, the memory and the globals
pub record Sight : Type 0 where
  pub func : ℕ
  pub args : List Value
  pub memory : List ℕ
  pub globals : List Value

abbrev pub sight : Store → (func : ℕ) → (args : List Value) → Sight
sight st f args = record { func = f; args = args; memory = st.memory; globals = st.globals }

-- what the host finds in a step with these items, from this store
abbrev pub sights_in : Store → List TraceItem → List Sight
sights_in st [] = []
sights_in st (host_call f args results writes ∷ is) = sight st f args ∷ sights_in st is
sights_in st (entry c ∷ is) = sights_in st is
sights_in st (event e ∷ is) = sights_in st is
sights_in st (hook_call h ∷ is) = sights_in st is

abbrev pub seen_at : Module → Script → ℕ → List Sight
seen_at m s n = sights_in (env_of m s n).store (items (instance m s) (run_of m s n))

-- all that the host has found in the first n steps, in order
abbrev pub seen : Module → Script → ℕ → List Sight
seen m s zero = []
seen m s (suc n) = seen m s n ++ seen_at m s n

-- a host that answers by all that it has found so far, of which the present call is the last
abbrev pub Host : Type 0
Host = List Sight → HostAnswer

-- it writes bytes, at addresses of 32 bits
abbrev pub WritesInRange : Host → Type 0
WritesInRange h = (found : List Sight) → All IsWriteInRange (h found).writes

-- in the first n steps, each call of the host has the answer that this host gives
abbrev pub Plays : Host → Module → Script → (n : ℕ) → Type 0
Plays h m s n = (k : ℕ) → k < n → seen_at m s k ≢ [] → next_answer (instance m s) (env_of m s k) ≡ h (seen m s (suc k))

-- a script with these answers in place of its own
abbrev pub with_answers : List HostAnswer → Script → Script
with_answers answers s = record s { hosts = answers }
