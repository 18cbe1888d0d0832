-- What a run keeps behind a call of a hook, and behind one that the script answers.
use Rattle.std.proofs.Common.{◌≡◌, ℕ, suc, ◌+◌, ◌<◌, ◌≤◌, ℤ, List, [], ◌∷◌, length, drop, Option, Some, None, All, refl, sym, ap, ap₂, subst, ◌∙◌, arith, slice_get}
use Rattle.std.proofs.lemmas.Option.{slice_get_within, get_or_from_slice_get}
use Rattle.std.specs.Prelude.{unwrap_or}
use Rattle.wasm_sem.specs.Types.{ValType, Value, FuncType, Module}
use Rattle.module_ast.specs.Structure.{Tree}
use Rattle.run_store.specs.Held.{Held}
use Rattle.wasm_sem.specs.declared.HostAnswer.{HostAnswer}
use Rattle.wasm_sem.specs.declared.Script.{Script}
use Rattle.wasm_sem.specs.Execution.{hosts_in, Callee, IsWriteInRange, host, hook, instance, Env, run_of, Store, zeros, values_of, no_answer, answer_at, writes_done, written_memory, answered_store}
use Rattle.wasm_run.specs.Answering.{returned_with}
use Rattle.wasm_run.specs.Beside.{HasMadeHosts}
use Rattle.run_stack.specs.Flat.{Flat}
use Rattle.wasm_run.specs.Moves.{RunsOn}
use Rattle.run_stack.specs.Slots.{index_count, behind_call}
use Rattle.wasm_run.specs.Reaching.{Reaches}
use Rattle.wasm_run.specs.Running.{IsRunning}
use Rattle.run_stack.specs.Standing.{KeepsStore}
use Rattle.wasm_run.proofs.Invoking.{Invoker, invoker, index_fits, some_label, enough}
use Rattle.wasm_run.proofs.Answering.{values_none, results_fit, answered_at, answered_on, answered_running}

-- as many values as types
pub values_count : (ts : List ValType) (zs : List ℤ) → length (values_of ts zs) ≡ length ts
values_count [] zs = refl
values_count (t ∷ ts) [] = ap suc (values_count ts [])
values_count (t ∷ ts) (z ∷ zs) = ap suc (values_count ts zs)

same_held : (a b : Held) → a.bytes ≡ b.bytes → a.max ≡ b.max → a ≡ b
same_held a b e f = ap₂ (λ (bytes : List ℕ) (max : ℕ). record { bytes = bytes; max = max }) e f

-- the store that an answer leaves
pub written_store : (m : Module) (s : Script) (st : Store) (memory : Held) (globals : List Value) → KeepsStore (instance m s) st memory globals
    → (after : Held) (a given : HostAnswer) → a ≡ given → after.bytes ≡ written_memory (writes_done memory.bytes a.writes) memory.bytes → after.max ≡ memory.max
    → KeepsStore (instance m s) (answered_store given st) after globals
written_store m s st memory globals store after a given same bytes max =
    let written = bytes ∙ ap (λ (h : Held). written_memory (writes_done h.bytes a.writes) h.bytes) store.memory_is
    ∙ ap (λ (a : HostAnswer). written_memory (writes_done st.memory a.writes) st.memory) same in
    record {
      memory_is = same_held after (record { bytes = written_memory (writes_done st.memory given.writes) st.memory; max = (instance m s).limit }) written (max ∙ ap (λ (h : Held). h.max) store.memory_is);
      globals_are = store.globals_are;
    }

-- the writes of an answer of the script are in range
pub answer_in_range : (answers : List HostAnswer) (n : ℕ) → All (λ (a : HostAnswer). All IsWriteInRange a.writes) answers → All IsWriteInRange (answer_at answers n).writes
answer_in_range answers n h = go (slice_get answers n) refl
  where
    go : (o : Option HostAnswer) → slice_get answers n ≡ o → All IsWriteInRange (unwrap_or o no_answer).writes
    go None e = λ k d within. absurd (omega (arith, within))
    go (Some a) e = subst (λ (b : HostAnswer). All IsWriteInRange b.writes) (get_or_from_slice_get answers n a a e) (h n a (slice_get_within answers n a e))

module _ (m : Module) (s : Script) (made : ℕ) (f : Flat) (memory : Held) (globals : List Value) (hosts : ℕ) (running : IsRunning m s made f memory globals) (counts : HasMadeHosts m s made hosts)
    (slot : Option ℕ) (func : ℕ) (k : Tree) where
  -- the number of the slot is there, and a label
  pub called_index : (called : Callee) → Reaches (instance m s) (run_of m s made) slot func k called → index_count slot ≤ length f.values
  called_index called calls =
      index_fits m s made f memory globals running.linked slot func k called (invoker m s made f memory globals running.linked slot func k called running.keeps calls)

  pub called_label : (called : Callee) → Reaches (instance m s) (run_of m s made) slot func k called → 0 < length f.spots
  called_label called calls =
      some_label m s made f memory globals running.linked slot func k called (invoker m s made f memory globals running.linked slot func k called running.keeps calls)

  module _ (ty : FuncType) (t : Flat) (moves : t ≡ behind_call slot k f) where
    -- ---- a hook

    module _ (calls : Reaches (instance m s) (run_of m s made) slot func k (hook ty)) where
      abbrev x : Invoker m s made f memory globals running.linked slot func k (hook ty)
      x = invoker m s made f memory globals running.linked slot func k (hook ty) running.keeps calls

      pub hook_enough : length ty.params ≤ length t.values
      hook_enough = enough m s made f memory globals running.linked slot func k (hook ty) x t moves

      pub hook_fits : length (drop (length ty.params) t.values) + length ty.results ≤ t.value_room
      hook_fits =
          let h = results_fit m s made f memory globals running.linked slot func k (hook ty) x t moves x.env (zeros ty.results) refl in
          omega (arith, h, ap length (values_none ty.results), values_count ty.results [])

      pub hook_on : RunsOn (run_of m s made) (run_of m s (made + 1))
      hook_on = answered_on m s made f memory globals running.linked slot func k (hook ty) x t moves x.env (zeros ty.results) refl (record { phase = refl; started = refl; answers = refl })

      pub hook_called : (u : Flat) → u ≡ returned_with ty (values_of ty.results []) t → IsRunning m s (made + 1) u memory globals × HasMadeHosts m s (made + 1) hosts
      hook_called u is =
          let few = counts.few in (
            answered_running m s made f memory globals running.linked slot func k (hook ty) x t moves x.env (zeros ty.results) refl u memory (is ∙ ap (λ vs. returned_with ty vs t) (values_none ty.results)) x.store,
            record {
              counted = ap hosts_in (answered_at m s made f memory globals running.linked slot func k (hook ty) x t moves x.env (zeros ty.results) refl) ∙ sym (ap hosts_in x.at) ∙ counts.counted;
              few = omega (arith, few);
            },
          )

    -- ---- a host function

    module _ (calls : Reaches (instance m s) (run_of m s made) slot func k (host ty)) where
      abbrev y : Invoker m s made f memory globals running.linked slot func k (host ty)
      y = invoker m s made f memory globals running.linked slot func k (host ty) running.keeps calls

      -- the script's answer
      abbrev given : HostAnswer
      given = answer_at s.hosts y.env.store.hosts

      abbrev env_behind : Env
      env_behind = record y.env { store = answered_store given y.env.store }

      count_is : y.env.store.hosts ≡ hosts
      count_is = sym (ap hosts_in y.at) ∙ counts.counted

      pub host_enough : length ty.params ≤ length t.values
      host_enough = enough m s made f memory globals running.linked slot func k (host ty) y t moves

      pub host_fits : length (drop (length ty.params) t.values) + length ty.results ≤ t.value_room
      host_fits =
          let h = results_fit m s made f memory globals running.linked slot func k (host ty) y t moves env_behind (values_of ty.results given.results) refl in
          omega (arith, h, values_count ty.results given.results)

      pub host_on : RunsOn (run_of m s made) (run_of m s (made + 1))
      host_on = answered_on m s made f memory globals running.linked slot func k (host ty) y t moves env_behind (values_of ty.results given.results) refl (record { phase = refl; started = refl; answers = refl })

      pub host_called : (u : Flat) (after : Held) (a : HostAnswer) → a ≡ answer_at s.hosts hosts → u ≡ returned_with ty (values_of ty.results a.results) t
          → after.bytes ≡ written_memory (writes_done memory.bytes a.writes) memory.bytes → after.max ≡ memory.max
          → IsRunning m s (made + 1) u after globals × HasMadeHosts m s (made + 1) (hosts + 1)
      host_called u after a a_is is bytes max =
          let few = counts.few in
          let same : a ≡ given = a_is ∙ ap (answer_at s.hosts) (sym count_is) in
          let counted = ap hosts_in (answered_at m s made f memory globals running.linked slot func k (host ty) y t moves env_behind (values_of ty.results given.results) refl) in (
            answered_running m s made f memory globals running.linked slot func k (host ty) y t moves env_behind (values_of ty.results given.results) refl u after
                (is ∙ ap (λ (a : HostAnswer). returned_with ty (values_of ty.results a.results) t) same)
                (written_store m s y.env.store memory globals y.store after a given same bytes max),
            record { counted = counted ∙ omega (arith, count_is); few = omega (arith, few) },
          )
