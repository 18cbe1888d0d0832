-- The instrumented module does what the original does, and its hook calls, read with some information, are the original's
-- selected events.
use Rattle.std.specs.Prelude.{◌≡◌, ◌⊎◌, ℕ, suc, ◌+◌, ◌*◌, ◌≤◌, List, ◌++◌, map, Option, option_map, All, IsTrue, is_some}
use Rattle.wasm_sem.specs.Types.{Module, Selection, Event}
use Rattle.hook_select.specs.Events.{group_of}
use Rattle.wasm_sem.specs.declared.Script.{Script}
use Rattle.wasm_sem.specs.Execution.{Store, HasWritesInRange, link_within, CanLink, instance, Configuration, configuration, Env, over, run_of, TraceItem, events_in, host_calls, items, trace_of, selected_items}
use Rattle.index_remap.specs.declared.Remap.{Remap}
use Rattle.index_remap.specs.Remap.{map_index}
use Rattle.static_info.specs.declared.Info.{Info}
use Rattle.static_info.specs.Info.{info_of}
use Rattle.static_info.specs.Items.{read}
use Rattle.static_info.specs.Read.{info_remap}
use Rattle.rewrite.specs.Cost.{cost}

abbrev pub map_slots : Remap → List (Option ℕ) → List (Option ℕ)
map_slots r slots = map (option_map (map_index r)) slots

-- the store of the output if the store of the original is this one
abbrev pub map_store : Remap → Store → Store
map_store r st = record st { slots = map_slots r st.slots }

-- a moment of the output, with its trace, matches a moment of the original, with its own
pub record Match (info : Info) (hooks : Selection) (r : Remap) (a b : Env) (trace_a trace_b : List TraceItem) : Type 0 where
  pub phase : b.phase ≡ a.phase
  pub started : b.started ≡ a.started
  pub answers : b.answers ≡ a.answers
  pub store : b.store ≡ map_store r a.store
  pub reads : read info b.store.slots trace_b ≡ selected_items hooks trace_a

abbrev pub IsPrefix : {A : Type 0} → List A → List A → Type 0
IsPrefix {A} xs ys = (rest : List A) × (xs ++ rest ≡ ys)

abbrev pub env_in : Configuration → Env
env_in (configuration e frames) = e

abbrev pub env_of : Module → Script → ℕ → Env
env_of m s n = env_in (run_of m s n)

abbrev pub Matches : Info → Module → Selection → Module → Script → (n k : ℕ) → Type 0
Matches info m hooks o s n k = Match info hooks (info_remap info) (env_of m s n) (env_of o s k) (trace_of m s n) (trace_of o s k)

abbrev pub IsOver : Module → Script → ℕ → Type 0
IsOver m s n = (env_of m s n).phase ≡ over

-- what the output has told after k steps, read with the information
abbrev pub told_so_far : Info → Module → Script → ℕ → List TraceItem
told_so_far info o s k = read info (env_of o s k).store.slots (trace_of o s k)

-- what the original has shown of the selected events after n steps
abbrev pub shown_so_far : Module → Selection → Script → ℕ → List TraceItem
shown_so_far m hooks s n = selected_items hooks (trace_of m s n)

-- ---- what hosts and hooks see

-- what the original shows of the selected events at its step n
abbrev pub shown_at : Module → Selection → Script → ℕ → List TraceItem
shown_at m hooks s n = selected_items hooks (items (instance m s) (run_of m s n))

-- what the output tells at its step k, read with the information
abbrev pub told_at : Info → Module → Script → ℕ → List TraceItem
told_at info o s k = read info (env_of o s k).store.slots (items (instance o s) (run_of o s k))

-- Before its step k the output has the store that the original has before its step n: the same memory, the same globals, as
-- many host calls made, and in the slots of the table the functions at their indices in the output.
abbrev pub HaveSameStore : Info → Module → Module → Script → (n k : ℕ) → Type 0
HaveSameStore info m o s n k = (env_of o s k).store ≡ map_store (info_remap info) (env_of m s n).store

-- Step k of the output is a part of step n of the original. Before it the output has told what the original shows before
-- step n, and `front` of what step n shows. At it the output goes on with that, and tells `back` of it later. The store is
-- the one before step n or the one behind it. If the host is called, it is the one before it.
pub record IsPartOf (info : Info) (m : Module) (hooks : Selection) (o : Module) (s : Script) (n k : ℕ) : Type 0 where
  pub front : List TraceItem
  pub back : List TraceItem
  pub before : told_so_far info o s k ≡ shown_so_far m hooks s n ++ front
  pub now : front ++ (told_at info o s k ++ back) ≡ shown_at m hooks s n
  pub store : HaveSameStore info m o s n k ⊎ HaveSameStore info m o s (suc n) k
  pub host : 1 ≤ host_calls (told_at info o s k) → HaveSameStore info m o s n k

-- ---- whole runs

-- Each moment of the original is matched within a bounded number of steps. If the output is over, so is the original. At no
-- moment has the output told anything that the original does not show. Each step of the output is a part of a step of the
-- original: so a host function that is called finds the memory and the globals that it finds in the original, and a hook
-- those before or behind the step that shows what it tells.
pub record SameRunsBy (info : Info) (m : Module) (hooks : Selection) (o : Module) (s : Script) : Type 0 where
  pub each : (n : ℕ) → (k : ℕ) × (n ≤ k) × (k ≤ cost m * (n + 1)) × Matches info m hooks o s n k
  pub ends : (k : ℕ) → IsOver o s k → IsOver m s k × Matches info m hooks o s k k
  pub prefix : (k : ℕ) → IsPrefix (told_so_far info o s k) (shown_so_far m hooks s k)
  pub parts : (k : ℕ) → (n : ℕ) × (n ≤ k) × IsPartOf info m hooks o s n k

-- Both link with the same scripts, however many slots a table may have. They run alike under each of them, whatever its
-- pages, depth and steps, if what host functions write are bytes at addresses of 32 bits.
pub record SameBy (info : Info) (m : Module) (hooks : Selection) (o : Module) : Type 0 where
  pub links : (slots : ℕ) (s : Script) → link_within slots o s ≡ link_within slots m s
  pub runs : (s : Script) → HasWritesInRange s → CanLink m s → SameRunsBy info m hooks o s

-- with the information on the original
abbrev pub SameRuns : Module → Selection → Module → Script → Type 0
SameRuns m hooks o s = SameRunsBy (info_of m hooks) m hooks o s

abbrev pub Same : Module → Selection → Module → Type 0
Same m hooks o = SameBy (info_of m hooks) m hooks o

-- what reports are made of: the events that the output has told begin those of the original, and are all of them if it is over
pub record ReportsCompose (m : Module) (hooks : Selection) (o : Module) (s : Script) (k : ℕ) : Type 0 where
  pub all : IsOver o s k → events_in (told_so_far (info_of m hooks) o s k) ≡ events_in (shown_so_far m hooks s k)
  pub some : IsPrefix (events_in (told_so_far (info_of m hooks) o s k)) (events_in (shown_so_far m hooks s k))
  pub no_stray : All (λ (e : Event). IsTrue (is_some (group_of e))) (events_in (told_so_far (info_of m hooks) o s k))
