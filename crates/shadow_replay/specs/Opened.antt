-- The state before the first item of a run.
use Rattle.std.specs.Prelude.{ℕ, List, [], None, false}
use Rattle.wasm_sem.specs.Types.{Module}
use Rattle.module_ast.specs.Structure.{memories_of}
use Rattle.wasm_sem.specs.declared.Script.{Script}
use Rattle.wasm_sem.specs.Execution.{page_limit, opening_store}
use Rattle.shadow_replay.specs.declared.marked.Marked.{Marked}
use Rattle.shadow_replay.specs.Laws.{shadow_of, tainted}
use Rattle.shadow_replay.specs.Replayed.{Replay, shadow_seen}
use Rattle.shadow_replay.specs.Tagged.{opening_taint}
use Rattle.shadow_replay.specs.Taint.{Watch, each_marked}

-- the store of the run at its opening, without marks and frames
abbrev pub opening_replay : Module → Script → Watch → Replay
opening_replay m s w = record {
  «module» = m;
  limit = page_limit s.pages (memories_of m);
  watch = w;
  shadow = tainted (opening_taint (opening_store m s)) (shadow_of (opening_store m s) []);
}

-- a state with these bytes, none of which is marked, these globals, and no frame
abbrev pub replay_with : Module → (limit : ℕ) → Watch → (bytes : List ℕ) → (globals : List Marked) → Replay
replay_with m limit w bytes globals = record {
  «module» = m;
  limit = limit;
  watch = w;
  shadow = shadow_seen bytes (each_marked false bytes) globals (record { frames = []; operands = []; locals = [] }) None None None [];
}
