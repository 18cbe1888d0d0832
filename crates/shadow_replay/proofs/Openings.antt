-- The state of a shadow that is new is the store of the run as it opens, with no mark.
use Rattle.std.proofs.Common.{◌≡◌, ℕ, ◌*◌, List, [], length, replicate, None, Bool, false, sym, ap, ap₂, ◌∙◌, take, arith, ◌++◌, ◌-◌}
use Rattle.std.proofs.lemmas.List.{take_all}
use Rattle.wasm_sem.specs.Types.{Value, Module}
use Rattle.module_ast.specs.Memory.{page_size}
use Rattle.module_ast.specs.Structure.{memories_of}
use Rattle.wasm_sem.specs.declared.Script.{Script}
use Rattle.wasm_sem.specs.Execution.{least_size, page_limit, with_segments, opening_globals, opening_store}
use Rattle.shadow_replay.specs.declared.Warning.{Warning}
use Rattle.shadow_replay.specs.declared.marked.Marked.{Marked}
use Rattle.shadow_replay.specs.Laws.{shadow_of, tainted}
use Rattle.shadow_replay.specs.Opened.{opening_replay, replay_with}
use Rattle.shadow_replay.specs.Replayed.{Replay, shadow_seen, marked_values}
use Rattle.shadow_replay.specs.Stacked.{Standing}
use Rattle.shadow_replay.specs.Tagged.{opening_taint}
use Rattle.shadow_replay.specs.Taint.{Watch, each_marked}
use Rattle.shadow_replay.proofs.ShadowHosts.{marked_is, marked_so, each_is}

pub no_marks : {A : Type 0} (xs : List A) → replicate (length xs) false ≡ each_marked false xs
no_marks xs = sym (each_is false xs)

module _ (m n : Module) (s : Script) (w : Watch) (same : n ≡ m) where
  -- of a module that is the same
  abbrev opening_of : Module → Replay
  opening_of n = record {
    «module» = m;
    limit = page_limit s.pages (memories_of n);
    watch = w;
    shadow = tainted (opening_taint (opening_store n s)) (shadow_of (opening_store n s) []);
  }

  module _ (bytes : List ℕ) (limit : ℕ) (vs : List Value) (gs : List Marked)
      (globals_are : vs ≡ opening_globals n s)
      (bytes_are : bytes ≡ with_segments vs n.segments (replicate (least_size (memories_of n) * page_size) 0))
      (limit_is : limit ≡ page_limit s.pages (memories_of n))
      (unmarked : gs ≡ marked_values false vs) where
    memory_is : bytes ≡ (opening_store n s).memory
    memory_is = bytes_are ∙ ap (λ g. with_segments g n.segments (replicate (least_size (memories_of n) * page_size) 0)) globals_are

    pub opens : replay_with m limit w bytes gs ≡ opening_replay m s w
    opens =
        let g = opening_globals n s in
        let cap = page_limit s.pages (memories_of n) in
        let memory = (opening_store n s).memory in
        ap (λ b. replay_with m limit w b gs) memory_is
        ∙ ap (λ l. replay_with m l w memory gs) limit_is
        ∙ ap (λ ms. replay_with m cap w memory ms) (unmarked ∙ ap (marked_values false) globals_are)
        ∙ ap₂ (λ (vs : List Value) (ks : List Bool). (let r : Replay = record (opening_of n) {
          shadow = record {
            state = record (shadow_of (opening_store n s) []) { globals = vs };
            marks = record { taint = record (opening_taint (opening_store n s)) { globals = ks }; prepared = None; held = []; given = [] };
          };
        } in r)) (marked_is false g) (marked_so false g)
        ∙ ap opening_of same

-- ---- what is put together is that

pub starts : (m : Module) (limit : ℕ) (bytes : List ℕ) (gs : List Marked) (ks : List Bool) (st : Standing) (ss ts ss1 ts1 : List ℕ) (ws : List Warning)
    → ks ≡ replicate (length bytes) false → st ≡ record { frames = []; operands = []; locals = [] } → ss1 ≡ ss → ts1 ≡ ts → ws ≡ []
    → (let r : Replay = record { «module» = m; limit = limit; watch = record { sources = ss1; sinks = ts1 }; shadow = shadow_seen bytes ks gs st None None None ws } in r)
    ≡ replay_with m limit (record { sources = ss; sinks = ts }) bytes gs
starts m limit bytes gs ks st ss ts ss1 ts1 ws k s a b w =
    let seen : List Bool → Standing → List ℕ → List ℕ → List Warning → Replay =
    λ ks st ss ts ws. record { «module» = m; limit = limit; watch = record { sources = ss; sinks = ts }; shadow = shadow_seen bytes ks gs st None None None ws } in
    let none : Standing = record { frames = []; operands = []; locals = [] } in
    ap (λ ks. seen ks st ss1 ts1 ws) (k ∙ no_marks bytes)
    ∙ ap (λ st. seen (each_marked false bytes) st ss1 ts1 ws) s
    ∙ ap (λ ss. seen (each_marked false bytes) none ss ts1 ws) a
    ∙ ap (λ ts. seen (each_marked false bytes) none ss ts ws) b
    ∙ ap (λ ws. seen (each_marked false bytes) none ss ts ws) w

-- an empty list that is made longer has no mark
pub fresh : (bytes : List ℕ) (n k : ℕ) (xs ks : List Bool) → ks ≡ take n xs ++ replicate (n - k) false → xs ≡ [] → k ≡ 0 → n ≡ length bytes → ks ≡ replicate (length bytes) false
fresh bytes n k xs ks h none zero long =
    h ∙ ap (λ xs. take n xs ++ replicate (n - k) false) none ∙ ap (λ xs. xs ++ replicate (n - k) false) (take_all n [] (omega arith)) ∙ ap (λ j. replicate j false) (omega (arith, zero, long))
