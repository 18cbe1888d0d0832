-- A module and its output that run side by side: one is followed by a shadow of the other.
use Rattle.std.proofs.Common.{◌≡◌, ◌∙◌, ℕ, ◌^◌, ◌<◌, ◌≤◌, List, [], ◌∷◌, length, refl, sym, ap, ap₂, subst, arith, length-append}
use Rattle.wasm_sem.specs.Types.{Import, Item, Module}
use Rattle.module_ast.specs.declared.module.Item.TheVariants.{Func, Table, Memory, Global}
use Rattle.module_ast.specs.declared.module.Which.TheVariants.{Functions}
use Rattle.module_ast.specs.Validation.{wide, longest_file}
use Rattle.module_ast.specs.Structure.{imported_funcs}
use Rattle.wasm_sem.specs.declared.Script.{Script}
use Rattle.wasm_sem.specs.Execution.{IsFree, IsScriptInRange, Links, most_slots}
use Rattle.static_info.specs.declared.Info.{Info}
use Rattle.static_info.specs.Info.{info_of}
use Rattle.shadow_replay.specs.Opened.{opening_replay}
use Rattle.shadow_replay.specs.Replayed.{Replay}
use Rattle.shadow_replay.specs.Taint.{Watch}
use Rattle.instrument.specs.Made.{IsMade}
use Rattle.instrument.specs.Output.{output}
use Rattle.instrument.proofs.OutputSame.{same}
use Rattle.app_load.specs.Files.{IsFit}
use Rattle.shadow_replay.specs.Items.{AreFitFor, TakesAll}
use Rattle.app_runs.specs.Reporting.{items_told}
use Rattle.app_runs.specs.Watching.{import_names}
use Rattle.wasabi_app.specs.Making.{output_length}
use Rattle.wasabi_app.specs.Tainting.{warnings_in, warnings_told}
use Rattle.wasabi_app.specs.Trying.{IsTriable}
use Rattle.wasabi_app.specs.Warning.{ArePaired, IsFollowable}
use Rattle.wasabi_app.specs.Modes.Trial.{all_hooks}
use Rattle.wasabi_app.proofs.Tagged.{told_fit}
use Rattle.wasabi_app.proofs.TrialPairs.{output_read, output_belongs}

-- ---- few imports

first_few : (i : Import) (is : List Import) (item : Item) → i.item ≡ item → length (import_names is) ≡ length (imported_funcs is)
    → length (import_names (i ∷ is)) ≡ length (imported_funcs (i ∷ is))
first_few i is (Func ty) e rest = rw e (omega (arith, rest))
first_few i is (Table r) e rest = rw e rest
first_few i is (Memory r) e rest = rw e rest
first_few i is (Global g) e rest = rw e rest

names_counted : (is : List Import) → length (import_names is) ≡ length (imported_funcs is)
names_counted [] = omega arith
names_counted (i ∷ is) = first_few i is i.item refl (names_counted is)

pub names_few : (m : Module) → IsFollowable m → length (import_names m.imports) < 2 ^ 32
names_few m is = omega (arith, names_counted m.imports, length-append (imported_funcs m.imports) m.funcs, (is.limits Functions).0)

-- ---- the pair

module _ (m : Module) (is : IsFollowable m) (free : IsFree m) where
  triable : IsTriable m
  triable = record { valid = is.valid; limits = is.limits; fits = is.fits; short = is.short; free = free }

  -- what was made of a module is read as its output
  pub paired : (bytes : List ℕ) (info : Info) (o : Module) → IsMade m all_hooks bytes info → output_length m all_hooks ≤ longest_file → IsFit wide bytes o
      → ArePaired m o info
  paired bytes info o made few fit = record {
    followable = is;
    free = free;
    is = output_read m triable bytes info o made few fit;
    information = made.information;
    formed = made.form;
    belongs = output_belongs m triable bytes info o made few fit;
  }

module _ (m o : Module) (info : Info) (pair : ArePaired m o info) (s : Script) (range : IsScriptInRange s) (linked : Links o s) where
  -- the module links where its output does
  pub pair_links : Links m s
  pair_links =
      let is = pair.followable in
      let both = (same m all_hooks is.valid is.limits (omega (arith, is.short)) is.fits pair.free).links most_slots s in
      sym both ∙ subst (λ x. Links x s) pair.is linked

  same_items : items_told info o s s.steps ≡ items_told (info_of m all_hooks) (output m all_hooks) s s.steps
  same_items = ap (λ i. items_told i o s s.steps) pair.information ∙ ap (λ x. items_told (info_of m all_hooks) x s s.steps) pair.is

  module _ (w : Watch) where
    -- what the output tells is fit for a shadow of the module
    pub pair_fit : AreFitFor (opening_replay m s w) (items_told info o s s.steps)
    pair_fit = subst (AreFitFor (opening_replay m s w)) (sym same_items) (told_fit m pair.followable pair.free s range pair_links w s.steps)

    -- and a shadow that took it warns so
    pub pair_warns : (r : Replay) → TakesAll (items_told info o s s.steps) (opening_replay m s w) r → r.shadow.marks.taint.warnings ≡ warnings_told m w s
    pair_warns r taken =
        sym (ap warnings_in (subst (λ l. TakesAll l (opening_replay m s w) r) same_items taken).effect)

    -- so it is from its opening
    module _ (sources sinks : List ℕ) (first : Replay) (t : Script) (sources_are : sources ≡ w.sources) (sinks_are : sinks ≡ w.sinks)
        (opened : first ≡ opening_replay m s (record { sources = sources; sinks = sinks })) (script_is : t ≡ s) where
      opening_is : first ≡ opening_replay m s w
      opening_is = opened ∙ ap₂ (λ (a b : List ℕ). opening_replay m s (record { sources = a; sinks = b })) sources_are sinks_are

      items_are : items_told info o t t.steps ≡ items_told info o s s.steps
      items_are = ap (λ (x : Script). items_told info o x x.steps) script_is

      pub opened_fit : AreFitFor first (items_told info o t t.steps)
      opened_fit =
          subst (λ (r : Replay). AreFitFor r (items_told info o t t.steps)) (sym opening_is)
          (subst (AreFitFor (opening_replay m s w)) (sym items_are) pair_fit)

      pub opened_warns : (r : Replay) → TakesAll (items_told info o t t.steps) first r → r.shadow.marks.taint.warnings ≡ warnings_told m w s
      opened_warns r taken =
          pair_warns r (subst (λ (x : Replay). TakesAll (items_told info o s s.steps) x r) opening_is (subst (λ l. TakesAll l first r) items_are taken))
