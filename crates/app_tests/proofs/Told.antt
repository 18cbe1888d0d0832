-- What the output of the module that stores 2 tells is fit for a shadow of the one that stores 1.
use Rattle.std.proofs.Common.{◌≡◌, ℕ, ℤ, pos, negsuc, inl, inr, List, [], ◌∷◌, ◌++◌, Option, Some, None, IsSome, true, refl, sym, ap, subst, ◌∙◌}
use Rattle.wasm_num.specs.declared.BlockKind.TheVariants as blocks
use Rattle.wasm_num.specs.declared.Value.TheVariants.{I32}
use Rattle.wasm_sem.specs.Types.{Loc, Module, MemArg}
use Rattle.module_ast.specs.declared.ops.StoreOp.TheVariants.{I32Store8}
use Rattle.module_ast.specs.Places.{function_scope, Opcode, acts, closes, Place, at, place_at}
use Rattle.module_ast.specs.Structure.{Tree, Plain, done, plain, store, i32_const}
use Rattle.hook_select.specs.declared.Event.TheVariants as events
use Rattle.wasm_sem.specs.declared.Script.{Script}
use Rattle.wasm_sem.specs.Execution.{TraceItem, entry, event}
use Rattle.wasm_run.specs.Running.{Run}
use Rattle.run_session.specs.Sessions.{opened_run}
use Rattle.static_info.specs.declared.Info.{Info}
use Rattle.shadow_replay.specs.Fit.{ActsAt, EndsAt, StandsAt}
use Rattle.shadow_replay.specs.Events.{AreShown, IsItemFit, effect, effects}
use Rattle.shadow_replay.specs.Opened.{opening_replay}
use Rattle.shadow_replay.specs.Replayed.{Replay}
use Rattle.shadow_replay.specs.Shadow.{Shadow}
use Rattle.shadow_replay.specs.Taint.{Watch}
use Rattle.shadow_replay.proofs.FitSteps.{one_shown}
use Rattle.shadow_replay.proofs.Shadows.{effects_append}
use Rattle.shadow_replay.specs.Items.{AreFitFor}
use Rattle.app_runs.specs.Reporting.{items_told}
use Rattle.app_tests.specs.Storing.{called_once, hooked_two, info_two, storing_one}

-- ---- what finds a way to the end was fit

none_left : (m : Module) (limit : ℕ) (is : List TraceItem) → IsSome (effects m limit None is) → ⊥
none_left m limit [] some = cc
none_left m limit (i ∷ is) some = none_left m limit is some

was_some : (m : Module) (limit : ℕ) (o : Option Shadow) (is : List TraceItem) → IsSome (effects m limit o is) → IsSome o
was_some m limit None is some = absurd (none_left m limit is some)
was_some m limit (Some sh) is some = refl

module _ (m : Module) (limit : ℕ) (first : Shadow) where
  there : (before behind : List TraceItem) (i : TraceItem) → AreShown m (before ++ i ∷ behind) → (o : Option Shadow) → effects m limit (Some first) before ≡ o
      → IsSome (effects m limit o (i ∷ behind)) → (sh : Shadow) × (effects m limit (Some first) before ≡ Some sh) × IsItemFit m limit sh i
  there before behind i shown None is some = absurd (none_left m limit (i ∷ behind) some)
  there before behind i shown (Some sh) is some =
      (sh, is, record { place = one_shown m before behind i shown; effect = was_some m limit (effect m limit sh i) behind some })

  all_there : (is : List TraceItem) → AreShown m is → IsSome (effects m limit (Some first) is)
      → (before behind : List TraceItem) (i : TraceItem) → is ≡ before ++ i ∷ behind
      → (sh : Shadow) × (effects m limit (Some first) before ≡ Some sh) × IsItemFit m limit sh i
  all_there is shown some before behind i split =
      there before behind i (subst (AreShown m) split shown) (effects m limit (Some first) before) refl
      (subst IsSome (ap (effects m limit (Some first)) split ∙ effects_append m limit (Some first) before (i ∷ behind)) some)

-- ---- the items

abbrev place : ℤ → Loc
place p = record { func = 0; instr = p }

abbrev told : List TraceItem
told =
    entry (record { func = 0; args = [] }) ∷ event (events.Begin (place (negsuc 0)) blocks.Function) ∷ event (events.Const (place (pos 0)) (I32 0))
    ∷ event (events.Const (place (pos 1)) (I32 2)) ∷ event (events.Store (place (pos 2)) I32Store8 0 0 (I32 2)) ∷ event (events.Return (place (pos 3)) [])
    ∷ event (events.End (place (pos 3)) blocks.Function (negsuc 0)) ∷ []

is_told : items_told info_two hooked_two called_once 60 ≡ told
is_told = refl

abbrev unaligned : MemArg
unaligned = record { align = 0; offset = 0 }

abbrev code : Tree
code = plain (i32_const (pos 0)) (plain (i32_const (pos 1)) (plain (store I32Store8 unaligned) done))

abbrev acting : ℕ → Opcode → Place
acting p o = at p true o (function_scope code ∷ [])

stands : (p : ℕ) (there : Place) → place_at code p ≡ Some there → StandsAt storing_one (place (pos p)) there
stands p there is = record { type = record { params = []; results = [] }; locals = []; code = code; found = refl; position = p; is = refl; at = is }

acts_there : (p : ℕ) (i : Plain) → place_at code p ≡ Some (acting p (acts i)) → ActsAt storing_one (place (pos p)) i
acts_there p i is = (acting p (acts i), stands p (acting p (acts i)) is, refl)

ends : EndsAt storing_one (place (pos 3)) blocks.Function (negsuc 0)
ends = (function_scope code, at 3 true (closes (function_scope code)) [], stands 3 (at 3 true (closes (function_scope code)) []) refl, inl refl, refl, refl)

-- there are such instructions in the module that stores 1
shown : AreShown storing_one told
shown = (
  tt,
  (
    (record { params = []; results = [] }, [], code, refl, refl),
    (
      (pos 0, acts_there 0 (i32_const (pos 0)) refl),
      (
        (pos 1, acts_there 1 (i32_const (pos 1)) refl),
        (
          (unaligned, acts_there 2 (store I32Store8 unaligned) refl, refl),
          (inr ends, (ends, tt)),
        ),
      ),
    ),
  ),
)

module _ (w : Watch) where
  abbrev opening : Replay
  opening = opening_replay storing_one called_once w

  -- and their effects find what they name
  have_effects : IsSome (effects opening.module opening.limit (Some opening.shadow.state) told)
  have_effects = refl

  fit_items : AreFitFor opening told
  fit_items = all_there opening.module opening.limit opening.shadow.state told shown have_effects

  -- so it is for the machines at hand
  pub told_fit : (own : Module) (info : Info) (s : Script) (r : Run) (sh : Replay) → own ≡ storing_one → info ≡ info_two → s ≡ called_once
      → r ≡ opened_run hooked_two called_once → sh ≡ opening_replay own s w → AreFitFor sh (items_told info r.module r.script r.script.steps)
  told_fit own info s r sh own_is info_is script_is opened shadow_is =
      let items : items_told info r.module r.script r.script.steps ≡ told =
      ap (λ (x : Run). items_told info x.module x.script x.script.steps) opened
      ∙ ap (λ (i : Info). items_told i hooked_two called_once 60) info_is ∙ is_told in
      let shadow : sh ≡ opening =
      shadow_is ∙ ap (λ (m : Module). opening_replay m s w) own_is ∙ ap (λ (x : Script). opening_replay storing_one x w) script_is in
      subst (AreFitFor sh) (sym items) (subst (λ (x : Replay). AreFitFor x told) (sym shadow) fit_items)
