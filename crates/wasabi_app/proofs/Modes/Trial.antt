-- What comes of the plan of the mode `trial`.
use Rattle.app_load.proofs.Going.{made_here}
use Rattle.std.proofs.Common.{◌≡◌, ℕ, ◌≤◌, inr, List, length, refl, sym, ap, subst, nat_le, Bool, true, false, IfSome, Some, Result, Ok, Err}
use Rattle.module_ast.specs.Validation.Limits.{longest_file}
use Rattle.wasm_sem.specs.Types.{Module, Selection}
use Rattle.wasm_sem.specs.Execution.{IsFree}
use Rattle.static_info.specs.Info.{info_of}
use Rattle.static_info.specs.declared.Info.{Info}
use Rattle.instrument.specs.Made.{IsMade}
use Rattle.instrument.specs.Output.{output}
use Rattle.module_gen.specs.Made.{made}
use Rattle.analyses.specs.Tools.{ToolState}
use Rattle.app_load.specs.declared.printing.Printed.{Printed}
use Rattle.app_load.specs.declared.printing.Refusal.{Refusal}
use Rattle.app_load.specs.declared.printing.Refusal.TheVariants.{NoMemory}
use Rattle.app_load.specs.Ends.{memory_ended}
use Rattle.app_load.specs.Feeding.{fed, AreFedPart}
use Rattle.app_load.specs.Kinds.{all_reports}
use Rattle.app_load.specs.Outcomes.{Yields}
use Rattle.app_load.specs.Plans.{no_output, Ending, refuses, does, ends}
use Rattle.outside_io.specs.Outside.{ShelfState}
use Rattle.app_load.proofs.Contents.{none_read}
use Rattle.app_load.proofs.Within.{Within, WritesNone, mapped_within}
use Rattle.wasabi_app.specs.Making.{output_length}
use Rattle.wasabi_app.specs.Texts.{too_large_text}
use Rattle.wasabi_app.specs.Trying.{IsTold}
use Rattle.wasabi_app.specs.Hooking.{GetsNone}
use Rattle.wasabi_app.specs.Words.{Given}
use Rattle.wasabi_app.specs.Modes.Instrument.{bounded, untaken}
use Rattle.wasabi_app.specs.Modes.Trial.{all_hooks, first_steps, trial_number, second_steps, pair_effect, pair_events, pair_front, pair_plan, trial_mode, trial_plan}
use Rattle.wasabi_app.proofs.Hooking.{free_names, test_of}

module _ (number first second : ℕ) (m : Module) where
  abbrev long : ℕ
  long = output_length m all_hooks

  pair_well : long ≤ longest_file → pair_plan number first second m ≡ ends (does (pair_effect number first second m))
  pair_well few = ap (λ b. bounded b long (ends (does (pair_effect number first second m)))) (test_of long longest_file few)

  -- both were run, and what came of it is told
  pub tried : (at : ShelfState) (was is : List ToolState) (told : Printed) → long ≤ longest_file
      → IsTold number second (pair_front number first m) (output m all_hooks) (info_of m all_hooks) told
      → is ≡ fed all_reports (pair_events number second m) was → Yields (Some (pair_plan number first second m)) at at was is (Ok told)
  tried at was is told few t e =
      subst (λ p. Yields (Some p) at at was is (Ok told)) (sym (pair_well few)) (
        pair_effect number first second m,
        made_here (pair_effect number first second m) at was is refl e,
        t.status,
        t.text,
      )

  -- or memory ended on the way
  pub tried_part : (at : ShelfState) (was is : List ToolState) → long ≤ longest_file → AreFedPart all_reports (pair_events number second m) was is
      → Yields (Some (pair_plan number first second m)) at at was is (Err NoMemory)
  tried_part at was is few part =
      subst (λ p. Yields (Some p) at at was is (Err NoMemory)) (sym (pair_well few))
      (memory_ended 0 tt (none_read at) (inr (pair_effect number first second m, refl, part)))

  -- or there is no output
  pub untried : (subject : List ℕ) (at : ShelfState) (tools : List ToolState) (refusal : Refusal) → IsFree m → GetsNone subject m long longest_file refusal
      → Yields (Some (pair_plan number first second m)) at at tools tools (Err refusal)
  untried subject at tools refusal free none =
      subst (λ b. Yields (Some (untaken b subject (pair_plan number first second m))) at at tools tools (Err refusal)) (free_names m free)
      (none (ends (does (pair_effect number first second m))) at tools)

  pair_within : (P : Ending → Type 0) → ((text : List ℕ) → P (refuses no_output text)) → P (does (pair_effect number first second m))
      → Within P (pair_plan number first second m)
  pair_within P refused done = by (nat_le long longest_file)
    where
      by : (b : Bool) → Within P (bounded b long (ends (does (pair_effect number first second m))))
      by true = done
      by false = refused (too_large_text long)

  pair_writes_none : Within WritesNone (pair_plan number first second m)
  pair_writes_none = pair_within WritesNone (λ text. tt) refl

-- no file is written
pub trial_writes_none : (g : Given) → IfSome (trial_mode.plan g) (Within WritesNone)
trial_writes_none g = mapped_within WritesNone trial_plan (trial_number g.subject) (λ number. pair_writes_none number 10000000 1000000000 (made number))

-- the module is the one that is made of the number
pub of_number : (number : ℕ) (m : Module) (at : ShelfState) (was is : List ToolState) (result : Result Printed Refusal) → m ≡ made number
    → Yields (Some (pair_plan number first_steps second_steps m)) at at was is result → Yields (Some (trial_plan number)) at at was is result
of_number number m at was is result e y = subst (λ x. Yields (Some (pair_plan number first_steps second_steps x)) at at was is result) e y

-- ---- the output that is made for all groups

pub few_of : (m : Module) (hooks : Selection) (bytes : List ℕ) (info : Info) → hooks ≡ all_hooks → IsMade m hooks bytes info → length bytes ≤ longest_file
    → output_length m all_hooks ≤ longest_file
few_of m hooks bytes info all made fits =
    subst (λ h. output_length m h ≤ longest_file) all (subst (λ (b : List ℕ). length b ≤ longest_file) made.written fits)
